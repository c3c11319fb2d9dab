-- How a split goes on with more bytes.
use Rattle.std.proofs.Common.{◌≡◌, ℕ, suc, ◌+◌, ◌-◌, ◌≤◌, Result, cond, List, [], ◌∷◌, ◌++◌, length, take, min, refl, ap, arith, append_assoc, append-nil}
use Rattle.std.specs.Prelude.{is_ok, OnOk}
use Rattle.std.proofs.lemmas.Bool.{cases_lt}
use Rattle.std.specs.List.{AllByRecursion}
use Rattle.std.proofs.lemmas.List.{take_all}
use Rattle.std.proofs.lemmas.List.Concat.{flat_map-append}
use Rattle.std.proofs.Math.Seq.{take-append-add}
use Rattle.mps_lines.specs.Lines.{HasNoBreak, IsSplit, most_kept, front}

pub AllByRecursion-append : {A : Type 0} (P : A → Type 0) (xs ys : List A) → AllByRecursion P xs → AllByRecursion P ys → AllByRecursion P (xs ++ ys)
AllByRecursion-append P [] ys a b = b
AllByRecursion-append P (x ∷ xs) ys a b = (a.0, AllByRecursion-append P xs ys a.1 b)

pub split_nothing : IsSplit [] [] []
split_nothing = record { whole = refl; each = tt; unended = tt }

-- more of the line that comes
pub split_more : (bytes : List ℕ) (lines : List (List ℕ)) (rest more : List ℕ) → IsSplit bytes lines rest → HasNoBreak more → IsSplit (bytes ++ more) lines (rest ++ more)
split_more bytes lines rest more s h = grind (arith, append_assoc, AllByRecursion-append)

-- the line is ended
pub split_ended : (bytes : List ℕ) (lines : List (List ℕ)) (rest : List ℕ) → IsSplit bytes lines rest → IsSplit (bytes ++ 10 ∷ []) (lines ++ rest ∷ []) []
split_ended bytes lines rest s = grind (arith, append_assoc, append-nil, flat_map-append, AllByRecursion-append)

front_of : (n : ℕ) (line more : List ℕ) → take n (take n line ++ more) ≡ take n (line ++ more)
front_of (suc n) (x ∷ line) more = ap (λ l. x ∷ l) (front_of n line more)
front_of other others more = refl

-- the front of a line, from the front of its front
pub front_front : (line more : List ℕ) → front (front line ++ more) ≡ front (line ++ more)
front_front line more = front_of most_kept line more

-- a short line is its own front
pub front_short : (line : List ℕ) → length line ≤ most_kept → front line ≡ line
front_short line h = take_all most_kept line h

-- no more than all can be taken
pub take_min : (n : ℕ) (xs : List ℕ) → take (min n (length xs)) xs ≡ take n xs
take_min n xs = grind (arith, take_all, cases_lt)

-- what fits after a line that is no longer than is kept
pub front_fits : (line piece : List ℕ) → length line ≤ most_kept → line ++ take (min (most_kept - length line) (length piece)) piece ≡ front (line ++ piece)
front_fits line piece h = grind (arith, take_min (most_kept - length line) piece, take-append-add line piece (most_kept - length line))

-- what a call leaves that appends or fails
pub on_ok_items : {A E : Type 0} (r : Result A E) (new a b goal : List ℕ) → new ≡ cond (is_ok r) a b → a ≡ goal → OnOk r (new ≡ goal)
on_ok_items r new a b goal e f = grind arith
