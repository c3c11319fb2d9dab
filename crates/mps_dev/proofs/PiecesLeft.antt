-- Lemmas on the pieces that are left.
use Rattle.std.proofs.Common.{◌≡◌, ◌∙◌, ℕ, ◌+◌, ◌<◌, ◌≤◌, List, [], ◌∷◌, ◌++◌, length, get_or, take, drop, map, min, refl, sym, ap, arith, append_assoc, take-append-drop, length-drop, drop-drop, vec_items}
use Rattle.std.proofs.Math.Logic.{⊎_elim}
use Rattle.std.proofs.lemmas.Bool.{cases_lt}
use Rattle.std.proofs.lemmas.List.{drop_more}
use Rattle.std.proofs.lemmas.Grind.{common_steps}
use Rattle.std.specs.List.{concat, flat_map}
use Rattle.std.specs.Prelude.{Vec}
use Rattle.mps_dev.specs.Pieces.{non_empty, past, first_piece, left_from}

-- a piece with bytes stays
pub non_empty-cons : (piece : List ℕ) (pieces : List (List ℕ)) → 0 < length piece → non_empty (piece ∷ pieces) ≡ piece ∷ non_empty pieces
non_empty-cons [] pieces some = absurd (omega arith)
non_empty-cons (b ∷ bs) pieces some = refl

-- one with none goes
pub non_empty-none : (piece : List ℕ) (pieces : List (List ℕ)) → length piece ≤ 0 → non_empty (piece ∷ pieces) ≡ non_empty pieces
non_empty-none [] pieces none = refl
non_empty-none (b ∷ bs) pieces none = absurd (omega arith)

-- the bytes are the same without the pieces that have none
pub concat-non_empty : (pieces : List (List ℕ)) → concat (non_empty pieces) ≡ concat pieces
concat-non_empty [] = refl
concat-non_empty ([] ∷ pieces) = concat-non_empty pieces
concat-non_empty ((b ∷ bs) ∷ pieces) = ap (λ l. (b ∷ bs) ++ l) (concat-non_empty pieces)

-- leaving them out twice is leaving them out once
pub non_empty-non_empty : (pieces : List (List ℕ)) → non_empty (non_empty pieces) ≡ non_empty pieces
non_empty-non_empty [] = refl
non_empty-non_empty ([] ∷ pieces) = non_empty-non_empty pieces
non_empty-non_empty ((b ∷ bs) ∷ pieces) = ap (λ l. (b ∷ bs) ∷ l) (non_empty-non_empty pieces)

-- after a piece the others may be left out before or after
pub non_empty-again : (piece : List ℕ) (pieces : List (List ℕ)) → non_empty (piece ∷ non_empty pieces) ≡ non_empty (piece ∷ pieces)
non_empty-again [] pieces = non_empty-non_empty pieces
non_empty-again (b ∷ bs) pieces = ap (λ l. (b ∷ bs) ∷ l) (non_empty-non_empty pieces)

pub past-zero : (pieces : List (List ℕ)) → past 0 pieces ≡ pieces
past-zero [] = refl
past-zero (piece ∷ pieces) = refl

-- nothing is left past the last piece
pub left_from-end : (next given : ℕ) (pieces : List (List ℕ)) → length pieces ≤ next → left_from next given pieces ≡ []
left_from-end next given pieces past_all =
    let none : drop next pieces ≡ [] = grind (arith, common_steps) in ap (λ l. non_empty (past given l)) none

-- what is left at a piece
pub left_from-at : (next given : ℕ) (pieces : List (List ℕ)) → next < length pieces
    → left_from next given pieces ≡ non_empty (drop given (get_or pieces next []) ∷ drop (next + 1) pieces)
left_from-at next given pieces within = ap (λ l. non_empty (past given l)) (drop_more pieces next [] within)

-- a piece that is read to its end is passed
pub left_from-passed : (next given : ℕ) (pieces : List (List ℕ)) → next < length pieces → length (get_or pieces next []) ≤ given
    → left_from (next + 1) 0 pieces ≡ left_from next given pieces
left_from-passed next given pieces within read =
    let short : length (drop given (get_or pieces next [])) ≤ 0 = omega (arith, length-drop given (get_or pieces next [])) in
    ap non_empty (past-zero (drop (next + 1) pieces)) ∙ sym (non_empty-none (drop given (get_or pieces next [])) (drop (next + 1) pieces) short) ∙ sym (left_from-at next given pieces within)

-- the pieces' bytes are those of the vectors in a row
pub concat-items : {Z : Type 0} (vs : List (Vec ℕ Z)) → concat (map vec_items vs) ≡ flat_map vec_items vs
concat-items [] = refl
concat-items (v ∷ vs) = ap (λ l. vec_items v ++ l) (concat-items vs)

pub concat-left_from_start : {Z : Type 0} (vs : List (Vec ℕ Z)) → concat (left_from 0 0 (map vec_items vs)) ≡ flat_map vec_items vs
concat-left_from_start vs = concat-non_empty (past 0 (map vec_items vs)) ∙ ap concat (past-zero (map vec_items vs)) ∙ concat-items vs

-- n bytes more of a piece, of which bytes are left
pub left_from-read : (next given n : ℕ) (pieces : List (List ℕ)) → (next < length pieces → given < length (get_or pieces next []))
    → left_from next (given + n) pieces ≡ non_empty (past n (left_from next given pieces))
left_from-read next given n pieces found =
    ⊎_elim at end (cases_lt next (length pieces))
  where
    end : length pieces ≤ next → left_from next (given + n) pieces ≡ non_empty (past n (left_from next given pieces))
    end past_all = left_from-end next (given + n) pieces past_all ∙ sym (ap (λ l. non_empty (past n l)) (left_from-end next given pieces past_all))

    at : next < length pieces → left_from next (given + n) pieces ≡ non_empty (past n (left_from next given pieces))
    at within =
        let piece = get_or pieces next [] in
        let others = drop (next + 1) pieces in
        let some : 0 < length (drop given piece) = omega (arith, found within, length-drop given piece) in
        let here : left_from next given pieces ≡ drop given piece ∷ non_empty others = left_from-at next given pieces within ∙ non_empty-cons (drop given piece) others some in
        left_from-at next (given + n) pieces within ∙ ap (λ l. non_empty (l ∷ others)) (sym (drop-drop n given piece)) ∙ sym (non_empty-again (drop n (drop given piece)) others) ∙ sym (ap (λ l. non_empty (past n l)) here)

-- the bytes given were the first that were left
pub concat-past : (pieces : List (List ℕ)) (n : ℕ) (old new : List ℕ) → n ≤ length (first_piece pieces) → new ≡ take n (first_piece pieces) ++ drop n old
    → concat pieces ≡ take n new ++ concat (non_empty (past n pieces))
concat-past [] n old new within given =
    let none : n ≡ 0 = omega arith in rw none refl
concat-past (piece ∷ pieces) n old new within given =
    let front : take n new ≡ take n piece = ap (take n) given ∙ grind (arith, common_steps) in
    ap (λ l. l ++ concat pieces) (sym (take-append-drop n piece)) ∙ append_assoc (take n piece) (drop n piece) (concat pieces)
    ∙ ap (λ l. l ++ (drop n piece ++ concat pieces)) (sym front) ∙ ap (λ l. take n new ++ l) (sym (concat-non_empty (drop n piece ∷ pieces)))

-- no piece is left where the next one has no bytes
pub non_empty-end : (pieces : List (List ℕ)) → length (first_piece (non_empty pieces)) ≤ 0 → non_empty pieces ≡ []
non_empty-end [] none = refl
non_empty-end ([] ∷ pieces) none = non_empty-end pieces none
non_empty-end ((b ∷ bs) ∷ pieces) none = absurd (omega arith)

-- what a read of n bytes says of the bytes that are left
pub concat-left_from-read : (next given n : ℕ) (pieces left : List (List ℕ)) (old new : List ℕ)
    → (next < length pieces → given < length (get_or pieces next []))
    → left_from next given pieces ≡ left → n ≡ min (length (first_piece left)) (length old) → new ≡ take n (first_piece left) ++ drop n old
    → (concat left ≡ take n new ++ concat (left_from next (given + n) pieces)) × (n ≡ 0 → 0 < length old → concat (left_from next (given + n) pieces) ≡ [])
concat-left_from-read next given n pieces left old new found same count copied =
    let after : left_from next (given + n) pieces ≡ non_empty (past n left) = left_from-read next given n pieces found ∙ ap (λ l. non_empty (past n l)) same in
    let within : n ≤ length (first_piece left) = omega arith in
    let moved : concat left ≡ take n new ++ concat (left_from next (given + n) pieces) = concat-past left n old new within copied ∙ ap (λ l. take n new ++ concat l) (sym after) in (
      moved,
      λ none room.
          let short : length (first_piece (left_from next given pieces)) ≤ 0 = rw same (omega arith) in
          let gone : left ≡ [] = sym same ∙ non_empty-end (past given (drop next pieces)) short in
          ap concat (after ∙ ap (λ l. non_empty (past n l)) gone),
    )
