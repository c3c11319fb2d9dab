-- A block of bytes, line by line.
use Rattle.std.proofs.Common.{◌≡◌, ℕ, ◌+◌, ◌-◌, ◌<◌, ◌≤◌, List, [], ◌∷◌, ◌++◌, length, take, drop, get_or, sym, ap, ◌∙◌, subst, arith, append_assoc, append-nil, length-drop}
use Rattle.std.proofs.Math.Seq.{take-add}
use Rattle.std.proofs.lemmas.List.{take_rest, take_more, drop-drop, take-append-drop}
use Rattle.mps_wire.specs.Answers.{Answering, AnswersBytes}
use Rattle.mps_wire.specs.Private.Places.{Place, TakesBytes}
use Rattle.mps_lines.specs.Lines.{HasNoBreak, ended, front}
use Rattle.mps_wire.proofs.Answering.{GoesByFront, answered_more, answered_line}

-- what was made of the bytes up to the rest
pub record Feeding {S : Type 0} (answers : Answering S) (start : S) (old : Place S) (bytes rest : List ℕ) (now : Place S) : Type 0 where
  pub within : length rest ≤ length bytes
  pub left : rest ≡ drop (length bytes - length rest) bytes
  pub taken : TakesBytes answers start (take (length bytes - length rest) bytes) old now

module _ {S : Type 0} (answers : Answering S) (start : S) (old : Place S) (bytes : List ℕ) where
  pub feeding_begins : Feeding answers start old bytes bytes old
  feeding_begins = grind (arith, append-nil)

  -- a line more, whose front is kept and then answered
  pub feeds_on : GoesByFront answers → (rest kept text : List ℕ) (k : ℕ) (now next : Place S) → Feeding answers start old bytes rest now → k < length rest → get_or rest k 0 ≡ 10 → HasNoBreak (take k rest) → kept ≡ front (now.kept ++ take k rest) → answers kept now.state text next.state → next.waiting ≡ now.waiting ++ ended text → next.kept ≡ [] → Feeding answers start old bytes (take (length rest - (k + 1)) (drop (k + 1) rest)) next
  feeds_on by_front rest kept text k now next f less is none kept_is line waiting_is empty =
      let n = length bytes - length rest in
      let tail : take (length rest - (k + 1)) (drop (k + 1) rest) ≡ drop (k + 1) rest = take_rest rest (k + 1) in
      let long : length (drop (k + 1) rest) ≡ length rest - (k + 1) = length-drop (k + 1) rest in
      let past : length bytes - length (drop (k + 1) rest) ≡ n + (k + 1) = omega (arith, f.within, long, less) in
      let piece = take k rest in
      let one : take (k + 1) rest ≡ piece ++ 10 ∷ [] = take_more rest k 0 less ∙ ap (λ (c : ℕ). piece ++ c ∷ []) is in
      let step : take (n + (k + 1)) bytes ≡ take n bytes ++ (piece ++ 10 ∷ []) = take-add n (k + 1) bytes ∙ ap (λ (l : List ℕ). take n bytes ++ take (k + 1) l) (sym f.left) ∙ ap (λ (l : List ℕ). take n bytes ++ l) one in
      let goal : Feeding answers start old bytes (drop (k + 1) rest) next = record {
        within = omega (arith, f.within, long);
        left = ap (drop (k + 1)) f.left ∙ drop-drop (k + 1) n bytes ∙ ap (λ (j : ℕ). drop j bytes) (sym past);
        taken = λ before out a.
            let had = f.taken before out a in
            let whole : (before ++ take n bytes ++ piece) ++ 10 ∷ [] ≡ before ++ take (length bytes - length (drop (k + 1) rest)) bytes =
            append_assoc (before ++ take n bytes) piece (10 ∷ []) ∙ append_assoc before (take n bytes) (piece ++ 10 ∷ []) ∙ ap (λ (l : List ℕ). before ++ l) (sym step ∙ ap (λ (j : ℕ). take j bytes) (sym past)) in
            let more = answered_more answers start now.state (before ++ take n bytes) now.kept (out ++ had.0) piece had.2 none in
            let more' = subst (λ (x : List ℕ). AnswersBytes answers start (before ++ take n bytes ++ piece) x (out ++ had.0) now.state) (sym kept_is) more in
            let after = answered_line answers start by_front now.state next.state (before ++ take n bytes ++ piece) kept (out ++ had.0) text more' line in grind (arith, append_assoc);
      } in
      subst (λ (r : List ℕ). Feeding answers start old bytes r next) (sym tail) goal

  -- the rest has no LF: its front is kept
  pub feeding_ends : (rest : List ℕ) (now next : Place S) → Feeding answers start old bytes rest now → HasNoBreak rest → next.kept ≡ front (now.kept ++ rest) → next.state ≡ now.state → next.waiting ≡ now.waiting → TakesBytes answers start bytes old next
  feeding_ends rest now next f none kept_is same_state same_waiting before out a =
      let n = length bytes - length rest in
      let had = f.taken before out a in
      let more = answered_more answers start now.state (before ++ take n bytes) now.kept (out ++ had.0) rest had.2 none in
      grind (arith, append_assoc, take-append-drop)
