-- `split_wait` meets its clause `none`: what stands after `wait` is known.
use Rattle.std.proofs.Common.{arith, ◌≡◌, ℕ, List, [], ◌∷◌, codes, sym, ◌∙◌}
use Rattle.std.specs.Prelude.{Option, None, Some, IfNone}
use Rattle.mps_base.specs.Spaced.{spaced}
use Rattle.mps_line.specs.Commands.{SpellsWait}
use Rattle.mps_line.specs.Tokens.{Number}
use Rattle.mps_line.specs.Private.Tokens.{HasNoSpace, BeginsWith}
use Rattle.mps_line.proofs.Splitting.{one_split}
use Rattle.mps_line.proofs.read_conversations.split_wait.Goals as goal

one_word : HasNoSpace (codes "wait")
one_word = grind arith

after_wait : (bytes rest : List ℕ) → bytes ≡ spaced (codes "wait" ∷ rest ∷ []) → (limit : ℕ) (line : List ℕ) → SpellsWait bytes limit line → BeginsWith [] rest (Number limit) line
after_wait bytes rest e limit line w = record {
  front = w.digits;
  parts = (one_split (codes "wait") (codes "wait") rest (spaced (w.digits ∷ line ∷ [])) one_word one_word (sym e ∙ w.parts)).1;
  spelled = w.spelled;
}

no_wait : {T : Type 0} (found : Option T) (bytes rest : List ℕ) → bytes ≡ spaced (codes "wait" ∷ rest ∷ []) → IfNone found ((n : ℕ) (other : List ℕ) → BeginsWith [] rest (Number n) other → ⊥) → IfNone found ((limit : ℕ) (line : List ℕ) → SpellsWait bytes limit line → ⊥)
no_wait None bytes rest e none = λ limit line w. none limit line (after_wait bytes rest e limit line w)
no_wait (Some x) bytes rest e none = tt

pub returns-clause-none : goal.returns-clause-none
returns-clause-none c = no_wait _ _ _ c.in_ok-after_word.ensures.read c.split_number.ensures.none
