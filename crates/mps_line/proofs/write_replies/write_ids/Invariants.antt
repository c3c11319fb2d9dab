-- A line goes on with the steps before this one.
use Rattle.std.proofs.Common.{ℕ, List, [], ◌∷◌, ◌++◌, take}
use Rattle.std.specs.Prelude.{⊤, map}
use Rattle.mps_base.specs.Appends.{AppendsSuch}
use Rattle.mps_line.specs.Tokens.{Token, Number, SpellsLine}
use Rattle.mps_line.proofs.write_replies.write_ids.Given as goal

abbrev pub invariant-loop-id : goal.invariant-loop-id
invariant-loop-id l =
    AppendsSuch (λ text. ⊤) l.fn.out.items l.out.items
    × ((start : List ℕ) (first : Token) (others : List Token)
    → AppendsSuch (λ text. SpellsLine [] text (first ∷ others)) start l.fn.out.items
    → AppendsSuch (λ text. SpellsLine [] text (first ∷ (others ++ map Number (take l.id-index l.ids)))) start l.out.items)
