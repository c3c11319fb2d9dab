-- `mps_line` meets its clause `known`.
use Rattle.std.proofs.Common.{◌≡◌, ◌∙◌, Some, slice_get, sym, ap, subst}
use Rattle.mps_embed.specs.Embedded.{EmbeddedState, IsAnswered}
use Rattle.mps_c.proofs.mps_line.Goals as goal

pub returns-clause-known : goal.returns-clause-known
returns-clause-known c place named = λ whole.
    subst (λ (e : EmbeddedState). IsAnswered e place c.args.line.now c.line.new.room) c.room.ensures.value
    (c.line.ensures.known place (subst (λ (e : EmbeddedState). slice_get e.room.names place ≡ Some c.args.role.now) (sym c.room.ensures.value) named) (ap (λ (e : EmbeddedState). e.whole) c.room.ensures.value ∙ whole))
