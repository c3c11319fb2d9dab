-- `Session::would_back` may call `unless_final`, by the lemmas of AfterLastMark.
use Rattle.std.proofs.Common.{Some, sym, ap, ◌∙◌}
use Rattle.mps_arena.specs.KeyedSteps.{steps}
use Rattle.mps_session.proofs.AfterLastMark.{first_there}
use Rattle.mps_session.proofs.session.Session.would_back.Goals as goal

pub unless_final-requires-clause-present : goal.unless_final-requires-clause-present
unless_final-requires-clause-present c =
    first_there c.args.name.now c.args.role (steps c.self.inside.configuration.log.keyed_steps) c.in-Some-Some.id c.self.invariant.holds.sound.rising
    (ap Some (sym c.in-Some-Some.field-0-is) ∙ sym c.in-Some-Some.is ∙ c.first_after.ensures)
