-- What a session keeps after a step was removed.
use Rattle.std.specs.Prelude.{◌≡◌, ◌==◌, not, slice_set}
use Rattle.std.specs.List.{filter}
use Rattle.mps_arena.specs.KeyedSteps.{KeyedStep, AreSound}
use Rattle.mps_session.specs.Private.Configurations.{Lists, cursor_of}
use Rattle.mps_session.specs.Private.Cursors.{went}

-- the keyed step is removed, and its role stands where it stood before
pub record HasLeft (e : KeyedStep) (old new : Lists) : Type 0 where
  pub cursors : new.cursors ≡ slice_set old.cursors e.step.role (went e.before.at (cursor_of old e.step.role))
  pub keyed_steps : new.keyed_steps ≡ filter (λ other. not (other.key == e.key)) old.keyed_steps
  pub issued : new.issued ≡ old.issued
  pub sound : AreSound new.keyed_steps
