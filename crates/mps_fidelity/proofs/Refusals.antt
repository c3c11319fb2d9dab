-- A message that is expected is no mismatch.
use Rattle.std.proofs.Common.{arith, ◌≢◌, ℕ, List, [], ◌∷◌, Some}
use Rattle.std.specs.List.{AllByRecursion}
use Rattle.std.proofs.lemmas.Bool.{eqb-true}
use Rattle.mps_base.specs.declared.action.Act.{Act}
use Rattle.mps_command.specs.declared.answer.Violation.TheVariants.{Mismatch}
use Rattle.mps_command.specs.declared.command.Change.{Change}
use Rattle.mps_local.specs.Local.{LocalType}
use Rattle.mps_machine.specs.Machine.{State, initial, Request, serve, answers, IsSound}
use Rattle.mps_machine.specs.View.{View}
use Rattle.mps_machine.specs.Violations.{violation}
use Rattle.mps_machine.proofs.Sound.{initial_sound, serve_sound}
use Rattle.mps_fidelity.specs.Fidelity.{AreOfOneProtocol, IsFaithful, mismatch}
use Rattle.mps_fidelity.proofs.Faithful.{sound_faithful}

pub no_mismatch : (v : View) → IsFaithful v → (p : ℕ) (act : Act) → violation v p act ≢ Some Mismatch
no_mismatch v f p act e = grind (arith, eqb-true)

pub sound_other : (types : List LocalType) (st : State) (p : ℕ) (command : Change) → AreOfOneProtocol types → IsSound types st → (serve types st p command).0 ≢ mismatch
sound_other types st p command own ok = grind (arith, no_mismatch, sound_faithful)

answers_from : (types : List LocalType) (st : State) (rs : List Request) → AreOfOneProtocol types → IsSound types st → AllByRecursion (λ a. a ≢ mismatch) (answers types st rs)
answers_from types st [] own ok = tt
answers_from types st (r ∷ rs) own ok = grind (arith, sound_other types st r.0 r.1 own ok, answers_from types (serve types st r.0 r.1).1 rs own (serve_sound types st r.0 r.1 ok))

pub always_other : (types : List LocalType) (rs : List Request) → AreOfOneProtocol types → AllByRecursion (λ a. a ≢ mismatch) (answers types initial rs)
always_other types rs own = answers_from types initial rs own (initial_sound types)
