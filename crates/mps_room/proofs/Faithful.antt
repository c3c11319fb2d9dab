-- What a room answers in a session of one protocol.
use Rattle.std.proofs.Common.{arith, ◌≡◌, ◌≢◌, ℕ, List, [], ◌∷◌, length, subst}
use Rattle.mps_command.specs.declared.answer.Answer.{Answer}
use Rattle.mps_command.specs.declared.answer.Answer.TheVariants.{Refused}
use Rattle.mps_command.specs.declared.answer.Refusal.TheVariants.{Violation as Violates}
use Rattle.mps_command.specs.declared.answer.Violation.TheVariants.{Mismatch}
use Rattle.mps_command.specs.declared.command.Change.TheVariants as changes
use Rattle.mps_command.specs.declared.command.Command.{Command}
use Rattle.mps_command.specs.declared.command.Command.TheVariants.{Forward, Undo, Rollback, Back, News, Show, Stand}
use Rattle.mps_fidelity.specs.Fidelity.{AreOfOneProtocol}
use Rattle.mps_fidelity.proofs.Refusals.{sound_other}
use Rattle.mps_local.specs.Local.{LocalType}
use Rattle.mps_machine.specs.Machine.{State, initial, IsSound}
use Rattle.mps_machine.proofs.Sound.{initial_sound, serve_sound}
use Rattle.mps_room.specs.Journal.{after_command, run_from, run, limited, answer_to, MayAnswer}
use Rattle.mps_room.specs.declared.entry.Entry.{Entry}

-- the state after the commands of a journal is one that the machine comes to
pub run_sound : (types : List LocalType) (st : State) (j : List Entry) → IsSound types st → IsSound types (run_from types st j)
run_sound types st [] ok = ok
run_sound types st (e ∷ j) ok = run_sound types (after_command types st e.role e.command) j (after_sound e.command)
  where
    after_sound : (c : Command) → IsSound types (after_command types st e.role c)
    after_sound (Forward step) = serve_sound types st e.role (changes.Forward step) ok
    after_sound (Undo n) = serve_sound types st e.role (changes.Undo n) ok
    after_sound (Rollback n) = serve_sound types st e.role (changes.Rollback n) ok
    after_sound (Back name) = serve_sound types st e.role (changes.Back name) ok
    after_sound (News n) = ok
    after_sound Show = ok
    after_sound Stand = ok

abbrev pub mismatch : Answer
mismatch = Refused (Violates Mismatch)

limited_other : (n : ℕ) (a : Answer) → a ≢ mismatch → limited n a ≢ mismatch
limited_other n a other = grind arith

-- a mismatch that is answered is the one that is wanted
wanted_too : (wanted : Answer) → MayAnswer mismatch wanted → wanted ≡ mismatch
wanted_too wanted h = grind arith

module _ (names : List (List ℕ)) (types : List LocalType) (own : AreOfOneProtocol types) where
  sound : (j : List Entry) → IsSound types (run types j)
  sound j = run_sound types initial j (initial_sound types)

  answer_to_other : (j : List Entry) (p : ℕ) (c : Command) → answer_to names types j p c ≢ mismatch
  answer_to_other j p (Forward step) = limited_other (length j) _ (sound_other types (run types j) p (changes.Forward step) own (sound j))
  answer_to_other j p (Undo n) = grind (arith, sound_other, run_sound, initial_sound)
  answer_to_other j p (Rollback n) = grind (arith, sound_other, run_sound, initial_sound)
  answer_to_other j p (Back name) = grind (arith, sound_other, run_sound, initial_sound)
  answer_to_other j p other = λ e. cc

  pub answer_other : (j : List Entry) (p : ℕ) (c : Command) (a : Answer) → MayAnswer a (answer_to names types j p c) → a ≢ mismatch
  answer_other j p c a says e = answer_to_other j p c (wanted_too (answer_to names types j p c) (subst (λ (x : Answer). MayAnswer x (answer_to names types j p c)) e says))
