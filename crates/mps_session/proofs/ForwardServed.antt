-- What comes of a step that a session does, or refuses.
use Rattle.std.proofs.lemmas.Result.{err_from_is_err_and}
use Rattle.std.specs.Prelude.{IsErrAnd, is_ok, ⊤}
use Rattle.std.proofs.Common.{arith, ◌≡◌, ◌+◌, ℕ, ◌<◌, List, length, Option, None, Result, Ok, Err, refl, sym, ap, ◌∙◌}
use Rattle.mps_base.specs.declared.action.Act.{Act}
use Rattle.mps_base.specs.declared.action.Message.{Message}
use Rattle.mps_command.specs.Acts.{act_of}
use Rattle.mps_command.specs.declared.answer.Done.{Done}
use Rattle.mps_command.specs.declared.answer.Refusal.{Refusal}
use Rattle.mps_command.specs.declared.answer.Refusal.TheVariants.{Violation as Violates, Full, Memory}
use Rattle.mps_command.specs.declared.command.Forward.{Forward}
use Rattle.mps_local.specs.Local.{LocalType}
use Rattle.mps_machine.specs.Machine.{State, most_numbers, taken, forward}
use Rattle.mps_machine.specs.Answering.{IsAnswer, IsServed}
use Rattle.mps_session.specs.Answers.{once}
use Rattle.mps_session.specs.Private.Configurations.{Lists, state_of, moved_in, StandsAt, fault_in, LeadsTo, HasActed, IsBarred, taken_from}
use Rattle.mps_session.specs.Private.Invariant.{Holds}
use Rattle.mps_session.specs.SessionState.{SessionState}
use Rattle.mps_session.proofs.ForwardAnswers as serving

-- where no message is taken
pub none_taken : (command : Forward) (m : Option Message) → taken_from command ≡ None → None ≡ taken (act_of command) m
none_taken command m e = grind arith

module _ (types : List LocalType) (c : Lists) (holds : Holds types c) (now : SessionState) (is : ◌≡◌ {A = SessionState} (record { types = types; state = state_of c }) now) (p : ℕ) (within : p < length now.types) (command : Forward) where
  abbrev act : Act
  act = act_of command

  barred : (refusal : Refusal) → IsBarred c p act refusal → IsAnswer (Err refusal) (forward now.types now.state p act).0
  barred (Violates fault) h = serving.refused types c holds now is p within act fault h
  barred Full h = serving.full types c holds now is p within act h.1 h.0
  barred refusal h = absurd h

  -- a refusal changes nothing
  failed : {B : Type 0} (r : Result (Done × B) Refusal) (refusal : Refusal) → r ≡ Err refusal → IsAnswer (Err refusal) (forward now.types now.state p act).0 → (new : State) → new ≡ now.state → IsServed ⊤ (once r) now.state new (forward now.types now.state p act)
  failed r refusal e answer new same = rw (e, same) (record { answer = answer; state = tt; err = refl; starved = λ m. tt })

  pub refused_by : {B : Type 0} (r : Result (Done × B) Refusal) (refusal : Refusal) → IsErrAnd r (λ e. e ≡ refusal) → IsBarred c p act refusal → (new : State) → new ≡ now.state → IsServed ⊤ (once r) now.state new (forward now.types now.state p act)
  refused_by r refusal was h new same = grind (arith, err_from_is_err_and, failed, barred)

  module _ (each : (t : LocalType) → StandsAt c p t → fault_in c p act t ≡ None) (room : c.issued < most_numbers) where
    -- memory may run out where the machine accepts
    pub starved : {B : Type 0} (r : Result (Done × B) Refusal) → IsErrAnd r (λ e. e ≡ Memory) → (new : State) → new ≡ now.state → IsServed ⊤ (once r) now.state new (forward now.types now.state p act)
    starved r was new same =
        let e = err_from_is_err_and r was in
        failed r Memory (e.1 ∙ ap Err e.2) (ap is_ok (ap (λ (x : Result Done Refusal × State). x.0) (serving.done types c holds now is p within act each room))) new same

    module _ (node : ℕ) (follows : LeadsTo c p act node) (next : Lists) (acted : HasActed p act node c next) where
      pub holds_then : Holds types next
      holds_then = serving.holds_then types c holds now is p within act each node next follows acted room

      pub done : (id : ℕ) (got : Option Message) (told : Done) → told ≡ record { id = id; got = got } → id ≡ c.issued + 1 → got ≡ taken act (moved_in c p act) → IsServed ⊤ (Ok told) now.state (state_of next) (forward now.types now.state p act)
      done id got told told_is id_is got_is =
          let whole = serving.done types c holds now is p within act each room in
          record {
            answer =
                (cc);
            state = serving.state_then types c holds now is p within act each node next acted ∙ ap (λ (r : Result Done Refusal × State). r.1) (sym whole);
            err = tt;
            starved = λ m. tt;
          }
