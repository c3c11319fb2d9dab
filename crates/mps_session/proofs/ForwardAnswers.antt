-- What the machine answers, from what a session keeps.
use Rattle.std.proofs.lemmas.List.{map-append}
use Rattle.mps_arena.specs.KeyedSteps.{steps}
use Rattle.std.proofs.Common.{◌≡◌, ◌+◌, ℕ, ◌<◌, ◌≤◌, List, length, Option, Some, None, Result, Ok, Err, sym, ap, ◌∙◌, arith}
use Rattle.std.specs.Option.{option_map}
use Rattle.std.proofs.lemmas.Bool.{cond-true, cond-false, lt-ltb, le-ltb}
use Rattle.mps_base.specs.declared.action.Act.{Act}
use Rattle.mps_base.specs.declared.action.Message.{Message}
use Rattle.mps_command.specs.declared.answer.Done.{Done}
use Rattle.mps_command.specs.declared.answer.Refusal.{Refusal}
use Rattle.mps_command.specs.declared.answer.Refusal.TheVariants.{Violation as Violates, Full}
use Rattle.mps_command.specs.declared.answer.Violation.{Violation}
use Rattle.mps_local.specs.Local.{LocalType}
use Rattle.mps_local.specs.Unfolding.{unfolded}
use Rattle.mps_machine.specs.Machine.{State, most_numbers, view_of, accepted, taken, unless, full_fault, done_by, forward}
use Rattle.mps_machine.specs.View.{View}
use Rattle.mps_machine.specs.Violations.{act_fault, violation}
use Rattle.mps_table.proofs.Standing.{node_stands}
use Rattle.mps_table.specs.Graph.{IsNode}
use Rattle.mps_table.specs.Standing.{StandsFor}
use Rattle.mps_session.specs.Private.Configurations.{Lists, cursor_of, state_of, moved_in, StandsAt, fault_in, LeadsTo, IsReady, HasActed}
use Rattle.mps_session.specs.Private.Invariant.{Holds}
use Rattle.mps_session.specs.SessionState.{SessionState}
use Rattle.mps_session.proofs.HoldsAfterAct as accepting

-- what the role is answered then
abbrev pub done_in : Lists → ℕ → Act → Done
done_in c p act = record { id = c.issued + 1; got = taken act (moved_in c p act) }

module _ (types : List LocalType) (st : State) (p : ℕ) (act : Act) where
  abbrev new : Result Done Refusal × State
  new = (Ok (done_by types st p act), accepted st p act)

  -- what is answered where that is wrong with the act, and then that with the numbers
  abbrev answered : Option Violation → Option Refusal → Result Done Refusal × State
  answered fault full = unless (option_map Violates fault) st (unless full st new)

  answers_fault : (fault : Violation) → violation (view_of types st.history) p act ≡ Some fault → forward types st p act ≡ (Err (Violates fault), st)
  answers_fault fault e = ap (λ (f : Option Violation). answered f (full_fault st)) e

  answers_done : violation (view_of types st.history) p act ≡ None → st.next ≤ most_numbers → forward types st p act ≡ new
  answers_done e room = grind (arith, cond-false, le-ltb)

module _ (types : List LocalType) (c : Lists) (holds : Holds types c) (now : SessionState) (is : ◌≡◌ {A = SessionState} (record { types = types; state = state_of c }) now) (p : ℕ) (within : p < length now.types) where
  pub in_types : p < length types
  in_types = omega (arith, within, ap (λ (m : SessionState). length m.types) is)

  pub in_cursors : p < length c.cursors
  in_cursors = omega (arith, in_types, holds.cursors.long)

  abbrev v : View
  v = view_of types (steps c.keyed_steps)

  pub stands : StandsAt c p (v.participant p).to_come
  stands = holds.cursors.each p in_types

  pub is_node : IsNode (cursor_of c p).table (cursor_of c p).node
  is_node = node_stands (cursor_of c p).table (cursor_of c p).node (v.participant p).to_come stands

  module _ (act : Act) where
    machine_is : forward types (state_of c) p act ≡ forward now.types now.state p act
    machine_is = ap (λ (m : SessionState). forward m.types m.state p act) is

    -- what the definition says of the act, where it is said of each type for which the role's node stands
    pub found : (fault : Option Violation) → ((t : LocalType) → StandsAt c p t → fault_in c p act t ≡ fault) → violation v p act ≡ fault
    found fault each =
        ap (act_fault (unfolded (v.participant p).to_come) act) (sym (accepting.moves_the_same types c holds p act))
        ∙ each (v.participant p).to_come stands

    pub refused : (fault : Violation) → ((t : LocalType) → StandsAt c p t → fault_in c p act t ≡ Some fault) → Err (Violates fault) ≡ (forward now.types now.state p act).0
    refused fault each = grind (arith, answers_fault types (state_of c) p act fault (found (Some fault) each))

    module _ (each : (t : LocalType) → StandsFor (cursor_of c p).table (cursor_of c p).node t → act_fault (unfolded t) act (moved_in c p act) ≡ None) where
      pub fine : violation v p act ≡ None
      fine = found None each

      pub full : most_numbers ≤ c.issued → Err Full ≡ (forward now.types now.state p act).0
      full past = grind (arith, cond-true, lt-ltb, fine, machine_is)

      pub ready : IsReady c p act
      ready =
          let on = accepting.moves_on types c holds p act fine in
          accepting.ready types c holds p act in_types fine on.0 on.1

      pub done : c.issued < most_numbers → forward now.types now.state p act ≡ (Ok (done_in c p act), accepted (state_of c) p act)
      done room =
          sym machine_is ∙ answers_done types (state_of c) p act fine (omega (arith, room))
          ∙ ap (λ (m : Option Message). let r : Result Done Refusal × State = (Ok (record { id = c.issued + 1; got = taken act m }), accepted (state_of c) p act) in r) (sym (accepting.moves_the_same types c holds p act))

      pub holds_then : (node : ℕ) (next : Lists) → LeadsTo c p act node → HasActed p act node c next → c.issued < most_numbers → Holds types next
      holds_then node next follows acted room =
          let on = accepting.moves_on types c holds p act fine in
          accepting.acted_holds types c holds p act in_types fine on.0 on.1 node (follows (v.participant p) on.0 stands on.1) next acted room

      pub state_then : (node : ℕ) (next : Lists) → HasActed p act node c next → state_of next ≡ accepted (state_of c) p act
      state_then node next acted = grind (arith, map-append)
