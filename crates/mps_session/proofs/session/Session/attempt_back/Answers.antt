-- `Session::attempt_back` meets its clause `back` and may call `take_back`, by the lemmas of AfterLastMark, RemoveMarked and NumbersOfSet.
use Rattle.std.proofs.Common.{◌≡◌, List, Some, Result, Ok, Err, map, sym, ap, subst, ◌∙◌}
use Rattle.std.specs.Prelude.{reverse, IfOk, OnOk}
use Rattle.mps_base.specs.declared.action.Step.{Step}
use Rattle.mps_history.specs.Steps.{numbers, within, without}
use Rattle.mps_history.specs.Dependence.{consequences}
use Rattle.mps_local.specs.Local.{plain}
use Rattle.mps_machine.specs.Machine as machine
use Rattle.mps_machine.specs.Rule.{replay}
use Rattle.mps_arena.specs.KeyedSteps.{steps}
use Rattle.mps_session.specs.Private.Configurations.{lists_of, state_of}
use Rattle.mps_session.specs.SessionState.{SessionState, session_view}
use Rattle.mps_session.specs.NumberSets.{is_among}
use Rattle.mps_session.proofs.AfterLastMark.{first_there}
use Rattle.mps_session.proofs.RemoveMarked.{leads_back, members_there}
use Rattle.mps_session.proofs.NumbersOfSet.{within_none, within_told}
use Rattle.mps_session.proofs.session.Session.attempt_back.Goals as goal

-- what holds of a value, and where there is one
both : {X Y : Type 0} (r : Result X Y) (P R : X → Type 0) (Q : Type 0) → ((x : X) → P x → Q → R x) → IfOk r P → OnOk r Q → IfOk r R
both (Ok x) P R Q f p q = f x p q
both (Err e) P R Q f p q = tt

pub take_back-requires-clause-present : goal.take_back-requires-clause-present
take_back-requires-clause-present c =
    first_there c.args.name.now c.args.role (steps c.self.inside.configuration.log.keyed_steps) c.in-Some-Some.id c.self.invariant.holds.sound.rising
    (ap Some (sym c.in-Some-Some.field-0-is) ∙ sym c.in-Some-Some.is ∙ c.first_after.ensures)

pub take_back-requires-clause-members : goal.take_back-requires-clause-members
take_back-requires-clause-members c =
    let s = c.self.inside in
    members_there (map plain s.types.items) (lists_of s.configuration) c.self.invariant.holds

pub returns-in-Some-None-clause-back : goal.returns-in-Some-None-clause-back
returns-in-Some-None-clause-back c =
    let m = c.args.self.now in
    ap (λ (l : List Step). replay (session_view m) l) (within_none m.state.history c.nothing.result.0 c.nothing.ensures.first)

pub returns-in-Some-Some-clause-back : goal.returns-in-Some-Some-clause-back
returns-in-Some-Some-clause-back c =
    let s = c.self.inside in
    let types = map plain s.types.items in
    let h = steps s.configuration.log.keyed_steps in
    let left = steps c.take_back.new.self.log.keyed_steps in
    let id = c.in-Some-Some.id in
    both c.take_back.result (λ ids. ids.0 ≡ reverse (numbers (within h (consequences h id)))) (λ ids. replay (machine.view_of types left) (within c.args.self.now.state.history (is_among ids.0)) ≡ Some (session_view c.args.self.now)) (left ≡ without h (consequences h id))
    (λ ids went stay. subst (λ (m : SessionState). replay (machine.view_of types left) (within m.state.history (is_among ids.0)) ≡ Some (session_view m)) c.self.view_is
    (ap (λ (l : List Step). replay (machine.view_of types left) l) (within_told h (consequences h id) ids.0 went)
    ∙ leads_back types (state_of (lists_of s.configuration)) left id c.self.invariant.holds.sound stay))
    c.take_back.ensures.numbers c.take_back.ensures.history
