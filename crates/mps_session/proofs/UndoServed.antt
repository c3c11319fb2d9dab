-- What comes of an undo that a session does, or refuses.
use Rattle.std.proofs.Common.{◌≡◌, [], ℕ, ◌<◌, List, length, not, Option, Some, None, sym, ap, ◌∙◌, subst, arith}
use Rattle.std.specs.Prelude.{◌==◌, IfSome}
use Rattle.mps_base.specs.declared.action.Step.{Step}
use Rattle.mps_history.specs.Steps.{step_of, without}
use Rattle.mps_local.specs.Local.{LocalType}
use Rattle.mps_machine.specs.Rule.{rule}
use Rattle.mps_machine.specs.Machine.{owner_fault, undone, undo}
use Rattle.mps_arena.specs.KeyedSteps.{KeyedStep, steps, keyed_at}
use Rattle.mps_arena.specs.Neighbours.{CanGo}
use Rattle.mps_links.specs.Marks.{marked_keys}
use Rattle.mps_session.specs.Private.Configurations.{Lists, state_of}
use Rattle.mps_session.specs.Private.Invariant.{Holds}
use Rattle.mps_session.specs.Private.Leaving.{HasLeft}
use Rattle.mps_session.specs.SessionState.{SessionState, session_view}
use Rattle.mps_session.proofs.OwnStep as numbered
use Rattle.mps_session.proofs.OwnStep.{key_of}
use Rattle.mps_session.proofs.HoldsAfterRemoval as returning
use Rattle.mps_session.proofs.RemoveMarked.{filter_unmarked}

module _ (types : List LocalType) (c : Lists) (holds : Holds types c) (now : SessionState) (is : ◌≡◌ {A = SessionState} (record { types = types; state = state_of c }) now) (p n k : ℕ) (at : key_of c.keyed_steps n ≡ Some k) (own : owner_fault p (step_of (steps c.keyed_steps) n) ≡ None) where
  abbrev x : KeyedStep
  x = numbered.keyed c.keyed_steps holds.kept n k at

  pub found : keyed_at k c.keyed_steps ≡ Some x
  found = numbered.found c.keyed_steps holds.kept n k at

  -- the role of the step is one of the session's
  pub role_inside : (len : ℕ) → len ≡ length c.cursors → p < length now.types → IfSome (keyed_at k c.keyed_steps) (λ e. e.step.role < len)
  role_inside len count within =
      let owner = numbered.owner c.keyed_steps holds.kept n k at p own in
      rw found (omega (arith, count, within, owner, ap (λ (m : SessionState). length m.types) is, holds.cursors.long))

  module _ (can : CanGo c.keyed_steps k) (next : Lists) (gone : IfSome (keyed_at k c.keyed_steps) (λ e. HasLeft e c next)) where
    left : HasLeft x c next
    left = subst (λ (o : Option KeyedStep). IfSome o (λ e. HasLeft e c next)) found gone

    pub holds_then : Holds types next
    holds_then = returning.returned_holds types c next k x holds found can left

    pub unmarked_then : marked_keys c.keyed_steps ≡ [] → marked_keys next.keyed_steps ≡ []
    unmarked_then none = ap marked_keys left.keyed_steps ∙ filter_unmarked (λ e. not (e.key == x.key)) c.keyed_steps none

    pub state_then : undo (state_of c) p n ≡ undone (state_of c) n → state_of next ≡ (undo now.state p n).1
    state_then done =
        let history : steps next.keyed_steps ≡ without (steps c.keyed_steps) (λ m. m == n) =
        returning.history_then types c next k x holds found can left ∙ ap (λ (i : ℕ). without (steps c.keyed_steps) (λ m. m == i)) (numbered.number c.keyed_steps holds.kept n k at) in
        grind arith

    pub back_then : (s : Step) → step_of now.state.history n ≡ Some s → rule (session_view (record { types = types; state = state_of next })) s ≡ Some (session_view now)
    back_then s e =
        let same : Some x.step ≡ Some s = sym (numbered.step_found c.keyed_steps holds.kept n k at) ∙ ap (λ (m : SessionState). step_of m.state.history n) is ∙ e in
        let step_is : x.step ≡ s = cc in
        rw (← step_is) (returning.rule_back types c next k x holds found can left ∙ ap (λ (m : SessionState). Some (session_view m)) is)
