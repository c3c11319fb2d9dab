-- `Session::attempt_rollback` meets its clause `back`, by the lemmas of RemoveMarked.
use Rattle.std.proofs.Common.{◌≡◌, Some, map, subst}
use Rattle.std.proofs.lemmas.Result.{on_ok_weaker}
use Rattle.mps_history.specs.Steps.{within}
use Rattle.mps_history.specs.Dependence.{consequences}
use Rattle.mps_local.specs.Local.{plain}
use Rattle.mps_machine.specs.Machine as machine
use Rattle.mps_machine.specs.Rule.{replay}
use Rattle.mps_arena.specs.KeyedSteps.{steps}
use Rattle.mps_session.specs.Private.Configurations.{lists_of, state_of}
use Rattle.mps_session.specs.SessionState.{SessionState, session_view}
use Rattle.mps_session.proofs.RemoveMarked.{leads_back}
use Rattle.mps_session.proofs.session.Session.attempt_rollback.Goals as goal

pub returns-clause-back : goal.returns-clause-back
returns-clause-back c =
    let s = c.self.inside in
    let types = map plain s.types.items in
    let left = steps c.take_back.new.self.log.keyed_steps in
    on_ok_weaker c.take_back.result (λ history. subst (λ (m : SessionState). replay (machine.view_of types left) (within m.state.history (consequences m.state.history c.args.id)) ≡ Some (session_view m)) c.self.view_is
    (leads_back types (state_of (lists_of s.configuration)) left c.args.id c.self.invariant.holds.sound history)) c.take_back.ensures.history
