-- `Session::newest_of` meets its clauses `newest` and `known`, by the lemmas of HoldsAfterAct, StepsNameRoles, NewestKnown and MovedMessages.
use Rattle.std.proofs.Common.{length, map, ap, ◌∙◌, subst}
use Rattle.std.specs.Prelude.{IfSome}
use Rattle.mps_history.specs.Steps.{newest_of}
use Rattle.mps_local.specs.Local.{plain}
use Rattle.mps_session.specs.Peers.{IsKnown}
use Rattle.mps_session.specs.Private.Configurations.{lists_of, state_of}
use Rattle.mps_session.specs.SessionState.{SessionState, moves_of}
use Rattle.mps_session.proofs.HoldsAfterAct.{replayed, v}
use Rattle.mps_session.proofs.StepsNameRoles.{all_known}
use Rattle.mps_session.proofs.NewestKnown.{some_known}
use Rattle.mps_session.proofs.MovedMessages.{moved_is}
use Rattle.mps_session.proofs.session.Session.newest_of.Goals as goal

pub returns-clause-newest : goal.returns-clause-newest
returns-clause-newest c =
    let s = c.self.inside in
    let types = map plain s.types.items in
    let kept = lists_of s.configuration in
    c.newest_of.ensures
    ∙ ap (newest_of c.args.role) (moved_is types kept.keyed_steps (v types kept c.self.invariant.holds) c.self.invariant.holds.kept (replayed types kept c.self.invariant.holds))
    ∙ ap (λ (m : SessionState). newest_of c.args.role (moves_of m)) c.self.view_is

pub returns-clause-known : goal.returns-clause-known
returns-clause-known c =
    let s = c.self.inside in
    let types = map plain s.types.items in
    let kept = lists_of s.configuration in
    let holds = c.self.invariant.holds in
    let is = c.newest_of.ensures ∙ ap (newest_of c.args.role) (moved_is types kept.keyed_steps (v types kept holds) holds.kept (replayed types kept holds)) in
    let known = all_known types kept.keyed_steps (v types kept holds) holds.peers holds.members (replayed types kept holds) in
    subst (λ (m : SessionState). IfSome c.newest_of.result (λ item. IsKnown (length m.types) item.0.now)) c.self.view_is
    (some_known (IsKnown (length types)) c.args.role (moves_of (record { types = types; state = state_of kept })) known c.newest_of.result is)
