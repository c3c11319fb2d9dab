-- `Session::moves` meets its clauses `moves` and `known`, by the lemmas of HoldsAfterAct, StepsNameRoles and MovedMessages.
use Rattle.std.proofs.Common.{List, length, map, sym, ap, ◌∙◌, subst}
use Rattle.std.specs.List.{AllByRecursion}
use Rattle.mps_local.specs.Local.{plain}
use Rattle.mps_session.specs.Private.Configurations.{lists_of}
use Rattle.mps_log.specs.Shown.{Moved}
use Rattle.mps_session.specs.Peers.{IsKnown}
use Rattle.mps_session.specs.SessionState.{SessionState, moves_of}
use Rattle.mps_session.proofs.HoldsAfterAct.{replayed, v}
use Rattle.mps_session.proofs.StepsNameRoles.{all_known}
use Rattle.mps_session.proofs.MovedMessages.{moved_is}
use Rattle.mps_session.proofs.session.Session.moves.Goals as goal

pub returns-clause-moves : goal.returns-clause-moves
returns-clause-moves c =
    let s = c.self.inside in
    let types = map plain s.types.items in
    let kept = lists_of s.configuration in
    c.moves.ensures
    ∙ moved_is types kept.keyed_steps (v types kept c.self.invariant.holds) c.self.invariant.holds.kept (replayed types kept c.self.invariant.holds)
    ∙ ap moves_of c.self.view_is

pub returns-clause-known : goal.returns-clause-known
returns-clause-known c =
    let s = c.self.inside in
    let types = map plain s.types.items in
    let kept = lists_of s.configuration in
    let holds = c.self.invariant.holds in
    let is = c.moves.ensures ∙ moved_is types kept.keyed_steps (v types kept holds) holds.kept (replayed types kept holds) in
    let known = all_known types kept.keyed_steps (v types kept holds) holds.peers holds.members (replayed types kept holds) in
    subst (λ (m : SessionState). AllByRecursion (λ x. IsKnown (length m.types) x.0) c.moves.result) c.self.view_is
    (subst (λ (l : List Moved). AllByRecursion (λ x. IsKnown (length types) x.0) l) (sym is) known)
