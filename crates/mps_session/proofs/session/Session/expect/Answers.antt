-- `Session::expect` meets its clauses `head` and `known` and may call `expect`, by the lemmas of CursorByPlace, StepsNameRoles and ForwardAnswers.
use Rattle.std.proofs.Common.{◌≡◌, ℕ, ◌<◌, arith, length, map, get_or, sym, ap, ◌∙◌, subst}
use Rattle.mps_local.specs.Actions.{Head, Ends, Sends, Receives, Chooses, Picks, Begins, first_action, head}
use Rattle.mps_local.specs.Local.{LocalType, plain}
use Rattle.mps_local.specs.Shape.{IsOtherRole}
use Rattle.mps_machine.proofs.Peers.{unfolded_peers}
use Rattle.mps_table.specs.Graph.{IsNode}
use Rattle.mps_table.specs.Expects.{head_of}
use Rattle.mps_arena.specs.KeyedSteps.{steps}
use Rattle.mps_machine.specs.Machine.{view_of}
use Rattle.mps_session.specs.Private.Configurations.{lists_of}
use Rattle.mps_session.specs.Private.Cursors.{IsFor}
use Rattle.mps_session.specs.SessionState.{SessionState, session_view}
use Rattle.mps_session.specs.declared.cursor.Cursor.{Cursor}
use Rattle.mps_session.specs.Peers.{IsHeadKnown}
use Rattle.mps_session.proofs.CursorByPlace.{cursor_at}
use Rattle.mps_session.proofs.StepsNameRoles.{head_known}
use Rattle.mps_session.proofs.ForwardAnswers.{in_cursors, is_node, stands}
use Rattle.mps_session.proofs.session.Session.expect.Goals as goal

-- a type that begins so has that head
begins_first : (h : Head) (t : LocalType) → Begins h t → h ≡ first_action t
begins_first Ends t b = sym (ap first_action b)
begins_first (Sends peer sort) t b = sym (ap first_action b.1)
begins_first (Receives peer sort) t b = sym (ap first_action b.1)
begins_first (Chooses peer names) t b = ap (Chooses peer) b.2 ∙ sym (ap first_action b.1)
begins_first (Picks peer names) t b = ap (Picks peer) b.2 ∙ sym (ap first_action b.1)

pub expect-requires : goal.expect-requires
expect-requires c =
    let s = c.self.inside in
    let k = lists_of s.configuration in
    let types = map plain s.types.items in
    let all = s.configuration.cursors.items in
    let cursor = c.index-cursor.result.now in
    let at = c.index-cursor.ensures ∙ ap (λ (i : ℕ). get_or all i cursor) c.index.ensures.place in
    let here = cursor_at all c.args.role cursor (omega (arith, in_cursors types k c.self.invariant.holds c.args.self.now c.self.view_is c.args.role c.requires)) at in
    record { node = subst (λ (p : Cursor). IsNode p.table p.node) here (is_node types k c.self.invariant.holds c.args.self.now c.self.view_is c.args.role c.requires) }

pub returns-clause-head : goal.returns-clause-head
returns-clause-head c =
    let s = c.self.inside in
    let k = lists_of s.configuration in
    let types = map plain s.types.items in
    let all = s.configuration.cursors.items in
    let cursor = c.index-cursor.result.now in
    let at = c.index-cursor.ensures ∙ ap (λ (i : ℕ). get_or all i cursor) c.index.ensures.place in
    let here = cursor_at all c.args.role cursor (in_cursors types k c.self.invariant.holds c.args.self.now c.self.view_is c.args.role c.requires) at in
    let begins = c.expect.ensures.begins _ (subst (λ (x : Cursor). IsFor x ((view_of types (steps k.keyed_steps)).participant c.args.role).to_come) here (stands types k c.self.invariant.holds c.args.self.now c.self.view_is c.args.role c.requires)) in
    begins_first (head_of c.expect.result) _ begins ∙ ap (λ (m : SessionState). head ((session_view m).participant c.args.role).to_come) c.self.view_is

pub returns-clause-known : goal.returns-clause-known
returns-clause-known c =
    let s = c.self.inside in
    let k = lists_of s.configuration in
    let types = map plain s.types.items in
    let all = s.configuration.cursors.items in
    let cursor = c.index-cursor.result.now in
    let at = c.index-cursor.ensures ∙ ap (λ (i : ℕ). get_or all i cursor) c.index.ensures.place in
    let here = cursor_at all c.args.role cursor (in_cursors types k c.self.invariant.holds c.args.self.now c.self.view_is c.args.role c.requires) at in
    let begins = c.expect.ensures.begins _ (subst (λ (x : Cursor). IsFor x ((view_of types (steps k.keyed_steps)).participant c.args.role).to_come) here (stands types k c.self.invariant.holds c.args.self.now c.self.view_is c.args.role c.requires)) in
    let holds = c.self.invariant.holds in
    let less : c.args.role < length types = omega (arith, holds.cursors.long, in_cursors types k holds c.args.self.now c.self.view_is c.args.role c.requires) in
    let peers = unfolded_peers (IsOtherRole (length types) c.args.role) _ (holds.cursors.peers c.args.role less) in
    subst (λ (m : SessionState). IsHeadKnown (length m.types) (head_of c.expect.result)) c.self.view_is
    (head_known (length types) c.args.role (head_of c.expect.result) _ begins peers)
