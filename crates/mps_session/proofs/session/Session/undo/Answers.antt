-- `Session::undo` meets its clauses `state` and `back`, keeps the invariant of its type, and may call `remove`, by the lemmas of UndoServed.
use Rattle.std.proofs.Common.{map}
use Rattle.mps_local.specs.Local.{plain}
use Rattle.mps_session.specs.Private.Configurations.{lists_of}
use Rattle.mps_session.proofs.UndoServed as undoing
use Rattle.mps_session.proofs.session.Session.undo.Goals as goal

pub remove-requires-clause-role : goal.remove-requires-clause-role
remove-requires-clause-role c =
    let s = c.self.inside in
    undoing.role_inside (map plain s.types.items) (lists_of s.configuration) c.self.invariant.holds c.args.self.now c.self.view_is c.args.role c.args.id c.in_ok-key.key c.in_ok-key.ensures.key c.in_ok-key.ensures.own _ s.configuration.cursors.ok.0 c.requires

pub invariant_of-self : goal.invariant_of-self
invariant_of-self c =
    let s = c.self.inside in
    let types = map plain s.types.items in
    let kept = lists_of s.configuration in
    record {
      holds = undoing.holds_then types kept c.self.invariant.holds c.args.self.now c.self.view_is c.args.role c.args.id c.in_ok-key.key c.in_ok-key.ensures.key c.in_ok-key.ensures.own c.in_ok-key.ensures.can (lists_of c.remove.new.self) c.remove.ensures.left;
      unmarked = undoing.unmarked_then types kept c.self.invariant.holds c.args.self.now c.self.view_is c.args.role c.args.id c.in_ok-key.key c.in_ok-key.ensures.key c.in_ok-key.ensures.own c.in_ok-key.ensures.can (lists_of c.remove.new.self) c.remove.ensures.left c.self.invariant.unmarked;
    }

pub returns-clause-state : goal.returns-clause-state
returns-clause-state c =
    let s = c.self.inside in
    undoing.state_then (map plain s.types.items) (lists_of s.configuration) c.self.invariant.holds c.args.self.now c.self.view_is c.args.role c.args.id c.in_ok-key.key c.in_ok-key.ensures.key c.in_ok-key.ensures.own c.in_ok-key.ensures.can (lists_of c.remove.new.self) c.remove.ensures.left c.in_ok-key.ensures.free

pub returns-clause-back : goal.returns-clause-back
returns-clause-back c =
    let s = c.self.inside in
    undoing.back_then (map plain s.types.items) (lists_of s.configuration) c.self.invariant.holds c.args.self.now c.self.view_is c.args.role c.args.id c.in_ok-key.key c.in_ok-key.ensures.key c.in_ok-key.ensures.own c.in_ok-key.ensures.can (lists_of c.remove.new.self) c.remove.ensures.left
