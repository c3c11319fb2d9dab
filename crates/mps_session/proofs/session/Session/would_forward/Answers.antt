-- `Session::would_forward` meets its contract and may call `verdict`, by the lemmas of ForwardAnswers.
use Rattle.std.proofs.Common.{Some, None, map, sym, ap, ◌∙◌}
use Rattle.mps_command.specs.Acts.{act_of}
use Rattle.mps_local.specs.Local.{plain}
use Rattle.mps_machine.specs.Violations.{violation}
use Rattle.mps_machine.proofs.Faults.{forward_refused, forward_allowed}
use Rattle.mps_session.specs.Private.Configurations.{lists_of}
use Rattle.mps_session.specs.SessionState.{SessionState, session_view}
use Rattle.mps_session.proofs.ForwardAnswers as serving
use Rattle.mps_session.proofs.session.Session.would_forward.Goals as goal

pub verdict-requires-clause-stands : goal.verdict-requires-clause-stands
verdict-requires-clause-stands c =
    let s = c.self.inside in
    serving.is_node (map plain s.types.items) (lists_of s.configuration) c.self.invariant.holds c.args.self.now c.self.view_is c.args.role c.requires

pub returns-in-Ok : goal.returns-in-Ok
returns-in-Ok c =
    let s = c.self.inside in
    let m = c.args.self.now in
    let act = act_of c.args.step.now in
    let found = serving.found (map plain s.types.items) (lists_of s.configuration) c.self.invariant.holds m c.self.view_is c.args.role c.requires act None c.in-Ok.ensures.allowed in
    sym (forward_allowed m.types m.state c.args.role act (ap (λ (k : SessionState). violation (session_view k) c.args.role act) (sym c.self.view_is) ∙ found))

pub returns-in-Err : goal.returns-in-Err
returns-in-Err c =
    let s = c.self.inside in
    let m = c.args.self.now in
    let act = act_of c.args.step.now in
    let found = serving.found (map plain s.types.items) (lists_of s.configuration) c.self.invariant.holds m c.self.view_is c.args.role c.requires act (Some c.in-Err.fault) c.in-Err.ensures.violation in
    sym (forward_refused m.types m.state c.args.role act c.in-Err.fault (ap (λ (k : SessionState). violation (session_view k) c.args.role act) (sym c.self.view_is) ∙ found))
