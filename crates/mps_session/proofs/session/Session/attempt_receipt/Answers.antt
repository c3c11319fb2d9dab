-- `Session::attempt_receipt` meets its clause `served`, keeps the invariant of its type, and may call `allowed` and `act`.
use Rattle.std.proofs.Common.{◌≡◌, arith, map, refl, ap, ◌∙◌}
use Rattle.std.specs.Prelude.{slice_get}
use Rattle.std.specs.Option.{option_copied}
use Rattle.mps_history.specs.Steps.{unreceived}
use Rattle.mps_local.specs.Local.{plain}
use Rattle.mps_arena.specs.KeyedSteps.{steps}
use Rattle.mps_links.specs.Marks.{marked_keys}
use Rattle.mps_command.specs.Acts.{act_of}
use Rattle.mps_session.specs.Private.Configurations.{lists_of, state_of}
use Rattle.mps_session.specs.SessionState.{SessionState}
use Rattle.mps_session.proofs.FirstMessage.{taken_first}
use Rattle.mps_session.proofs.RemoveMarked.{push_unmarked}
use Rattle.mps_session.proofs.ForwardAnswers as serving
use Rattle.mps_session.proofs.ForwardServed as forwarding
use Rattle.mps_session.proofs.session.Session.attempt_receipt.Goals as goal
use Rattle.mps_session.proofs.session.Session.attempt_receipt.Goals.{in-Some, in-None}

pub allowed-requires-clause-stands : goal.allowed-requires-clause-stands
allowed-requires-clause-stands c =
    let s = c.self.inside in
    serving.is_node (map plain s.types.items) (lists_of s.configuration) c.self.invariant.holds c.args.self.now c.self.view_is c.args.role c.requires.role

pub returns-in_err-node-clause-served : goal.returns-in_err-node-clause-served
returns-in_err-node-clause-served c =
    let s = c.self.inside in
    forwarding.refused_by (map plain s.types.items) (lists_of s.configuration) c.self.invariant.holds c.args.self.now c.self.view_is c.args.role c.requires.role c.args.step.now
    c.from_residual.result _ c.from_residual.ensures.1 c.in_err-node.ensures.barred c.args.self.now.state refl

pub act-requires-clause-ready : goal.act-requires-clause-ready
act-requires-clause-ready c =
    let s = c.self.inside in
    serving.ready (map plain s.types.items) (lists_of s.configuration) c.self.invariant.holds c.args.self.now c.self.view_is c.args.role c.requires.role (act_of c.args.step.now) c.in_ok-node.ensures.allowed

pub returns-in_err-got-clause-served : goal.returns-in_err-got-clause-served
returns-in_err-got-clause-served c =
    let s = c.self.inside in
    forwarding.starved (map plain s.types.items) (lists_of s.configuration) c.self.invariant.holds c.args.self.now c.self.view_is c.args.role c.requires.role c.args.step.now c.in_ok-node.ensures.allowed c.in_ok-node.ensures.numbers
    c.from_residual-in_err-got.result c.from_residual-in_err-got.ensures.1 c.args.self.now.state refl

pub returns-in_err-id-clause-served : goal.returns-in_err-id-clause-served
returns-in_err-id-clause-served c =
    let s = c.self.inside in
    let types = map plain s.types.items in
    forwarding.starved types (lists_of s.configuration) c.self.invariant.holds c.args.self.now c.self.view_is c.args.role c.requires.role c.args.step.now c.in_ok-node.ensures.allowed c.in_ok-node.ensures.numbers
    c.from_residual-in_err-id.result c.from_residual-in_err-id.ensures.1 _ (ap state_of c.in_err-id.ensures.err ∙ ap (λ (m : SessionState). m.state) c.self.view_is)

pub invariant_of-self-2 : goal.invariant_of-self-2
invariant_of-self-2 c =
    let s = c.self.inside in
    let acted = c.in_ok-id.ensures.acted in
    record {
      holds = forwarding.holds_then (map plain s.types.items) (lists_of s.configuration) c.self.invariant.holds c.args.self.now c.self.view_is c.args.role c.requires.role c.args.step.now c.in_ok-node.ensures.allowed c.in_ok-node.ensures.numbers
          c.in_ok-node.node c.in_ok-node.ensures.follows (lists_of c.act.new.self) acted;
      unmarked = ap marked_keys acted.joined.keyed_steps ∙ push_unmarked s.configuration.log.keyed_steps _ refl c.self.invariant.unmarked;
    }

pub returns-clause-served : goal.returns-clause-served
returns-clause-served c =
    let s = c.self.inside in
    let waits : option_copied c.match-first_sent.source.1 ≡ slice_get (unreceived c.args.from c.args.role (steps s.configuration.log.keyed_steps)) 0 =
    elim c.match-first_sent.branch [
      | in-Some w ↦ grind (arith, w.source-is, w.in-Some.is, c.first_sent.ensures.message)
      | in-None w ↦ grind (arith, w.source-is, w.in-None.is, c.first_sent.ensures.message)
    ] in
    forwarding.done (map plain s.types.items) (lists_of s.configuration) c.self.invariant.holds c.args.self.now c.self.view_is c.args.role c.requires.role c.args.step.now c.in_ok-node.ensures.allowed c.in_ok-node.ensures.numbers
    c.in_ok-node.node c.in_ok-node.ensures.follows (lists_of c.act.new.self) c.in_ok-id.ensures.acted c.in_ok-id.id c.in_ok-got.got _ refl c.in_ok-id.ensures.id (c.in_ok-got.ensures ∙ taken_first (lists_of c.self.inside.configuration) c.args.role c.args.from _ waits c.args.step.now c.requires.takes)
