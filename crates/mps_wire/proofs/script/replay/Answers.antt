-- `replay` meets its clause `outcome` and may call `replay_session`, by the lemmas of Outcomes.
use Rattle.std.proofs.Common.{length, map, sym, ap, subst, ◌∙◌}
use Rattle.std.proofs.lemmas.List.{length-map}
use Rattle.mps_local.specs.Local.{plain}
use Rattle.mps_session.specs.SessionState.{SessionState}
use Rattle.mps_wire.specs.Runs.{Replayed, ScriptRan}
use Rattle.mps_wire.specs.Streams.{streams}
use Rattle.mps_session.proofs.PassedOn.{passed_on}
use Rattle.mps_wire.proofs.Outcomes.{not_begun, opened_first, shut}
use Rattle.mps_wire.proofs.script.replay.Goals as goal

pub returns-in_err-session-clause-outcome : goal.returns-in_err-session-clause-outcome
returns-in_err-session-clause-outcome g c =
    let types = map plain c.args.types.items in
    let first = streams g.R.Source g.W.Sink c.args.reader.now c.args.writer.now in
    let e = c.in_err-session.ensures in
    passed_on _ _ (Replayed c.args.roles types first first) c.from_residual.ensures.1
    (not_begun c.args.roles types first _ (shut types c.in_err-session.field-0.0 e.count e.peer e.local e.memory))

pub replay_session-requires-clause-named : goal.replay_session-requires-clause-named
replay_session-requires-clause-named g c =
    c.requires.named ∙ sym (length-map c.args.types.items plain) ∙ sym (ap (λ s. length s.types) c.in_ok-session.ensures.opened)

pub returns-clause-outcome : goal.returns-clause-outcome
returns-clause-outcome g c =
    let types = map plain c.args.types.items in
    let first = streams g.R.Source g.W.Sink c.args.reader.now c.args.writer.now in
    let now = streams g.R.Source g.W.Sink c.replay_session.new.reader c.replay_session.new.writer in
    opened_first c.args.roles types first now c.replay_session.result c.in_ok-session.ensures.can
    (subst (λ (m : SessionState). ScriptRan c.args.roles m.types first now c.replay_session.result) c.in_ok-session.ensures.opened c.replay_session.ensures.outcome)
