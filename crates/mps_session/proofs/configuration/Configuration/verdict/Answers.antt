-- `Configuration::verdict` meets its clause `follows`, by the lemmas of CursorByPlace and NodeAfterAct.
use Rattle.std.proofs.Common.{◌≡◌, ℕ, Option, Some, get_or, sym, ap, ◌∙◌, subst, arith}
use Rattle.std.specs.Prelude.{IfOk}
use Rattle.mps_base.specs.declared.action.Message.{Message}
use Rattle.mps_command.specs.Acts.{act_of}
use Rattle.mps_local.specs.Local.{LocalType}
use Rattle.mps_local.specs.Unfolding.{unfolded}
use Rattle.mps_machine.specs.Rule.{type_after, participant_after}
use Rattle.mps_machine.specs.View.{Participant}
use Rattle.mps_table.specs.Standing.{StandsFor}
use Rattle.mps_session.specs.Private.Configurations.{lists_of, moved_in}
use Rattle.mps_session.specs.declared.cursor.Cursor.{Cursor}
use Rattle.mps_session.proofs.CursorByPlace.{cursor_at}
use Rattle.mps_session.proofs.NodeAfterAct.{follows_all}
use Rattle.mps_session.proofs.configuration.Configuration.verdict.Goals as goal

pub returns-clause-follows : goal.returns-clause-follows
returns-clause-follows c =
    let all = c.args.self.now.cursors.items in
    let cursor = c.index-cursor.result.now in
    let at = c.index-cursor.ensures ∙ ap (λ (k : ℕ). get_or all k cursor) c.index.ensures.place in
    let here = cursor_at all c.args.role cursor (omega (arith, c.requires.role, c.args.self.now.cursors.ok.0)) at in
    let m = moved_in (lists_of c.args.self.now) c.args.role (act_of c.args.step.now) in
    let follows = subst (λ (x : Option Message). IfOk c.next_node.result (λ next. (t u : LocalType) → StandsFor cursor.table cursor.node t → type_after (unfolded t) (act_of c.args.step.now) x ≡ Some u → StandsFor cursor.table next u)) c.requires.first c.next_node.ensures.follows in
    subst (λ (p : Cursor). IfOk c.next_node.result (λ next. (before after : Participant) → StandsFor p.table p.node before.to_come → participant_after before (act_of c.args.step.now) m ≡ Some after → StandsFor p.table next after.to_come)) (sym here)
    (follows_all cursor.table cursor.node m c.next_node.result c.args.step.now c.next_node.ensures.idle follows)
