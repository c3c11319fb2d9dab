-- `Session::slot` meets its contract, by the lemmas of HoldsAfterAct and Slots.
use Rattle.std.proofs.Common.{map, sym, ap, ◌∙◌}
use Rattle.mps_history.specs.Slots.{value_in}
use Rattle.mps_local.specs.Local.{plain}
use Rattle.mps_session.specs.Private.Configurations.{lists_of}
use Rattle.mps_session.specs.SessionState.{SessionState, session_view}
use Rattle.mps_session.proofs.HoldsAfterAct.{replayed, v}
use Rattle.mps_session.proofs.Slots.{slot_is}
use Rattle.mps_session.proofs.session.Session.slot.Goals as goal

pub returns : goal.returns
returns c =
    let s = c.self.inside in
    let types = map plain s.types.items in
    let kept = lists_of s.configuration in
    c.value.ensures
    ∙ sym (slot_is types kept.keyed_steps (v types kept c.self.invariant.holds) c.args.role c.args.slot.now c.self.invariant.holds.kept (replayed types kept c.self.invariant.holds))
    ∙ ap (λ (m : SessionState). value_in c.args.slot.now ((session_view m).participant c.args.role).store) c.self.view_is
