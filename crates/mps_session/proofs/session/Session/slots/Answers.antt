-- `Session::slots` meets its contract, by the lemmas of HoldsAfterAct and Slots.
use Rattle.std.proofs.Common.{length, map, sym, ap, ◌∙◌}
use Rattle.mps_local.specs.Local.{plain}
use Rattle.mps_session.specs.Private.Configurations.{lists_of}
use Rattle.mps_session.specs.SessionState.{SessionState, session_view}
use Rattle.mps_session.proofs.HoldsAfterAct.{replayed, v}
use Rattle.mps_session.proofs.Slots.{slots_are}
use Rattle.mps_session.proofs.session.Session.slots.Goals as goal

pub returns : goal.returns
returns c =
    let s = c.self.inside in
    let types = map plain s.types.items in
    let kept = lists_of s.configuration in
    c.slots.ensures
    ∙ sym (slots_are types kept.keyed_steps (v types kept c.self.invariant.holds) c.args.role c.self.invariant.holds.kept (replayed types kept c.self.invariant.holds))
    ∙ ap (λ (m : SessionState). length ((session_view m).participant c.args.role).store) c.self.view_is
