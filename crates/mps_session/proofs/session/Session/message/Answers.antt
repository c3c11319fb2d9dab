-- `Session::message` meets its contract, by the lemmas of HoldsAfterAct.
use Rattle.std.proofs.Common.{List, map, sym, ap, ◌∙◌}
use Rattle.std.specs.Prelude.{slice_get}
use Rattle.mps_base.specs.declared.action.Message.{Message}
use Rattle.mps_local.specs.Local.{plain}
use Rattle.mps_session.specs.Private.Configurations.{lists_of}
use Rattle.mps_session.specs.SessionState.{SessionState, session_view}
use Rattle.mps_session.proofs.HoldsAfterAct.{waits_there}
use Rattle.mps_session.proofs.session.Session.message.Goals as goal

pub returns : goal.returns
returns c =
    let s = c.self.inside in
    c.message.ensures
    ∙ ap (λ (queue : List Message). slice_get queue c.args.k) (sym (waits_there (map plain s.types.items) (lists_of s.configuration) c.self.invariant.holds c.args.from c.args.to))
    ∙ ap (λ (m : SessionState). slice_get ((session_view m).queue c.args.from c.args.to) c.args.k) c.self.view_is
