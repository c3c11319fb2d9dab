-- `Session::waiting` meets its contract, by the lemmas of HoldsAfterAct.
use Rattle.std.proofs.Common.{map, sym, ap, ◌∙◌}
use Rattle.mps_local.specs.Local.{plain}
use Rattle.mps_session.specs.Private.Configurations.{lists_of}
use Rattle.mps_session.specs.SessionState.{SessionState, session_view}
use Rattle.mps_session.proofs.HoldsAfterAct.{waits_there}
use Rattle.mps_session.proofs.session.Session.waiting.Goals as goal

pub returns : goal.returns
returns c =
    let s = c.self.inside in
    c.waiting.ensures
    ∙ sym (waits_there (map plain s.types.items) (lists_of s.configuration) c.self.invariant.holds c.args.from c.args.to)
    ∙ ap (λ (m : SessionState). (session_view m).queue c.args.from c.args.to) c.self.view_is
