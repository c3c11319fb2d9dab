-- `Session::would` meets its clause `never_mismatch`, by the lemmas of WhichRefusal.
use Rattle.std.proofs.Common.{sym, ap, ◌∙◌, subst}
use Rattle.std.specs.Result.{result_err}
use Rattle.mps_machine.specs.Faults.{fault}
use Rattle.mps_machine.specs.Machine.{IsSound}
use Rattle.mps_session.specs.SessionState.{SessionState}
use Rattle.mps_session.proofs.WhichRefusal.{never_a_mismatch}
use Rattle.mps_session.proofs.session.Session.would.Goals as goal

pub returns-in-Forward-clause-never_mismatch : goal.returns-in-Forward-clause-never_mismatch
returns-in-Forward-clause-never_mismatch c own e =
    let m = c.args.self.now in
    never_a_mismatch m.types m.state c.args.role c.args.command.now
    (subst (λ (k : SessionState). IsSound k.types k.state) c.self.view_is c.self.invariant.holds.sound) own
    (ap (fault m.types m.state c.args.role) c.in-Forward.is ∙ sym c.would_forward.ensures ∙ ap (λ r. result_err r) e)
