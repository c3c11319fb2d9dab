-- A call of a pass keeps the opening types, and is a call of the machine, which meets no mismatch; so does one that a share
-- refuses.
use Rattle.std.proofs.Common.{ap}
use Rattle.std.specs.Prelude.{◌≢◌}
use Rattle.mps_cell.specs.Calls.{Calls}
use Rattle.mps_cell.specs.Openings.{Opening}
use Rattle.mps_cell.proofs.Faithful.{call_other}
use Rattle.mps_hub.specs.SharedCalls.{keeps_answer, keeps_value}
use Rattle.mps_wire.specs.Fidelity.{mismatch}
use Rattle.mps_hub.proofs.laws.a_pass_meets_no_mismatch.Goals as goal

pub returns : goal.returns
returns g c = record {
  alone = record {
    same_types = λ h command answer t call. ap (λ (o : Opening). o.types) call.pass.opening;
    other = λ h command answer t own call. call_other h.pass command answer t.pass own call;
  };
  connected = record {
    same_types = λ g command answer t call. keeps_value (λ h x a k. Calls h.pass x a k.pass) (λ h. h.pass.opening.types) (λ h x a k t. ap (λ (o : Opening). o.types) t.pass.opening) g.inner.left g.inner.inner command answer t.inner.left t.inner.inner call.call;
    other = λ g command answer t own call. keeps_answer (λ h x a k. Calls h.pass x a k.pass) g.inner.left g.inner.inner command answer t.inner.left t.inner.inner (λ a. a ≢ mismatch) (λ e. cc) (λ inner. call_other g.inner.inner.pass command answer t.inner.inner.pass own inner) call.call;
  };
}
