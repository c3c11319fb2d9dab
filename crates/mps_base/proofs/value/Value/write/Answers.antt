-- `Value::write` meets its clause `ok`.
use Rattle.std.proofs.Common.{rules}
use Rattle.std.specs.Prelude.{FitsSigned}
use Rattle.std.specs.Int.{w64}
use Rattle.std.proofs.lemmas.Int.{to_z-of_z}
use Rattle.mps_base.proofs.value.Value.write.Goals as goal

pub returns-in-Int-clause-ok : goal.returns-in-Int-clause-ok
returns-in-Int-clause-ok c =
    let fits : FitsSigned w64 c.in-Int.n = search rules in
    rw c.in-Int.is (simp to_z-of_z at c.write_int.ensures.ok)
