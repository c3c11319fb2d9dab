-- How much was read, over several reads.
use Rattle.std.proofs.Common.{ℕ, ◌+◌, ◌≤◌, List, ◌++◌, length, Option, length-append, arith}
use Rattle.std.specs.Io.KnownBytes.{Consumes}
use Rattle.mps_wire.proofs.Bytes.{Consumes-trans}
use Rattle.mps_program.specs.Files.{HasReadAtMost}

pub read_on : (most space : ℕ) (a b c : Option (List ℕ)) (text : List ℕ) → Consumes a b text → HasReadAtMost space b c → length text + space ≤ most → HasReadAtMost most a c
read_on most space a b c text h more fits =
    let few = more.few in
    record {
      read = text ++ more.read;
      bytes = Consumes-trans a b c text more.read h more.bytes;
      few = omega (arith, length-append text more.read, few, fits);
    }
