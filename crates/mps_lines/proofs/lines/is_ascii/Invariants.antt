-- In each turn of the loop of `is_ascii` the largest byte so far tells of these, and the others are still to be looked at.
use Rattle.std.proofs.Common.{◌≡◌, drop}
use Rattle.std.specs.Prelude.{◌&&◌, nat_lt}
use Rattle.std.specs.Char.{is_ascii}
use Rattle.std.specs.List.{list_all}
use Rattle.mps_lines.proofs.lines.is_ascii.Given as goal

-- of the bytes so far the largest tells, and the others are to be looked at
abbrev pub invariant-loop-byte : goal.invariant-loop-byte
invariant-loop-byte l = (nat_lt l.largest 128 && list_all is_ascii (drop l.byte-index l.bytes)) ≡ list_all is_ascii l.bytes
