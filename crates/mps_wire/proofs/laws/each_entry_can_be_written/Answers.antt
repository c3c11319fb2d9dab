-- Proves the law `each_entry_can_be_written`, by the lemmas of Written.
use Rattle.std.proofs.Common.{[]}
use Rattle.mps_wire.proofs.Written.{entry_written}
use Rattle.mps_wire.proofs.laws.each_entry_can_be_written.Goals as goal

pub returns : goal.returns
returns c names types j k entry peers many legal got = entry_written names types peers many [] j k entry legal.each got
