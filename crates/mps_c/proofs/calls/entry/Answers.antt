-- `entry` meets its clause `line`, by the lemmas of Filling.
use Rattle.std.proofs.Common.{ℕ, List, None}
use Rattle.mps_line.specs.JournalLines.{SpellsJournalLine}
use Rattle.mps_c.proofs.Filling.{filled_or_left}
use Rattle.mps_c.proofs.calls.entry.Goals as goal

pub returns-clause-line : goal.returns-clause-line
returns-clause-line c entry got =
    let e = c.entry_into.ensures in
    filled_or_left (λ (text : List ℕ). SpellsJournalLine c.args.room.now.room.names text entry.role None entry.command)
    c.args.out.now c.entry_into.new.out c.entry_into.result c.length_or_none.result c.length_or_none.ensures (e.line entry got) e.err
