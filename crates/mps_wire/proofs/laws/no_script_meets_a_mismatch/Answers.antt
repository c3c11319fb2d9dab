-- `no_script_meets_a_mismatch` meets its clauses `whole`, `stopped`, `broken_off` and `broken_off_at_end`, by the lemmas of Faithful.
use Rattle.std.proofs.Common.{[], sym, append-nil}
use Rattle.mps_lines.specs.Lines.{with_last}
use Rattle.mps_wire.proofs.Faithful.{script_fits, broken_fits}
use Rattle.mps_wire.proofs.laws.no_script_meets_a_mismatch.Goals as goal

pub returns-clause-whole : goal.returns-clause-whole
returns-clause-whole c names types bytes out rest lines after own a split =
    script_fits c.one_reply_line.ensures.reply names types own (with_last a.lines a.rest) lines out out [] rest after a.holds (sym (append-nil out)) split

pub returns-clause-stopped : goal.returns-clause-stopped
returns-clause-stopped c names types bytes kept out rest lines after own a split =
    script_fits c.one_reply_line.ensures.reply names types own a.lines lines out out [] rest after a.answers_lines (sym (append-nil out)) split

pub returns-clause-broken_off : goal.returns-clause-broken_off
returns-clause-broken_off c names types bytes written rest lines own a split =
    broken_fits c.one_reply_line.ensures.reply names types own a.lines lines written rest a.holds split

pub returns-clause-broken_off_at_end : goal.returns-clause-broken_off_at_end
returns-clause-broken_off_at_end c names types bytes written rest lines own a split =
    broken_fits c.one_reply_line.ensures.reply names types own (with_last a.lines a.rest) lines written rest a.holds split
