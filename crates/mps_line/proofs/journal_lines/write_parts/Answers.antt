-- `write_parts` meets its clauses `ok` and `err`, by the lemmas of JournalLines and Writing.
use Rattle.std.proofs.Common.{arith, [], ◌∷◌}
use Rattle.mps_line.proofs.JournalLines.{numbered_written, role_written}
use Rattle.mps_line.proofs.Writing.{still_in_front}
use Rattle.mps_line.proofs.journal_lines.write_parts.Goals as goal
use Rattle.mps_line.proofs.journal_lines.write_parts.Goals.{in-Some+in_ok-write_count+in_ok-push-2, in_default}

pub returns-clause-ok : goal.returns-clause-ok
returns-clause-ok c =
    role_written _ _ _ _ c.push.new.self.items _ _ _ _ c.requires.asks c.in_ok-write_role.ensures.ok c.in_ok-push.ensures.items
    (elim c.match-number.branch [
      | in-Some+in_ok-write_count+in_ok-push-2 w ↦
          rw w.in-Some.is (numbered_written _ _ _ _ c.match-number.out.items _ w.in-Some.n _ c.requires.asks w.in_ok-write_count.ensures.ok (cc (w.in_ok-push-2.ensures.items)) c.push_command.ensures.ok)
      | in_default w ↦ grind arith
    ])

pub returns-clause-err : goal.returns-clause-err
returns-clause-err c =
    still_in_front _ _ _ c.push.new.self.items _ _ _ c.in_ok-write_role.ensures.ok.1 c.in_ok-push.ensures.items
    (elim c.match-number.branch [
      | in-Some+in_ok-write_count+in_ok-push-2 w ↦
          still_in_front _ _ _ c.match-number.out.items _ _ (32 ∷ []) w.in_ok-write_count.ensures.ok.1 (cc (w.in_ok-push-2.ensures.items)) c.push_command.ensures.err
      | in_default w ↦ grind arith
    ])
