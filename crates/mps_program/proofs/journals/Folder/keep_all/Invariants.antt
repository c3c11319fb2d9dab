-- In each turn of the loop of `Folder::keep_all` keepers and files that are left are as many as there were files, and each fault is of one of the sessions.
use Rattle.std.proofs.Common.{◌≡◌, ◌+◌, ◌≤◌, length, vec_len, vec_capacity}
use Rattle.std.specs.Prelude.{All}
use Rattle.std.specs.Vec.Iter.{into_iter_items}
use Rattle.mps_program.specs.Journals.{IsFileFaultOf}
use Rattle.mps_program.proofs.journals.Folder.keep_all.Given as goal

abbrev pub invariant-loop-one : goal.invariant-loop-one
invariant-loop-one g l = record {
  count : vec_len l.keepers + length (into_iter_items l.one-iterator) ≡ length l.fn.read.items;
  space : length l.fn.read.items ≤ vec_capacity l.keepers;
  first : l.refusals.first ≡ l.fn.refusals.first;
  sessions : l.refusals.sessions ≡ l.fn.refusals.sessions;
  refused : All (IsFileFaultOf l.fn.refusals.first l.fn.refusals.sessions) l.fn.refusals.faults.items → All (IsFileFaultOf l.fn.refusals.first l.fn.refusals.sessions) l.refusals.faults.items;
}
