-- In each turn of the loop of `Folder::restore_all` there is a room and a place for a file for each session so far, each room was restored, and each fault is of one of the sessions.
use Rattle.std.proofs.Common.{◌≡◌, vec_len}
use Rattle.std.specs.Prelude.{All, map}
use Rattle.mps_local.specs.Local.{plain}
use Rattle.mps_program.specs.Journals.{IsFileFaultOf}
use Rattle.mps_file.specs.Rooms.{IsRestoredRoom}
use Rattle.mps_program.proofs.journals.Folder.restore_all.Given as goal

abbrev pub invariant-loop-place : goal.invariant-loop-place
invariant-loop-place g l = record {
  rooms : vec_len l.rooms ≡ l.place;
  count : vec_len l.read ≡ l.place;
  first : l.refusals.first ≡ l.fn.refusals.first;
  sessions : l.refusals.sessions ≡ l.fn.refusals.sessions;
  restored : All (IsRestoredRoom l.self.opening.now.roles (map plain l.self.opening.now.types.items)) l.rooms.items;
  refused : All (IsFileFaultOf l.fn.refusals.first l.fn.refusals.sessions) l.fn.refusals.faults.items → All (IsFileFaultOf l.fn.refusals.first l.fn.refusals.sessions) l.refusals.faults.items;
}
