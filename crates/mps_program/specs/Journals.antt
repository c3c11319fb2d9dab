-- How the sessions of a server may fail to be had from a folder.
use Rattle.std.specs.Prelude.{◌≡◌, ◌<◌, ◌≤◌, ◌^◌, ◌⊎◌, ⊤, ℕ, List, Option, None, Some, codes}
use Rattle.mps_file.specs.Recorders.{IsNumberAfter}
use Rattle.mps_hub.specs.Places.{IsSession}
use Rattle.mps_keeper.specs.declared.restore.RestoreFault.{RestoreFault}
use Rattle.mps_keeper.specs.declared.restore.RestoreFault.TheVariants.{Read as NotRead, Memory as OutOfMemory}
use Rattle.mps_keeper.specs.declared.restore.RestoreFault.TheVariants.{Changed, Unreadable, Refused}
use Rattle.mps_program.specs.declared.faults.ToolFault.{ToolFault}
use Rattle.mps_program.specs.declared.faults.ToolFault.TheVariants.{File, JournalFile, JournalLine, JournalProtocol}
use Rattle.mps_program.specs.declared.faults.ToolFault.TheVariants.{JournalLost, Memory}

-- the word stands for the recorder at this port, and for no folder
pub record NamesRecorder (word : List ℕ) (port : ℕ) : Type 0 where
  pub spelled : IsNumberAfter (codes "tcp:") word port
  pub least : 1 ≤ port
  pub most : port < 2 ^ 16

-- how the folder itself may fail: it can't be used, it is of another protocol, or memory ran out
abbrev pub IsFolderFault : List ℕ → ToolFault → Type 0
IsFolderFault folder (File name why) = name.now ≡ folder
IsFolderFault folder JournalProtocol = ⊤
IsFolderFault folder Memory = ⊤
IsFolderFault folder fault = ⊥

-- how the journal of this session may fail
abbrev pub IsOneFault : ℕ → ToolFault → Type 0
IsOneFault session (JournalFile k why) = k ≡ session
IsOneFault session (JournalLine k line why) = k ≡ session
IsOneFault session (JournalLost k why) = k ≡ session
IsOneFault session Memory = ⊤
IsOneFault session fault = ⊥

-- how the journals of so many sessions from this one on may fail
abbrev pub IsFileFaultOf : (first n : ℕ) → ToolFault → Type 0
IsFileFaultOf first n (JournalFile session why) = IsSession first n session
IsFileFaultOf first n (JournalLine session line why) = IsSession first n session
IsFileFaultOf first n (JournalLost session why) = IsSession first n session
IsFileFaultOf first n Memory = ⊤
IsFileFaultOf first n fault = ⊥

-- how sessions may fail to be recorded in a folder
abbrev pub IsJournalFault : List ℕ → (first n : ℕ) → ToolFault → Type 0
IsJournalFault folder first n fault = IsFolderFault folder fault ⊎ IsFileFaultOf first n fault

-- why a session was not restored, as the program tells it
abbrev pub of_restoring : ℕ → RestoreFault → ToolFault
of_restoring session NotRead = JournalLost session None
of_restoring session OutOfMemory = Memory
of_restoring session (Unreadable line) = JournalLine session line (Some (Unreadable line))
of_restoring session (Refused line) = JournalLine session line (Some (Refused line))
of_restoring session (Changed line) = JournalLine session line (Some (Changed line))

-- how many of so many sessions are recorded, by the folder, if there is one
abbrev pub recorded_of : Option (List ℕ) → ℕ → ℕ
recorded_of None n = 0
recorded_of (Some folder) n = n

-- how the rooms of so many sessions may fail to be had, which are recorded in this folder, if they are
abbrev pub IsSessionsFault : Option (List ℕ) → (first n : ℕ) → ToolFault → Type 0
IsSessionsFault None first n Memory = ⊤
IsSessionsFault None first n fault = ⊥
IsSessionsFault (Some folder) first n fault = IsJournalFault folder first n fault
