-- How faults are told.
use Rattle.std.specs.Prelude.{◌+◌, ◌⊎◌, ⊤, ◌≡◌, ℕ, Bool, true, false, List, Option, None, Some, Result, Ok, Err, codes, [], ◌++◌}
use Rattle.std.specs.String.{string_bytes}
use Rattle.std.specs.declared.io.Error.{Error}
use Rattle.std.specs.Fmt.{decimal}
use Rattle.mps_global.specs.declared.faults.GlobalFault.{GlobalFault}
use Rattle.mps_global.specs.declared.faults.GlobalFault.TheVariants.{RoleCount, DoubleRole, TooManyNodes as ManyNodes}
use Rattle.mps_global.specs.declared.faults.GlobalFault.TheVariants.{TooDeep as Deep, UnknownRole, SelfMessage}
use Rattle.mps_global.specs.declared.faults.GlobalFault.TheVariants.{DoubleLabel, TooManyBranches, NoBranches, Unbound}
use Rattle.mps_global.specs.declared.faults.GlobalFault.TheVariants.{Shadowed, Unguarded}
use Rattle.mps_text.specs.declared.fault.TextKind.{TextKind}
use Rattle.mps_text.specs.declared.fault.TextKind.TheVariants.{TooLong, Word, Unexpected, TooManyNodes, TooDeep}
use Rattle.mps_text.specs.declared.fault.TextKind.TheVariants.{Trailing}
use Rattle.mps_text.specs.declared.fault.TextKind.TheVariants as texts
use Rattle.mps_wire.specs.declared.script.ReplayFault.{ReplayFault}
use Rattle.mps_wire.specs.declared.script.ReplayFault.TheVariants.{Open as NotOpened, ReadFault, WriteFault}
use Rattle.mps_wire.specs.declared.script.ReplayFault.TheVariants.{Turns as TooManyReads}
use Rattle.mps_wire.specs.declared.script.ReplayFault.TheVariants as scripts
use Rattle.mps_words.specs.declared.faults.UseFault.{UseFault}
use Rattle.mps_words.specs.declared.faults.UseFault.TheVariants.{Usage as Misuse}
use Rattle.mps_words.specs.declared.faults.UseFault.TheVariants as words
use Rattle.mps_program.specs.Streams.{CantLoad, CantShow}
use Rattle.mps_program.specs.declared.faults.ToolFault.{ToolFault}
use Rattle.mps_program.specs.declared.faults.ToolFault.TheVariants.{Usage, File, Text, Protocol, Projection, Open, Read}
use Rattle.mps_program.specs.declared.faults.ToolFault.TheVariants.{Write, Turns, Bind, Accept, Lost, JournalFile}
use Rattle.mps_program.specs.declared.faults.ToolFault.TheVariants.{JournalLine, JournalProtocol, JournalLost, JournalBroken, Memory}
use Rattle.mps_words.specs.declared.command.ProtocolFile.{ProtocolFile}

-- the word for a fault of a text
abbrev pub text_word : TextKind → List ℕ
text_word TooLong = codes "toolong"
text_word Word = codes "word"
text_word Unexpected = codes "unexpected"
text_word TooManyNodes = codes "toomanynodes"
text_word TooDeep = codes "toodeep"
text_word Trailing = codes "trailing"
text_word texts.Memory = codes "memory"

-- the word for a fault of a protocol
abbrev pub protocol_word : GlobalFault → List ℕ
protocol_word RoleCount = codes "rolecount"
protocol_word DoubleRole = codes "doublerole"
protocol_word ManyNodes = codes "toomanynodes"
protocol_word Deep = codes "toodeep"
protocol_word UnknownRole = codes "unknownrole"
protocol_word SelfMessage = codes "selfmessage"
protocol_word DoubleLabel = codes "doublelabel"
protocol_word TooManyBranches = codes "toomanybranches"
protocol_word NoBranches = codes "nobranches"
protocol_word Unbound = codes "unbound"
protocol_word Shadowed = codes "shadowed"
protocol_word Unguarded = codes "unguarded"

-- the line that tells the fault; of lines that were lost it was told when they were
abbrev pub fault_text : ToolFault → List ℕ
fault_text (Usage text) = string_bytes text
fault_text (File name why) = codes "refused file " ++ name.now
fault_text (Text at kind) = codes "refused text " ++ text_word kind ++ codes " " ++ decimal at
fault_text (Protocol fault) = codes "refused protocol " ++ protocol_word fault
fault_text (Projection role choice) = codes "refused projection " ++ role ++ codes " " ++ decimal choice
fault_text Open = codes "refused open"
fault_text (Read why) = codes "refused read"
fault_text Write = codes "refused write"
fault_text Turns = codes "refused turns"
fault_text (Bind why) = codes "refused bind"
fault_text Accept = codes "refused accept"
fault_text (Lost session) = codes "refused lost " ++ decimal session
fault_text (JournalFile session why) = codes "refused journal " ++ decimal session
fault_text (JournalLine session at why) = codes "refused journal " ++ decimal session ++ codes " " ++ decimal at
fault_text JournalProtocol = codes "refused journal protocol"
fault_text (JournalLost session why) = codes "refused journal " ++ decimal session
fault_text (JournalBroken session) = []
fault_text Memory = codes "refused memory"

-- 2 for the words, the files and the port, 3 for the protocol and what a journal has, 4 for a device, a lost session
-- and memory
abbrev pub status_of : ToolFault → ℕ
status_of (Usage text) = 2
status_of (File name why) = 2
status_of (Text at kind) = 3
status_of (Protocol fault) = 3
status_of (Projection role choice) = 3
status_of Open = 3
status_of (Read why) = 4
status_of Write = 4
status_of Turns = 4
status_of (Bind why) = 2
status_of Accept = 4
status_of (Lost session) = 4
status_of (JournalFile session why) = 2
status_of (JournalLine session at why) = 3
status_of JournalProtocol = 3
status_of (JournalLost session why) = 4
status_of (JournalBroken session) = 4
status_of Memory = 4

-- the fault without what the system says of it
abbrev pub without : ToolFault → ToolFault
without (File name why) = File name None
without (Read why) = Read None
without (Bind why) = Bind None
without (JournalFile session why) = JournalFile session None
without (JournalLine session line why) = JournalLine session line None
without (JournalLost session why) = JournalLost session None
without fault = fault

-- the fault with what the system said where a read failed, if it said something
abbrev pub told_with : Option Error → ToolFault → ToolFault
told_with (Some why) (Read other) = Read (Some why)
told_with why fault = fault

-- the same fault, but for what the system says where a read failed
abbrev pub IsSameButForReads : (fault told : ToolFault) → Type 0
IsSameButForReads (Read why) told = (other : _) × (told ≡ Read other)
IsSameButForReads fault told = told ≡ fault

-- what was done, without what the system says of a fault unless more is to be told
abbrev pub as_told : {A : Type 0} → (verbose : Bool) → Result A ToolFault → Result A ToolFault
as_told true done = done
as_told false (Ok x) = Ok x
as_told false (Err fault) = Err (without fault)

-- a fault of use, as the program tells it
abbrev pub of_use : UseFault → ToolFault
of_use (Misuse text) = Usage text
of_use words.Memory = Memory

-- why a script was not run to its end, as the program tells it
abbrev pub of_script : ReplayFault → ToolFault
of_script (NotOpened fault) = Open
of_script ReadFault = Read None
of_script WriteFault = Write
of_script TooManyReads = Turns
of_script scripts.Memory = Memory

-- how a text may fail to be read: a call more failed, or memory ran out and none more failed
abbrev pub IsReadFault : ℕ → ℕ → ToolFault → Type 0
IsReadFault before after (Read why) = after ≡ before + 1
IsReadFault before after Memory = after ≡ before
IsReadFault before after fault = ⊥

-- how many reads failed where this is the fault
abbrev pub failed_reads : ToolFault → ℕ
failed_reads (Read why) = 1
failed_reads fault = 0

-- how many writes failed where this is the fault
abbrev pub failed_writes : ToolFault → ℕ
failed_writes Write = 1
failed_writes fault = 0

-- how many calls of the source have failed after this answer
abbrev pub after_reads : {A : Type 0} → Result A ToolFault → ℕ → ℕ
after_reads (Ok x) before = before
after_reads (Err fault) before = before + failed_reads fault

-- how many calls of the sink have failed after this answer
abbrev pub after_writes : {A : Type 0} → Result A ToolFault → ℕ → ℕ
after_writes (Ok x) before = before
after_writes (Err fault) before = before + failed_writes fault

-- the file of that name can't be opened
abbrev pub IsFileFault : List ℕ → ToolFault → Type 0
IsFileFault name (File file why) = file.now ≡ name
IsFileFault name fault = ⊥

-- how the run of a script in an open session may break off: a read or a write fails, it is read from too often, or
-- memory runs out
abbrev pub IsBreak : ToolFault → Type 0
IsBreak (Read why) = ⊤
IsBreak Write = ⊤
IsBreak Turns = ⊤
IsBreak Memory = ⊤
IsBreak fault = ⊥

-- how the script of this file may fail to be run: the file can't be opened, or the run breaks off
abbrev pub IsScriptFault : List ℕ → ToolFault → Type 0
IsScriptFault script fault = IsFileFault script fault ⊎ IsBreak fault

-- how the types of a protocol may fail to be had from this file: it can't be opened, or gives none
abbrev pub IsLoadFault : ProtocolFile → ToolFault → Type 0
IsLoadFault file fault =
    IsFileFault file.name.now fault
    ⊎ ((given : Option (List ℕ)) × (left : Option (List ℕ)) × CantLoad file.merging given left fault)

-- how a run of these two files may fail: the first gives no types, or the script fails to be run
abbrev pub IsRunFault : ProtocolFile → List ℕ → ToolFault → Type 0
IsRunFault file script fault = IsLoadFault file fault ⊎ IsScriptFault script fault

-- how the scripts of these two files may fail to be compared: one fails to be run, or what is said of them can't be
-- written
abbrev pub IsScriptsFault : List ℕ → List ℕ → ToolFault → Type 0
IsScriptsFault script other fault = IsScriptFault script fault ⊎ (IsScriptFault other fault ⊎ (fault ≡ Write))

-- how a comparison of the scripts of two files may fail: the first gives no types, or the scripts fail to be compared
abbrev pub IsCompareFault : ProtocolFile → List ℕ → List ℕ → ToolFault → Type 0
IsCompareFault file script other fault = IsLoadFault file fault ⊎ IsScriptsFault script other fault

-- how a check of this file may fail: it can't be opened, or its types can't be shown
abbrev pub IsCheckFault : ProtocolFile → ToolFault → Type 0
IsCheckFault file fault =
    IsFileFault file.name.now fault ⊎ ((given : Option (List ℕ)) × (left : Option (List ℕ)) × (took : Option (List ℕ))
    × (taken : Option (List ℕ)) × CantShow file.merging given left took taken fault)
