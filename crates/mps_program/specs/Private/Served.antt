-- What a sink took, and how the serving itself may fail.
use Rattle.std.specs.Prelude.{⊤, ℕ, List, Option}
use Rattle.std.specs.Io.KnownBytes.{Appends}
use Rattle.mps_hub.specs.declared.server.ServeFault.{ServeFault}
use Rattle.mps_hub.specs.declared.server.ServeFault.TheVariants.{Accept as NotAccepted, Memory as OutOfMemory, NoneLeft, Unrecorded}
use Rattle.mps_hub.specs.Places.{IsSession}
use Rattle.mps_program.specs.Served.{IsListeningLine, IsPortFor}
use Rattle.mps_program.specs.declared.faults.ToolFault.{ToolFault}
use Rattle.mps_program.specs.declared.faults.ToolFault.TheVariants.{Write, Bind, Accept, JournalBroken, Memory}

-- the sink took such a text
abbrev pub TookOne : (List ℕ → Type 0) → Option (List ℕ) → Option (List ℕ) → Type 0
TookOne P took taken = (text : List ℕ) × P text × Appends took taken text

-- the line that tells the port, where this one was wanted
abbrev pub TellsPort : (wanted : ℕ) → List ℕ → Type 0
TellsPort wanted line = (port : ℕ) × IsPortFor wanted port × IsListeningLine port line

-- how the serving itself may fail, where so many sessions from this one on are recorded: it has no port, or can't tell
-- it, it accepts no more, memory ran out, or lines of a recorded session are lost
abbrev pub IsHubFault : (first recorded : ℕ) → ToolFault → Type 0
IsHubFault first recorded Write = ⊤
IsHubFault first recorded (Bind why) = ⊤
IsHubFault first recorded Accept = ⊤
IsHubFault first recorded Memory = ⊤
IsHubFault first recorded (JournalBroken session) = IsSession first recorded session
IsHubFault first recorded fault = ⊥

-- why the serving ended, as the program tells it
abbrev pub of_serving : ServeFault → ToolFault
of_serving NotAccepted = Accept
of_serving OutOfMemory = Memory
of_serving (Unrecorded session) = JournalBroken session
of_serving NoneLeft = Accept
