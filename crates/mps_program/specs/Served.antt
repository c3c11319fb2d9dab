-- What a server tells.
use Rattle.std.specs.Prelude.{◌≡◌, ◌+◌, ◌<◌, ◌≤◌, ◌⊎◌, ⊤, ℕ, suc, List, [], ◌∷◌, ◌++◌, Option, Some, None, codes}
use Rattle.std.specs.Prelude.{length, Bool, true, if◌then◌else◌}
use Rattle.std.specs.Option.{is_some}
use Rattle.std.specs.Io.KnownBytes.{Appends}
use Rattle.std.specs.Net.Addr.{IsLoopbackV4, IsV4And}
use Rattle.std.specs.Net.Socket.{socket_ip, socket_port}
use Rattle.std.specs.declared.net.socket_addr.SocketAddr.{SocketAddr}
use Rattle.mps_base.specs.Numbers.{IsNumberText}
use Rattle.mps_room.specs.RoomState.{RoomState}
use Rattle.mps_cell.specs.Cells.{Opened}
use Rattle.mps_hub.specs.Halls.{AreClosed}
use Rattle.mps_hub.specs.Places.{IsSession}
use Rattle.mps_program.specs.Faults.{IsLoadFault}
use Rattle.mps_program.specs.Journals.{IsSessionsFault, recorded_of}
use Rattle.mps_program.specs.declared.faults.ToolFault.{ToolFault}
use Rattle.mps_program.specs.declared.faults.ToolFault.TheVariants.{Write, Bind, Accept, JournalBroken, Lost, Memory}
use Rattle.mps_words.specs.declared.command.ProtocolFile.{ProtocolFile}

-- the port of a listener that was to have this one, where 0 is any that is free
abbrev pub IsPortFor : (wanted port : ℕ) → Type 0
IsPortFor wanted port = (wanted ≡ 0) ⊎ (port ≡ wanted)

-- an address of this machine alone, by version 4 of IP, at this port, where 0 is any
abbrev pub IsAtPort : (port : ℕ) → SocketAddr → Type 0
IsAtPort port addr = IsV4And (socket_ip addr) IsLoopbackV4 × IsPortFor port (socket_port addr)

-- the line that tells the port
abbrev pub IsListeningLine : ℕ → List ℕ → Type 0
IsListeningLine port line =
    (number : List ℕ) × IsNumberText number port × (line ≡ codes "listening " ++ number ++ 10 ∷ [])

-- the line that tells how many entries a session's journal has
abbrev pub IsSessionLine : ℕ → ℕ → List ℕ → Type 0
IsSessionLine session entries line =
    (number : List ℕ) × (count : List ℕ) × IsNumberText number session × IsNumberText count entries
    × (line ≡ codes "session " ++ number ++ codes " " ++ count ++ 10 ∷ [])

-- whether the first of the sessions was served: something records it, or none is recorded
abbrev pub is_first_served : {K : Type 0} → List (Option K) → Bool
is_first_served [] = true
is_first_served (keeper ∷ keepers) = is_some keeper

-- what records the sessions past the first
abbrev pub past_first : {K : Type 0} → List (Option K) → List (Option K)
past_first [] = []
past_first (keeper ∷ keepers) = keepers

-- the sessions that were served, of which each has its number and the room that its cell closed with: those from this one
-- on with these rooms; where sessions are recorded, those alone that something records
abbrev pub served_of : {K : Type 0} → ℕ → List (Option K) → List (Option RoomState) → List (ℕ × Option RoomState)
served_of session keepers [] = []
served_of session keepers (room ∷ rooms) = let others = served_of (suc session) (past_first keepers) rooms in
    if is_first_served keepers then (session, room) ∷ others else others

-- a line for each of these sessions, of which none is lost
abbrev pub AreSessionLines : List (ℕ × Option RoomState) → List ℕ → Type 0
AreSessionLines [] lines = lines ≡ []
AreSessionLines ((session, None) ∷ sessions) lines = ⊥
AreSessionLines ((session, Some m) ∷ sessions) lines =
    (line : List ℕ) × (others : List ℕ) × IsSessionLine session (length m.journal) line × (lines ≡ line ++ others)
    × AreSessionLines sessions others

-- a line for each of these sessions, up to the first that is lost
abbrev pub AreLinesUpTo : List (ℕ × Option RoomState) → ℕ → List ℕ → Type 0
AreLinesUpTo [] lost lines = ⊥
AreLinesUpTo ((session, None) ∷ sessions) lost lines = (lost ≡ session) × (lines ≡ [])
AreLinesUpTo ((session, Some m) ∷ sessions) lost lines =
    (line : List ℕ) × (others : List ℕ) × IsSessionLine session (length m.journal) line × (lines ≡ line ++ others)
    × AreLinesUpTo sessions lost others

-- all was told: the port, which is the one that was wanted, and how many entries the room has that each session's cell
-- closed with, if it was served; the sessions are numbered from the first on
pub record HasServed {K : Type 0} (wanted first : ℕ) (keepers : List (Option K)) (cells : List Opened)
    (took taken : Option (List ℕ)) : Type 0 where
  pub port : ℕ
  pub port_is : IsPortFor wanted port
  pub rooms : List (Option RoomState)
  pub opening : List ℕ
  pub lines : List ℕ
  pub listening : IsListeningLine port opening
  pub closed : AreClosed cells rooms
  pub told : AreSessionLines (served_of first keepers rooms) lines
  pub sent : Appends took taken (opening ++ lines)

-- a session is lost: the port was told, and how many entries the rooms have that the cells before it closed with
pub record HasServedUpTo {K : Type 0} (wanted first : ℕ) (keepers : List (Option K)) (cells : List Opened)
    (took taken : Option (List ℕ)) (lost : ℕ) : Type 0 where
  pub port : ℕ
  pub port_is : IsPortFor wanted port
  pub rooms : List (Option RoomState)
  pub opening : List ℕ
  pub lines : List ℕ
  pub listening : IsListeningLine port opening
  pub closed : AreClosed cells rooms
  pub told : AreLinesUpTo (served_of first keepers rooms) lost lines
  pub sent : Appends took taken (opening ++ lines)

-- where a fault is that a session is lost, this holds of its number
abbrev pub IfLost : (ℕ → Type 0) → ToolFault → Type 0
IfLost P (Lost session) = P session
IfLost P fault = ⊤

-- how the telling of so many sessions from this one on may fail: one of them is lost, the line can't be written, or
-- memory ran out
abbrev pub IsTellFault : ℕ → ℕ → ToolFault → Type 0
IsTellFault session n (Lost k) = (session ≤ k) × (k < session + n)
IsTellFault session n Write = ⊤
IsTellFault session n Memory = ⊤
IsTellFault session n fault = ⊥

-- it has no port
abbrev pub IsBindFault : ToolFault → Type 0
IsBindFault (Bind why) = ⊤
IsBindFault fault = ⊥

-- how a server of so many sessions from this one on may fail, of which the first so many are recorded: as the telling
-- does, or it has no port, or accepts no more, or lines of a recorded session are lost
abbrev pub IsOutFault : (recorded first n : ℕ) → ToolFault → Type 0
IsOutFault recorded first n (Bind why) = ⊤
IsOutFault recorded first n Accept = ⊤
IsOutFault recorded first n (JournalBroken session) = IsSession first recorded session
IsOutFault recorded first n fault = IsTellFault first n fault

-- how a server of this file may fail, whose sessions are recorded in this folder, if they are: the file gives no types, the
-- sessions fail to be had, or the server fails
abbrev pub IsServeFault : ProtocolFile → Option (List ℕ) → (first n : ℕ) → ToolFault → Type 0
IsServeFault file folder first n fault =
    IsLoadFault file fault ⊎ (IsSessionsFault folder first n fault ⊎ IsOutFault (recorded_of folder n) first n fault)
