-- What a caller in C is told.
use Rattle.std.specs.Prelude.{◌≡◌, ℕ, ◌<◌, ◌≤◌, ◌-◌, ◌^◌, ◌⊎◌, Bool, true, false, nat_lt, if◌then◌else◌, List, Result, Ok, Err}
use Rattle.std.specs.declared.alloc.AllocError.{AllocError}
use Rattle.mps_embed.specs.Embedded.{EmbeddedState, IsFilled, IsNewRoomOf}
use Rattle.mps_embed.specs.Kept.{GivesNoRoom, IsFilePlace, IsKeptRoomOf, IsUnusable, file_number}
use Rattle.mps_embed.specs.declared.kept.FileFault.{FileFault}
use Rattle.mps_local.specs.declared.merging.Merging.{Merging}
use Rattle.mps_local.specs.declared.merging.Merging.TheVariants.{Plain, Full}
use Rattle.mps_open.specs.Faults.{GivesNoSession, number_of, place_of}
use Rattle.mps_open.specs.declared.fault.Fault.{Fault}

-- what stands for a length where there is none: the greatest number of 64 bits
abbrev pub no_length : ℕ
no_length = 2 ^ 64 - 1

abbrev pub length_of : Result ℕ AllocError → ℕ
length_of (Ok length) = length
length_of (Err why) = no_length

-- a text of that kind was written over the front of the bytes, as much of it as fits, and this is its whole length; or
-- there was no memory for it, and nothing was written
abbrev pub IsFilledOrLeft : (IsText : List ℕ → Type 0) → (old new : List ℕ) → (count : ℕ) → Type 0
IsFilledOrLeft IsText old new count = IsFilled IsText old new count ⊎ ((count ≡ no_length) × (new ≡ old))

-- there is a new room of the protocol that the text spells, by that kind of merging, which the pointer is said to own in no clause; or there is
-- none, and the number and the place are those of the text's fault
abbrev pub Opens : (merging : Merging) → (text : List ℕ) → (opened : Bool) → (number place : ℕ) → Type 0
Opens merging text true number place = (room : EmbeddedState) × IsNewRoomOf merging text room
Opens merging text false number place =
    (fault : Fault) × GivesNoSession merging text fault × (number ≡ number_of fault) × (place ≡ place_of fault)

-- the kind of merging that flags ask for: the second bit stands for full merging
abbrev pub merging_of : ℕ → Merging
merging_of flags = if nat_lt flags 2 then Plain else Full

-- there is a room of the protocol that the text spells, which its file records; or there is none, and the number and the
-- place are those of the fault, which is the text's or the file's; flags that aren't known open none
abbrev pub OpensKept : (text : List ℕ) → (flags : ℕ) → (opened : Bool) → (number place : ℕ) → Type 0
OpensKept text flags true number place =
    (flags ≤ 3) × (room : EmbeddedState) × IsKeptRoomOf (merging_of flags) text room
OpensKept text flags false number place =
    (fault : FileFault) × (flags ≤ 3 → GivesNoRoom (merging_of flags) text fault) × (3 < flags → IsUnusable fault)
    × (number ≡ file_number fault) × IsFilePlace fault place
