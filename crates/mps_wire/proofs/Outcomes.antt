-- How the results of its parts are a run's.
use Rattle.std.proofs.Common.{◌≡◌, ℕ, List, Bool, true, false, Result, Ok, Err, refl, inl, subst, arith}
use Rattle.std.specs.Prelude.{◌↔◌, IsErrOf}
use Rattle.mps_local.specs.Local.{LocalType}
use Rattle.mps_base.specs.RoleLists.{HasRoleCount}
use Rattle.mps_local.specs.declared.faults.LocalFault.{LocalFault}
use Rattle.mps_session.specs.Peers.{IsFirstBad, IsFirstFaulty, CanOpen, KeepsShut}
use Rattle.mps_session.specs.declared.open.OpenFault.{OpenFault}
use Rattle.mps_room.specs.RoomState.{RoomState}
use Rattle.mps_session.specs.declared.open.OpenFault.TheVariants.{RoleCount, BadPeer, Local, Memory as OutOfMemory}
use Rattle.mps_wire.specs.declared.script.ReplayFault.{ReplayFault}
use Rattle.mps_wire.specs.declared.script.ReplayFault.TheVariants.{Open, ReadFault, WriteFault, Turns, Memory}
use Rattle.mps_wire.specs.Answers.{Answering}
use Rattle.mps_wire.specs.Runs.{of_opening, Replayed, ScriptRan, Ran, Finished, Going, GaveAtLeast}
use Rattle.mps_wire.specs.Private.Turns.{Turned}
use Rattle.mps_wire.specs.Streams.{Counted, Streams, Counts, all_went_well, one_read_ended}
use Rattle.mps_wire.proofs.Turning.{starved_first}

-- why no run begins: the session isn't opened, or memory ran out
abbrev pub KeepsFromBeginning : List LocalType → ReplayFault → Type 0
KeepsFromBeginning types (Open fault) = KeepsShut types fault
KeepsFromBeginning types Memory = CanOpen types
KeepsFromBeginning types ReadFault = ⊥
KeepsFromBeginning types WriteFault = ⊥
KeepsFromBeginning types Turns = ⊥

-- why a session isn't opened keeps a run from beginning
pub shut : {S : Type 0} (types : List LocalType) (fault : OpenFault)
    → (IsErrOf {T = S} (Err fault) RoleCount ↔ ¬ HasRoleCount types)
    → ((role : ℕ) → IsErrOf {T = S} (Err fault) (BadPeer role) → IsFirstBad types role)
    → ((role : ℕ) (found : LocalFault) → IsErrOf {T = S} (Err fault) (Local role found) → IsFirstFaulty types role found)
    → (IsErrOf {T = S} (Err fault) OutOfMemory → CanOpen types)
    → KeepsFromBeginning types (of_opening fault)
shut types RoleCount count peer local memory = count.0 refl
shut types (BadPeer role) count peer local memory = peer role refl
shut types (Local role found) count peer local memory = local role found refl
shut types OutOfMemory count peer local memory = memory refl

pub same_counts : (s : Streams) → Counts s s all_went_well
same_counts s = record { reads_failed = omega arith; reads_ended = omega arith; writes_failed = omega arith }

module _ (first old now : Streams) (none : Counts first old all_went_well) where
  pub counts_more : (t : Counted) → Counts old now t → Counts first now t
  counts_more t c = grind arith

  -- a read's fault is the run's
  pub breaks : {S : Type 0} (answers : Answering S) (start : S) (kept : List ℕ) (st : S) (fault : ReplayFault) → Turned answers start first old now kept st (Err fault) → Ran answers start first now (Err fault)
  breaks answers start kept st fault h = grind (arith, counts_more)

module _ {S : Type 0} (answers : Answering S) (start : S) (first old now : Streams) (kept : List ℕ) (st : S) (over : Bool) (h : Turned answers start first old now kept st (Ok over)) where
  -- the read that found the end
  pub at_end : over ≡ true → Finished answers start first now st × Counts old now one_read_ended
  at_end e = subst (λ (b : Bool). Turned answers start first old now kept st (Ok b)) e h

  -- one before it
  pub before_end : over ≡ false → Going answers start first now kept st × Counts old now all_went_well × GaveAtLeast 1 old now
  before_end e = subst (λ (b : Bool). Turned answers start first old now kept st (Ok b)) e h

-- memory ran out before the first read
pub starts_starved : {S : Type 0} (answers : Answering S) (start : S) (s : Streams) → Ran answers start s s (Err Memory)
starts_starved answers start s = inl (starved_first answers start s, same_counts s)

module _ (names : List (List ℕ)) (types : List LocalType) where
  -- no run begins
  pub not_begun : (s : Streams) (fault : ReplayFault) → KeepsFromBeginning types fault → Replayed names types s s (Err fault)
  not_begun s fault h = grind (arith, starts_starved)

  -- the run is on a session that could be opened
  pub opened_first : (before after : Streams) (r : Result RoomState ReplayFault) → CanOpen types → ScriptRan names types before after r → Replayed names types before after r
  opened_first before after r can h = grind arith
