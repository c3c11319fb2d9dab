-- A room of a session before its first step.
use Rattle.std.proofs.Common.{◌≡◌, ℕ, ◌≤◌, List, [], length, arith}
use Rattle.std.specs.Prelude.{slice_index_or}
use Rattle.mps_machine.specs.Machine.{initial}
use Rattle.mps_room.specs.Private.Narrow.{Narrow}
use Rattle.mps_room.specs.Private.Rooms.{IsRoom}
use Rattle.mps_session.specs.SessionState.{SessionState}

pub opened : (names : List (List ℕ)) (m : SessionState) → length names ≡ length m.types → m.state ≡ initial
    → (count : ℕ) (lists : List (List ℕ)) (roles : ℕ) → count ≡ roles → roles ≡ length names → roles ≤ 8
    → length lists ≡ 8 → ((p : ℕ) → slice_index_or lists p [] ≡ [])
    → (owners places : List ℕ) (js : List Narrow) → owners ≡ [] → places ≡ [] → js ≡ [] → IsRoom names m owners places count lists js
opened names m counted fresh count lists roles same all few each none owners places js owned placed empty = grind arith
