-- Runs come to one view just where swaps lead from the steps that survive the one to those that survive the other.
use Rattle.std.proofs.Common.{◌≡◌, List, Some, refl}
use Rattle.std.specs.Prelude.{◌↔◌}
use Rattle.mps_base.specs.declared.action.Step.{Step}
use Rattle.mps_local.specs.Local.{LocalType}
use Rattle.mps_history.specs.Swaps.{Swaps}
use Rattle.mps_machine.specs.Machine.{State, initial, Request, after, view_of, IsSound}
use Rattle.mps_machine.specs.Rule.{replay}
use Rattle.mps_machine.specs.Runs.{survivors}
use Rattle.mps_machine.specs.View.{View, opening}
use Rattle.mps_machine.proofs.Sound.{initial_sound, after_sound}
use Rattle.mps_machine.proofs.Swapping.{one_view_by_swaps, swaps_keep, swaps_lead_to_one_view}
use Rattle.mps_machine.proofs.Undoing.{is_replayed}

-- sound states are what replaying their histories gives
pub states_agree : (types : List LocalType) (st other : State) → IsSound types st → IsSound types other → (view_of types st.history ≡ view_of types other.history) ↔ Swaps st.history other.history
states_agree types st other ok fine =
    let v = view_of types st.history in
    let w = view_of types other.history in
    (one_view_by_swaps types st.history other.history v w (is_replayed types st ok) (is_replayed types other fine), swaps_lead_to_one_view types st.history other.history v w (is_replayed types st ok) (is_replayed types other fine))

-- and runs lead to sound states
pub runs_agree : (types : List LocalType) (requests others : List Request) → (view_of types (survivors types requests) ≡ view_of types (survivors types others)) ↔ Swaps (survivors types requests) (survivors types others)
runs_agree types requests others =
    states_agree types (after types initial requests) (after types initial others)
    (after_sound types initial requests (initial_sound types))
    (after_sound types initial others (initial_sound types))

-- exchanges of a history that has a replay lead back, and on
pub swaps_back : (types : List LocalType) (k h : List Step) (v : View) → replay (opening types) k ≡ Some v → Swaps k h → Swaps h k
swaps_back types k h v e swaps = one_view_by_swaps types h k v v (swaps_keep types v e swaps) e refl

pub swaps_on : (types : List LocalType) (k h l : List Step) (v : View) → replay (opening types) k ≡ Some v → Swaps k h → Swaps h l → Swaps k l
swaps_on types k h l v e first second =
    one_view_by_swaps types k l v v e (swaps_keep types v (swaps_keep types v e first) second) refl
