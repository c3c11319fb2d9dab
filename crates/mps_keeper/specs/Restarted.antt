-- What a recorded journal leaves of each role's numbered commands.
use Rattle.std.specs.Prelude.{ℕ, List, ◌∷◌, Option}
use Rattle.mps_room.specs.declared.entry.Entry.{Entry}
use Rattle.mps_room.specs.declared.numbers.Numbered.{Numbered}
use Rattle.mps_keeper.specs.Restored.{kept_after}

-- each role's newest numbered command, after these entries, whose commands had these numbers, or none
abbrev pub newest_after : List (Option Numbered) → List (Option ℕ) → List Entry → List (Option Numbered)
newest_after newest (number ∷ numbers) (e ∷ journal) =
    newest_after (kept_after newest e.role number e.answer) numbers journal
newest_after newest numbers journal = newest
