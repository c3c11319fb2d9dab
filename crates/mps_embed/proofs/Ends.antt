-- Where a journal ends: no entry has an empty line.
use Rattle.std.proofs.Common.{arith, ◌≡◌, ◌<◌, ◌≤◌, ℕ, zero, suc, List, [], ◌∷◌, length, Option, Some, slice_get, refl, length-append}
use Rattle.mps_command.specs.declared.command.Command.{Command}
use Rattle.mps_line.specs.JournalLines.{SpellsJournalLine}

-- a journal's line has a byte at least
pub a_line_has_a_byte : (names : List (List ℕ)) (text : List ℕ) (role : ℕ) (number : Option ℕ) (command : Command) → SpellsJournalLine names text role number command → 0 < length text
a_line_has_a_byte names text role number command spells = grind (arith, length-append)

-- where each element would give some count that isn't 0, a count of 0 comes from past the end
pub past_where_none : {X : Type 0} (xs : List X) (k n : ℕ) → ((x : X) → slice_get xs k ≡ Some x → 0 < n) → n ≡ 0 → length xs ≤ k
past_where_none [] k n some e = omega arith
past_where_none (x ∷ xs) zero n some e = absurd (omega (arith, some x refl, e))
past_where_none (x ∷ xs) (suc k) n some e = omega (arith, past_where_none xs k n some e)
