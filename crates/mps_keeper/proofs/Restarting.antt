-- What was recorded of a legal journal, restored.
use Rattle.std.proofs.Common.{◌≡◌, ℕ, List, [], ◌∷◌, ◌++◌, sym, ap, ◌∙◌, append_assoc, append-nil}
use Rattle.std.specs.Prelude.{Option}
use Rattle.mps_base.specs.RoleLists.{AreDistinct}
use Rattle.mps_command.specs.declared.command.Command.{Command}
use Rattle.mps_line.specs.JournalLines.{SpellsJournalLine}
use Rattle.mps_local.specs.Local.{LocalType}
use Rattle.mps_room.specs.Callers.{entry}
use Rattle.mps_room.specs.Journal.{FollowsOn, IsEntryAfter, answer_to}
use Rattle.mps_room.specs.declared.entry.Entry.{Entry}
use Rattle.mps_room.specs.declared.numbers.Numbered.{Numbered}
use Rattle.mps_keeper.specs.Restored.{Standing, LineRestored, LinesRestored, kept_after}
use Rattle.mps_keeper.specs.Restarted.{newest_after}
use Rattle.mps_keeper.specs.Trails.{SpellEntries}

module _ (names : List (List ℕ)) (types : List LocalType) (distinct : AreDistinct names)
    (role_is : (names : List (List ℕ)) (a : List ℕ) (p q : ℕ) (m n : Option ℕ) (c d : Command) → AreDistinct names → SpellsJournalLine names a p m c → SpellsJournalLine names a q n d → p ≡ q)
    (number_is : (names : List (List ℕ)) (a : List ℕ) (p q : ℕ) (m n : Option ℕ) (c d : Command) → SpellsJournalLine names a p m c → SpellsJournalLine names a q n d → m ≡ n)
    (command_is : (names : List (List ℕ)) (a : List ℕ) (p q : ℕ) (m n : Option ℕ) (c d : Command) → AreDistinct names → SpellsJournalLine names a p m c → SpellsJournalLine names a q n d → c ≡ d) where
  -- a line's command gets its entry again
  same_entry : (start : List Entry) (e : Entry) (before mid : Standing) (line : List ℕ) (number : Option ℕ) → before.journal ≡ start → IsEntryAfter names types start e → SpellsJournalLine names line e.role number e.command → LineRestored names types before line mid
      → (mid.journal ≡ start ++ e ∷ []) × (mid.newest ≡ kept_after before.newest e.role number e.answer)
  same_entry start e before mid line number is follows spelled h =
      let role : h.role ≡ e.role = role_is names line h.role e.role h.number number h.command e.command distinct h.spelled spelled in
      let same : h.number ≡ number = number_is names line h.role e.role h.number number h.command e.command h.spelled spelled in
      let command : h.command ≡ e.command = command_is names line h.role e.role h.number number h.command e.command distinct h.spelled spelled in
      let answer : h.called.answer ≡ e.answer = h.called.follows.answer ∙ (λ i. answer_to names types (is i) (role i) (command i)) ∙ sym follows.answer in
      (h.called.joined ∙ (λ i. is i ++ entry (role i) (command i) (answer i) ∷ []), h.called.kept ∙ (λ i. kept_after before.newest (role i) (same i) (answer i)))

  pub again : (start : List Entry) (lines : List (List ℕ)) (numbers : List (Option ℕ)) (journal : List Entry) (before after : Standing) → before.journal ≡ start → FollowsOn names types start journal → SpellEntries names lines numbers journal → LinesRestored names types before lines after
      → (after.journal ≡ start ++ journal) × (after.newest ≡ newest_after before.newest numbers journal)
  again start [] [] [] before after is follows spelled h = (ap (λ (s : Standing). s.journal) h ∙ is ∙ sym (append-nil start), ap (λ (s : Standing). s.newest) h)
  again start (line ∷ lines) (number ∷ numbers) (e ∷ journal) before after is follows spelled h =
      let one = same_entry start e before h.0 line number is follows.0 spelled.0 h.1 in
      let rest = again (start ++ e ∷ []) lines numbers journal h.0 after one.0 follows.1 spelled.1 h.2 in
      (rest.0 ∙ append_assoc start (e ∷ []) journal, rest.1 ∙ ap (λ (l : List (Option Numbered)). newest_after l numbers journal) one.1)
  again start other others further before after is follows spelled h = absurd spelled
