-- `mps_entry` meets its clause `line`.
use Rattle.std.proofs.Common.{◌≡◌, ℕ, List, None, Some, slice_get, sym, subst}
use Rattle.mps_embed.specs.Embedded.{EmbeddedState}
use Rattle.mps_line.specs.JournalLines.{SpellsJournalLine}
use Rattle.mps_c.specs.Results.{IsFilledOrLeft}
use Rattle.mps_c.proofs.mps_entry.Goals as goal

pub returns-clause-line : goal.returns-clause-line
returns-clause-line c entry got =
    let Line : EmbeddedState → List ℕ → Type 0 = λ e text. SpellsJournalLine e.room.names text entry.role None entry.command in
    subst (λ (e : EmbeddedState). IsFilledOrLeft (Line e) c.args.out.now c.entry.new.out c.entry.result) c.room.ensures.value
    (c.entry.ensures.line entry (subst (λ (e : EmbeddedState). slice_get e.room.journal c.args.k ≡ Some entry) (sym c.room.ensures.value) got))
