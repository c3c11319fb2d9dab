-- `put_entry` may call `write_journal_line`.
use Rattle.std.proofs.Common.{◌≡◌, ℕ, List, Option, Some, None, refl, sym, ◌∙◌, subst}
use Rattle.std.specs.Prelude.{slice_get}
use Rattle.std.specs.Option.{option_map}
use Rattle.std.proofs.lemmas.Option.{some_pair_parts}
use Rattle.mps_command.specs.declared.command.Command.{Command}
use Rattle.mps_line.specs.JournalLines.{CanBeWritten}
use Rattle.mps_room.specs.declared.entry.Entry.{Entry}
use Rattle.mps_embed.proofs.filling.put_entry.Goals as goal

-- what holds of the role and the command of a kept entry holds of what is told of it
of_told : (P : ℕ → Command → Type 0) (kept : Option Entry) (role : ℕ) (command : Command) → option_map {U = ℕ × Command} (λ (e : Entry). (e.role, e.command)) kept ≡ Some (role, command) → ((e : Entry) → kept ≡ Some e → P e.role e.command) → P role command
of_told P None role command told holds = absurd cc
of_told P (Some e) role command told holds =
    let parts = some_pair_parts e.role role e.command command told in
    subst (λ (r : ℕ). P r command) parts.0 (subst (P e.role) parts.1 (holds e refl))

pub write_journal_line-requires : goal.write_journal_line-requires
write_journal_line-requires c =
    let asked = c.in-Some.asked in
    of_told (CanBeWritten c.names.result.now) (slice_get c.args.room.now.journal c.args.k) asked.0 asked.1 (sym c.in_ok-asked.ensures.command ∙ c.in-Some.is)
    (λ e got. subst (λ (names : List (List ℕ)). CanBeWritten names e.role e.command) (sym c.names.ensures.names) (c.each_has_a_line.ensures c.args.k e got))
