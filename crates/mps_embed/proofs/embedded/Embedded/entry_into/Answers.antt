-- `Embedded::entry_into` meets its clause `empty`, by the lemmas of Ends.
use Rattle.std.proofs.Common.{◌≡◌, ◌<◌, ◌≤◌, Some, None, slice_get, length, subst, arith}
use Rattle.mps_room.specs.declared.entry.Entry.{Entry as Kept}
use Rattle.mps_embed.specs.Embedded.{EmbeddedState}
use Rattle.mps_embed.proofs.Ends.{a_line_has_a_byte, past_where_none}
use Rattle.mps_embed.proofs.embedded.Embedded.entry_into.Goals as goal

pub returns-clause-empty : goal.returns-clause-empty
returns-clause-empty g c nothing =
    let room = c.self.inside.guest.inner.room in
    let k = c.args.k in
    let n = c.len.result in
    let some : (entry : Kept) → slice_get room.journal k ≡ Some entry → 0 < n =
    λ entry got. omega (arith, c.len.ensures, a_line_has_a_byte room.names c.put_entry.new.text.items entry.role None entry.command (c.in_ok-put_entry.ensures.line entry got)) in
    subst (λ (e : EmbeddedState). length e.room.journal ≤ k) c.self.view_is (past_where_none room.journal k n some (let zero : n ≡ 0 = cc in zero))
