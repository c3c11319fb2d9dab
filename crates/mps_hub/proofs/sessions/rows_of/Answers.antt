-- `rows_of` may call `passes_of` and `row_of`, by the lemmas of Cells.
use Rattle.std.proofs.Common.{◌≡◌, ◌<◌, List, ◌∷◌, ◌++◌, length, refl, sym, ap, ◌∙◌, subst, arith}
use Rattle.std.specs.Prelude.{All}
use Rattle.std.specs.Vec.Iter.{into_iter_items}
use Rattle.std.proofs.lemmas.Option.{slice_get_read}
use Rattle.mps_cell.specs.Calls.{Known}
use Rattle.mps_cell.specs.Cells.{Dealt, Opened}
use Rattle.mps_hub.specs.Places.{IsOfCell}
use Rattle.mps_hub.proofs.Cells.{fresh_of_cell, next_cell, next_deal}
use Rattle.mps_hub.proofs.sessions.rows_of.Goals as goal

pub passes_of-requires : goal.passes_of-requires
passes_of-requires c =
    let h = c.loop-deal.invariant in
    let done = c.loop-deal.yielded in
    let rest = into_iter_items c.next.new.self in
    let place = c.len.result in
    let split : c.args.deals.items ≡ done ++ c.in-Some.deal ∷ rest = h.whole ∙ ap (λ (l : List Dealt). done ++ l) c.in-Some.ensures.steps.0 in
    let at : place ≡ length done = omega (arith, c.len.ensures, c.loop-deal.rows.ok.0, h.count) in
    let less : place < length c.args.cells.now = omega (arith, at, next_cell c.args.cells.now c.args.deals.items done rest c.in-Some.deal c.requires split) in
    record {
      deal = next_deal c.args.cells.now c.args.deals.items done rest c.in-Some.deal place c.index-cells-len.result c.requires split at
          (slice_get_read c.args.cells.now (length c.args.cells.now) place c.index-cells-len.result refl less c.index-cells-len.is);
    }

pub row_of-requires : goal.row_of-requires
row_of-requires c =
    let o : Opened = c.index-cells-len.result in
    subst (λ (ks : List Known). All (IsOfCell o) ks) (sym c.in_ok-passes.ensures.passes) (fresh_of_cell o (length o.opening.types))
