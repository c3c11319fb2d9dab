-- Where all are passes of a cell, so are those before the last one, and that one.
use Rattle.std.proofs.Common.{◌≡◌, ◌++◌, List, Option}
use Rattle.std.specs.List.{All}
use Rattle.std.proofs.lemmas.List.Elements.{All-pop}
use Rattle.std.specs.Prelude.{IfSome}
use Rattle.std.specs.Option.{option_to_list}
use Rattle.atomic_table.specs.Seated.{TableId}
use Rattle.mps_cell.specs.Calls.{Known}

pub popped_rest : (id : TableId) (xs ys : List Known) (r : Option Known) → xs ≡ ys ++ option_to_list r → All (λ (p : Known). p.cell ≡ id) xs → All (λ (p : Known). p.cell ≡ id) ys
popped_rest id xs ys r is all = (All-pop (λ (p : Known). p.cell ≡ id) xs ys r is all).0

pub popped_last : (id : TableId) (xs ys : List Known) (r : Option Known) → xs ≡ ys ++ option_to_list r → All (λ (p : Known). p.cell ≡ id) xs → IfSome r (λ (p : Known). p.cell ≡ id)
popped_last id xs ys r is all = (All-pop (λ (p : Known). p.cell ≡ id) xs ys r is all).1
