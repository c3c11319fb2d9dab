-- `Desk::new` may call `new`, by the lemmas of Locking.
use Rattle.std.proofs.Common.{List, [], ◌∷◌, ◌++◌, refl, ap, sym, ◌∙◌}
use Rattle.mps_cell.specs.Cells.{Opened}
use Rattle.mps_hub.proofs.Locking.{begins}
use Rattle.mps_hub.proofs.desk.Desk.new.Goals as goal

pub new-requires : goal.new-requires
new-requires c =
    begins _ _ _ refl
    (c.push_reserved.ensures.items ∙ ap (λ (l : List (List Opened)). l ++ c.args.rows.items ∷ []) c.in_ok-slots.ensures.items ∙ ap (λ (cells : List Opened). cells ∷ []) (sym c.of-about.ensures))
