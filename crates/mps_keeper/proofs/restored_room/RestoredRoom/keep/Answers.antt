-- `RestoredRoom::keep` meets its clause `kept`, by the lemmas of Restoring.
use Rattle.std.proofs.Common.{ℕ, Option, ap, sym, ◌∙◌}
use Rattle.std.specs.Prelude.{slice_set}
use Rattle.mps_room.specs.Numbers.{newest_of}
use Rattle.mps_keeper.specs.Restored.{kept_after}
use Rattle.mps_keeper.proofs.Restoring.{newest_set}
use Rattle.mps_keeper.proofs.restored_room.RestoredRoom.keep.Goals as goal

pub returns-in-Some-clause-kept : goal.returns-in-Some-clause-kept
returns-in-Some-clause-kept c =
    newest_set _ c.index.result c.keep.new.self
    ∙ (λ i. slice_set (newest_of c.args.self.now.numbers.items) (c.index.ensures.place i) (c.keep.ensures i))
    ∙ ap (λ (m : Option ℕ). kept_after (newest_of c.args.self.now.numbers.items) c.args.role m c.args.answer) (sym c.in-Some.is)
