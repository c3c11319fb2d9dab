-- The numbers so far are small.
use Rattle.std.proofs.Common.{ℕ, ◌<◌, ◌^◌, take}
use Rattle.std.specs.List.{AllByRecursion}
use Rattle.mps_line.proofs.answer_texts.ids_are_small.Given as goal

abbrev pub invariant-loop-id : goal.invariant-loop-id
invariant-loop-id l = AllByRecursion (λ (n : ℕ). n < 2 ^ 64) (take l.id-index l.ids)
