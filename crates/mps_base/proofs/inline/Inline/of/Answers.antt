-- `Inline::of` keeps the invariant of its type, by the lemmas of Kept.
use Rattle.std.proofs.Common.{ap, List, ℕ, ◌++◌, drop, replicate, length}
use Rattle.mps_base.proofs.Kept.{kept}
use Rattle.mps_base.proofs.inline.Inline.of.Goals as goal

pub invariant_of-result : goal.invariant_of-result
invariant_of-result c =
    kept c.args.bytes.now _ c.requires.short (ap (λ (front : List ℕ). front ++ drop (length c.args.bytes.now) (replicate 32 0)) c.copy_from_slice.ensures.after)
