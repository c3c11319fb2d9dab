-- What was written, and what a caller in C is told of it.
use Rattle.std.proofs.Common.{◌≡◌, ℕ, List, Result, Ok, Err, IfOk, OnErr, inl, inr, sym, subst}
use Rattle.std.specs.declared.alloc.AllocError.{AllocError}
use Rattle.mps_embed.specs.Embedded.{IsFilled}
use Rattle.mps_c.specs.Results.{IsFilledOrLeft, length_of}

pub filled_or_left : (IsText : List ℕ → Type 0) (old new : List ℕ) (written : Result ℕ AllocError) (count : ℕ) → count ≡ length_of written → IfOk written (IsFilled IsText old new) → OnErr written (new ≡ old) → IsFilledOrLeft IsText old new count
filled_or_left IsText old new (Ok length) count told filled left = inl (subst (IsFilled IsText old new) (sym told) filled)
filled_or_left IsText old new (Err why) count told filled left = inr (told, left)
