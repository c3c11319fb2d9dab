-- Walking over branches.
use Rattle.std.specs.Prelude.{◌≡◌, ℕ, suc, List, Option, None, Some}
use Rattle.std.specs.Borrow.{Bor}
use Rattle.mps_local.specs.Local.{Branches, NoMore, More, plain, plain_branches}
use Rattle.mps_local.specs.declared.Local.{Local}
use Rattle.mps_local.specs.declared.walking.Arms.{Arms}

-- the branches that are still to come
abbrev pub arms_left : Arms → Branches
arms_left arms = plain_branches arms.rest.now

-- how many branches there are
abbrev pub arm_count : Branches → ℕ
arm_count NoMore = 0
arm_count (More label next others) = suc (arm_count others)

-- the first of them is given, and the others are left; or there is none
abbrev pub GivesArm : Arms → Option (Bor (List ℕ) × Bor Local) → Arms → Type 0
GivesArm before None after = (arms_left before ≡ NoMore) × (arms_left after ≡ NoMore)
GivesArm before (Some arm) after = arms_left before ≡ More arm.0.now (plain arm.1.now) (arms_left after)
