-- The newest step of a role names roles of the session.
use Rattle.std.proofs.Common.{◌≡◌, ℕ, Bool, true, false, List, [], ◌∷◌, Option, Some, None, Bor, sym, subst}
use Rattle.std.specs.Prelude.{◌==◌, if◌then◌else◌, IfSome}
use Rattle.std.specs.List.{AllByRecursion}
use Rattle.std.specs.Option.{option_copied, option_map, option_or}
use Rattle.mps_base.specs.declared.action.Message.{Message}
use Rattle.mps_base.specs.declared.action.Step.{Step}
use Rattle.mps_history.specs.Steps.{newest_of}

abbrev Moved : Type 0
Moved = Step × Option Message

module _ (Known : Step → Type 0) (p : ℕ) where
  -- of a first step and the newest of the others
  either : (x : Moved) → Known x.0 → (later : Option Moved) → ((m : Moved) → later ≡ Some m → Known m.0) → (own : Bool) → (m : Moved) → option_or later (if own then Some x else None) ≡ Some m → Known m.0
  either x first (Some y) known own m e = known m e
  either x first None known true m e = subst (λ (y : Moved). Known y.0) (let same : x ≡ m = cc in same) first
  either x first None known false m e = absurd cc

  -- what is known of each step is known of the newest
  newest_known : (ms : List Moved) → AllByRecursion (λ m. Known m.0) ms → (m : Moved) → newest_of p ms ≡ Some m → Known m.0
  newest_known [] all m e = absurd cc
  newest_known (x ∷ ms) all m e = either x all.0 (newest_of p ms) (newest_known ms all.1) (x.0.role == p) m e

  -- however it is found
  pub some_known : (ms : List Moved) → AllByRecursion (λ m. Known m.0) ms → (found : Option (Bor Step × Option (Bor Message))) → option_map (λ item. (item.0.now, option_copied item.1)) found ≡ newest_of p ms → IfSome found (λ item. Known item.0.now)
  some_known ms all None e = tt
  some_known ms all (Some item) e = newest_known ms all (item.0.now, option_copied item.1) (sym e)
