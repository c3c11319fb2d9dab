-- The newest step of a role, by its key.
use Rattle.std.proofs.Common.{◌≡◌, ℕ, true, false, ⊎_elim, List, [], ◌∷◌, ◌++◌, Option, Some, None, refl, sym, ap, ◌∙◌, subst}
use mathlib.Core.Path.{ap₂}
use Rattle.std.specs.Prelude.{◌==◌, if◌then◌else◌}
use Rattle.std.specs.Option.{option_and_then, option_map, option_or}
use Rattle.std.proofs.lemmas.Bool.{cases_Bool, cond-true, cond-false}
use Rattle.mps_base.specs.declared.action.Message.{Message}
use Rattle.mps_base.specs.declared.action.Step.{Step}
use Rattle.mps_history.specs.Steps.{newest_of}
use Rattle.mps_arena.specs.Keys.{AreDistinct, last_key}
use Rattle.mps_arena.specs.KeyedSteps.{KeyedStep, keys_of, any_step, of_role, keyed_at}
use Rattle.mps_arena.proofs.Chains.{keys_with, keys_without, keyed_middle}
use Rattle.mps_links.proofs.Lasts.{last_is, nothing_last}
use Rattle.mps_log.specs.Shown.{Moved, moved_of, shown}

module _ (es : List KeyedStep) (p : ℕ) where
  -- the step as it is shown, where it is the role's
  abbrev own : KeyedStep → Option Moved
  own x = if x.step.role == p then Some (x.step, moved_of es x) else None

  none_own : (b : List KeyedStep) → keys_of (of_role p) b ≡ [] → newest_of p (shown es b) ≡ None
  none_own [] none = refl
  none_own (x ∷ b) none =
      ⊎_elim
      (λ (t : (x.step.role == p) ≡ true). absurd (let some : x.key ∷ keys_of (of_role p) b ≡ [] = sym (keys_with (of_role p) x b t) ∙ none in cc))
      (λ (f : (x.step.role == p) ≡ false).
      ap₂ (λ (o q : Option Moved). option_or o q) (none_own b (sym (keys_without (of_role p) x b f) ∙ none)) (cond-false (x.step.role == p) (Some (x.step, moved_of es x)) None f))
      (cases_Bool (x.step.role == p))

  newest_middle : (a b : List KeyedStep) (y : KeyedStep) → (y.step.role == p) ≡ true → keys_of (of_role p) b ≡ [] → newest_of p (shown es (a ++ y ∷ b)) ≡ Some (y.step, moved_of es y)
  newest_middle [] b y t none = ap₂ (λ (o q : Option Moved). option_or o q) (none_own b none) (cond-true (y.step.role == p) (Some (y.step, moved_of es y)) None t)
  newest_middle (x ∷ a) b y t none = ap (λ (o : Option Moved). option_or o (own x)) (newest_middle a b y t none)

  -- no step of the role
  pub newest_none : last_key None (keys_of (of_role p) es) ≡ None → newest_of p (shown es es) ≡ None
  newest_none none = none_own es (nothing_last (keys_of (of_role p) es) none)

  module _ (distinct : AreDistinct (keys_of any_step es)) (k : ℕ) (last : last_key None (keys_of (of_role p) es) ≡ Some k) where
    -- the step of the last key is there
    pub found : (y : KeyedStep) × (keyed_at k es ≡ Some y) × (newest_of p (shown es es) ≡ Some (y.step, moved_of es y))
    found =
        let l = last_is (of_role p) es k last in
        let apart = subst (λ (a : List KeyedStep). AreDistinct (keys_of any_step a)) l.parts distinct in
        let at : keyed_at l.keyed.key (l.before ++ l.keyed ∷ l.behind) ≡ Some l.keyed = keyed_middle l.before l.behind l.keyed apart in
        (l.keyed, ap₂ keyed_at (sym l.key) l.parts ∙ at, ap (λ (a : List KeyedStep). newest_of p (shown es a)) l.parts ∙ newest_middle l.before l.behind l.keyed l.passes l.none)

    -- it is the newest
    pub newest_is : (s : Step) (m : Option Message) → option_map (λ e. e.step) (keyed_at k es) ≡ Some s → m ≡ option_and_then (moved_of es) (keyed_at k es) → Some (s, m) ≡ newest_of p (shown es es)
    newest_is s m step moved =
        let y = found.0 in
        let one : Some y.step ≡ Some s = sym (ap (option_map (λ (e : KeyedStep). e.step)) found.1) ∙ step in
        let same : y.step ≡ s = cc in
        let other : m ≡ moved_of es y = moved ∙ ap (option_and_then (moved_of es)) found.1 in
        ap₂ (λ (t : Step) (o : Option Message). let x : Moved = (t, o) in Some x) (sym same) other ∙ sym found.2
