-- The last keyed step that passes a test.
use Rattle.std.proofs.Common.{◌≡◌, ℕ, Bool, true, false, List, [], ◌∷◌, ◌++◌, Option, Some, None, refl, sym, ap, ◌∙◌, arith, ⊎_elim, append_assoc}
use mathlib.Core.Path.{ap₂}
use Rattle.std.specs.Prelude.{◌||◌}
use Rattle.std.specs.Option.{option_or}
use Rattle.std.proofs.lemmas.Bool.{cases_Bool, lt-ltb, le-ltb, or_left}
use Rattle.mps_base.specs.declared.action.Step.{Step}
use Rattle.mps_history.specs.Steps.{IsRising}
use Rattle.mps_arena.specs.Keys.{AreDistinct, last_key}
use Rattle.mps_arena.specs.KeyedSteps.{KeyedStep, steps, keys_of, any_step}
use Rattle.mps_arena.specs.Neighbours.{id_in}
use Rattle.mps_arena.proofs.Chains.{keys_with, keys_without}
use Rattle.mps_links.specs.Private.Order.{is_before, later}
use Rattle.mps_links.proofs.StepKeys.{cases_key, in_middle}
use Rattle.mps_links.proofs.Firsts.{same_either, id_middle, rising_behind}

some_last : (j : ℕ) (c : List ℕ) → last_key (Some j) c ≡ None → ⊥
some_last j [] e = absurd cc
some_last j (i ∷ c) e = some_last i c e

pub nothing_last : (c : List ℕ) → last_key None c ≡ None → c ≡ []
nothing_last [] e = refl
nothing_last (j ∷ c) e = absurd (some_last j c e)

last_from : (before : Option ℕ) (c : List ℕ) → last_key before c ≡ option_or (last_key None c) before
last_from before [] = refl
last_from before (j ∷ c) = last_from (Some j) c ∙ kept (last_key None c) ∙ sym (ap (λ o. option_or o before) (last_from (Some j) c))
  where
    kept : (o : Option ℕ) → option_or o (Some j) ≡ option_or (option_or o (Some j)) before
    kept None = refl
    kept (Some i) = refl

-- the last keyed step of the list that passes, where it stands
pub record IsLast (p : Step → Bool) (b : List KeyedStep) (k : ℕ) : Type 0 where
  pub before : List KeyedStep
  pub keyed : KeyedStep
  pub behind : List KeyedStep
  pub parts : b ≡ before ++ keyed ∷ behind
  pub key : keyed.key ≡ k
  pub passes : p keyed.step ≡ true
  pub none : keys_of p behind ≡ []

-- the last key, where one more stands before
last_with : (p : Step → Bool) (y : KeyedStep) (b : List KeyedStep) → p y.step ≡ true → last_key None (keys_of p (y ∷ b)) ≡ option_or (last_key None (keys_of p b)) (Some y.key)
last_with p y b t = ap (last_key None) (keys_with p y b t) ∙ last_from (Some y.key) (keys_of p b)

last_without : (p : Step → Bool) (y : KeyedStep) (b : List KeyedStep) → p y.step ≡ false → last_key None (keys_of p (y ∷ b)) ≡ last_key None (keys_of p b)
last_without p y b f = ap (last_key None) (keys_without p y b f)

pub last_is : (p : Step → Bool) (b : List KeyedStep) (k : ℕ) → last_key None (keys_of p b) ≡ Some k → IsLast p b k
last_is p [] k e = absurd cc
last_is p (y ∷ b) k e =
    ⊎_elim
    (λ (t : p y.step ≡ true).
    ⊎_elim
    (λ (z : last_key None (keys_of p b) ≡ None).
    let one : Some y.key ≡ Some k = sym (last_with p y b t ∙ ap (λ o. option_or o (Some y.key)) z) ∙ e in
    let same : y.key ≡ k = cc in
    record { before = []; keyed = y; behind = b; parts = refl; key = same; passes = t; none = nothing_last (keys_of p b) z })
    (λ (w : (j : ℕ) × (last_key None (keys_of p b) ≡ Some j)).
    let one : Some w.0 ≡ Some k = sym (last_with p y b t ∙ ap (λ o. option_or o (Some y.key)) w.1) ∙ e in
    let r = last_is p b k (w.1 ∙ one) in
    record { before = y ∷ r.before; keyed = r.keyed; behind = r.behind; parts = ap (λ l. y ∷ l) r.parts; key = r.key; passes = r.passes; none = r.none })
    (cases_key (last_key None (keys_of p b))))
    (λ (f : p y.step ≡ false).
    let r = last_is p b k (sym (last_without p y b f) ∙ e) in
    record { before = y ∷ r.before; keyed = r.keyed; behind = r.behind; parts = ap (λ l. y ∷ l) r.parts; key = r.key; passes = r.passes; none = r.none })
    (cases_Bool (p y.step))

module _ (es : List KeyedStep) (d : AreDistinct (keys_of any_step es)) (rising : IsRising (steps es)) where
  -- the key is that of a later step, if it is there
  abbrev IsLater : ℕ → Option ℕ → Type 0
  IsLater y o = (k : ℕ) → o ≡ Some k → (is_before (id_in es y) (id_in es k) ≡ true) × (is_before (id_in es k) (id_in es y) ≡ false)

  last_later : (p : Step → Bool) (a b : List KeyedStep) (y : KeyedStep) → es ≡ a ++ y ∷ b → IsLater y.key (last_key None (keys_of p b))
  last_later p a b y e k last =
      let w = last_is p b k last in
      let whole : es ≡ (a ++ y ∷ w.before) ++ w.keyed ∷ w.behind = e ∙ ap (λ l. a ++ y ∷ l) w.parts ∙ sym (append_assoc a (y ∷ w.before) (w.keyed ∷ w.behind)) in
      let first = id_middle es d rising a b y e in
      let second : id_in es k ≡ Some w.keyed.step.id = ap (id_in es) (sym w.key) ∙ id_middle es d rising (a ++ y ∷ w.before) w.behind w.keyed whole in
      let less = rising_behind es d rising a b y w.keyed.step e (in_middle b w.before w.behind w.keyed w.parts) in
      (ap₂ is_before first second ∙ lt-ltb y.step.id w.keyed.step.id less, ap₂ is_before second first ∙ le-ltb w.keyed.step.id y.step.id (omega arith))

  some_kept : (j k y : ℕ) → option_or (later es (Some j) (Some k)) (Some y) ≡ later es (Some j) (Some k)
  some_kept j k y = grind (arith, cases_Bool)

  later_both : (y : ℕ) (o l : Option ℕ) → IsLater y o → IsLater y l → option_or (later es o l) (Some y) ≡ later es (option_or o (Some y)) (option_or l (Some y))
  later_both y o l f g = grind (arith, same_either, some_kept)

  later_left : (y : ℕ) (o l : Option ℕ) → IsLater y l → option_or (later es o l) (Some y) ≡ later es (option_or o (Some y)) l
  later_left y o l g = grind (arith, some_kept)

  later_right : (y : ℕ) (o l : Option ℕ) → IsLater y o → option_or (later es o l) (Some y) ≡ later es o (option_or l (Some y))
  later_right y o l f = grind (arith, some_kept)

  -- the last keyed step that passes one of two tests is the later of the last that pass each
  pub last_or : (f g : Step → Bool) (a b : List KeyedStep) → es ≡ a ++ b → last_key None (keys_of (λ t. f t || g t) b) ≡ later es (last_key None (keys_of f b)) (last_key None (keys_of g b))
  last_or f g a [] e = refl
  last_or f g a (y ∷ b) e =
      let both = λ (t : Step). f t || g t in
      let o = last_key None (keys_of f b) in
      let l = last_key None (keys_of g b) in
      let rest = last_or f g (a ++ y ∷ []) b (e ∙ sym (append_assoc a (y ∷ []) b)) in
      let more = λ (u : both y.step ≡ true). last_with both y b u ∙ ap (λ r. option_or r (Some y.key)) rest in
      grind (arith, later_both y.key o l (last_later f a b y e) (last_later g a b y e), or_left, later_left, last_later, last_with, last_without, cases_Bool (g y.step), later_right y.key o l (last_later f a b y e), cases_Bool (f y.step))
