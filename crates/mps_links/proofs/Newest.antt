-- The newest marked step, and those of each role.
use Rattle.std.proofs.Common.{◌≡◌, ◌<◌, ◌+◌, ℕ, Bool, true, false, List, [], ◌∷◌, ◌++◌, Option, Some, None, refl, sym, ap, ◌∙◌, subst, arith, ⊎_elim, ◌⊎◌, inl, inr}
use Rattle.std.specs.Prelude.{◌==◌, ◌&&◌, ◌||◌, nat_lt}
use Rattle.std.specs.List.{AllByRecursion}
use Rattle.std.proofs.lemmas.Bool.{cases_Bool, eqb-true, eqb-false, ltb-true, ltb-false, lt-ltb, le-ltb, and_from, and_left, and_parts, or_left, false_from_ne_true, both_ways}
use Rattle.mps_base.specs.declared.action.Step.{Step}
use Rattle.mps_history.specs.Steps.{IsIn, IsRising}
use Rattle.mps_history.specs.Dependence.{depends_on}
use Rattle.mps_history.proofs.Order.{rising_apart, IsIn-append, IsIn-append_left, IsIn-append_right}
use Rattle.mps_arena.specs.Keys.{first_key, last_key}
use Rattle.mps_arena.specs.KeyedSteps.{KeyedStep, steps, keys_of, any_step, of_role, AreSound, IsSmall}
use Rattle.mps_arena.specs.Neighbours.{CanGo}
use Rattle.mps_arena.proofs.KeyLists.{last-append}
use Rattle.mps_arena.proofs.Chains.{keys_around}
use Rattle.mps_links.specs.Private.Order.{later}
use Rattle.mps_links.specs.Marks.{marked_keys, is_marked, AreMarksClosed}
use Rattle.mps_links.proofs.StepKeys.{steps_around, in_middle, keys_agree, keys_none, none_passes}
use Rattle.mps_links.proofs.Lasts.{last_is, last_or}
use Rattle.mps_links.proofs.Links.{alone_can_go}
use Rattle.mps_links.proofs.Marked.{marked_here, keys_marked}

pub small_in : (es : List KeyedStep) (t : Step) → AllByRecursion (λ e. IsSmall e.step) es → IsIn t (steps es) → t.role < 8
small_in [] t h i = absurd i
small_in (y ∷ es) t h (inl e) = subst (λ (s : Step). s.role < 8) (sym e) h.0.0
small_in (y ∷ es) t h (inr i) = small_in es t h.1 i

-- one role more
pub below_next : (n r : ℕ) → nat_lt n (r + 1) ≡ (nat_lt n r || n == r)
below_next n r = grind (arith, ltb-true, lt-ltb, or_left, ltb-false, eqb-true, eqb-false, le-ltb, cases_Bool)

pub spread_left : (a b m : Bool) → ((a || b) && m) ≡ ((a && m) || (b && m))
spread_left a b m = grind arith

pub where_in : (es a b : List KeyedStep) (x : KeyedStep) (t : Step) → es ≡ a ++ x ∷ b → IsIn t (steps es) → IsIn t (steps a) ⊎ ((t ≡ x.step) ⊎ IsIn t (steps b))
where_in es a b x t e i = IsIn-append t (steps a) (x.step ∷ steps b) (subst (λ (l : List Step). IsIn t l) (ap steps e ∙ steps_around a b x) i)

-- the newest step of all is the newest marked one where it is marked
pub newest_of_all : (es : List KeyedStep) → AreSound es → (a b : List KeyedStep) (x : KeyedStep) → es ≡ a ++ x ∷ b → keys_of any_step b ≡ [] → x.marked ≡ true → last_key None (marked_keys es) ≡ Some x.key
newest_of_all es sound a b x parts none m =
    let q = λ (s : Step). is_marked es s.id in
    let rest : keys_of q b ≡ [] = keys_none q b (λ t i. absurd (both_ways true (none_passes any_step b t none i) refl)) in
    let here : is_marked es x.step.id ≡ true = marked_here es a b x sound.rising parts ∙ m in
    let all : marked_keys es ≡ keys_of q es = sym (keys_marked es sound.rising) in
    grind (arith, all, keys_around, here, rest, last-append)

module _ (es : List KeyedStep) (sound : AreSound es) (closed : AreMarksClosed es) where
  abbrev mark : ℕ → Bool
  mark n = is_marked es n

  module _ (p : ℕ) (a b : List KeyedStep) (x : KeyedStep) (parts : es ≡ a ++ x ∷ b) (own : of_role p x.step ≡ true) where
    abbrev q : Step → Bool
    q s = s.role == p && mark s.id

    here : mark x.step.id ≡ x.marked
    here = marked_here es a b x sound.rising parts

    -- before an unmarked step of the role none of the role is marked
    pub earlier_marked : x.marked ≡ false → (t : Step) → IsIn t (steps a) → q t ≡ true → ⊥
    earlier_marked m t i e =
        let w = and_parts (t.role == p) (mark t.id) e in
        let r : IsRising (steps a ++ x.step ∷ steps b) = subst IsRising (ap steps parts ∙ steps_around a b x) sound.rising in
        grind (arith, rising_apart (steps a) (x.step ∷ steps b) t x.step r i (inl refl), eqb-true t.role p w.0, eqb-true x.step.role p own, steps_around a b x, IsIn-append_left t (steps a) (x.step ∷ steps b) i, here, in_middle es a b x parts)

    module _ (none : keys_of (of_role p) b ≡ []) where
      pub last_marked : x.marked ≡ true → last_key None (keys_of q es) ≡ Some x.key
      last_marked m =
          let rest : keys_of q b ≡ [] = keys_none q b (λ t i. and_left (t.role == p) (mark t.id) (none_passes (of_role p) b t none i)) in
          grind (arith, keys_around, and_from, here, last-append)

      pub none_marked : x.marked ≡ false → keys_of q es ≡ []
      none_marked m =
          keys_none q es
          (λ t i.
          false_from_ne_true (q t)
          (λ e.
          ⊎_elim (λ (j : IsIn t (steps a)). earlier_marked m t j e)
          (λ (k : (t ≡ x.step) ⊎ IsIn t (steps b)).
          ⊎_elim
          (λ (s : t ≡ x.step). both_ways x.marked m (sym here ∙ ap (λ (u : Step). mark u.id) (sym s) ∙ (and_parts (t.role == p) (mark t.id) e).1))
          (λ (j : IsIn t (steps b)). both_ways (t.role == p) (none_passes (of_role p) b t none j) (and_parts (t.role == p) (mark t.id) e).0)
          k)
          (where_in es a b x t parts i)))

  pub next_role : (newest : Option ℕ) (r : ℕ) → newest ≡ last_key None (keys_of (λ s. nat_lt s.role r && mark s.id) es) → later es newest (last_key None (keys_of (λ s. s.role == r && mark s.id) es)) ≡ last_key None (keys_of (λ s. nat_lt s.role (r + 1) && mark s.id) es)
  next_role newest r e =
      let f = λ (s : Step). nat_lt s.role r && mark s.id in
      let g = λ (s : Step). s.role == r && mark s.id in
      ap (λ o. later es o (last_key None (keys_of g es))) e
      ∙ sym (last_or es sound.distinct sound.rising f g [] es refl)
      ∙ ap (last_key None) (keys_agree (λ s. f s || g s) (λ s. nat_lt s.role (r + 1) && mark s.id) es
      (λ t i. sym (ap (λ k. k && mark t.id) (below_next t.role r) ∙ spread_left (nat_lt t.role r) (t.role == r) (mark t.id))))

  pub all_roles : last_key None (keys_of (λ s. nat_lt s.role 8 && mark s.id) es) ≡ last_key None (marked_keys es)
  all_roles =
      ap (last_key None)
      (keys_agree (λ s. nat_lt s.role 8 && mark s.id) (λ s. mark s.id) es (λ t i. ap (λ k. k && mark t.id) (lt-ltb t.role 8 (small_in es t sound.small i)))
      ∙ keys_marked es sound.rising)

  -- nothing depends on the newest
  pub newest_can_go : (k : ℕ) → last_key None (marked_keys es) ≡ Some k → CanGo es k
  newest_can_go k e =
      let p = λ (s : Step). mark s.id in
      let w = last_is p es k (ap (last_key None) (keys_marked es sound.rising) ∙ e) in
      let on = λ (t : Step). depends_on (steps es) t w.keyed.step in
      let alone : keys_of on w.behind ≡ [] =
      keys_none on w.behind
      (λ t i.
      grind (arith, steps_around w.before w.behind w.keyed, IsIn-append_right t (steps w.before) (w.keyed.step ∷ steps w.behind) (inr i), none_passes p w.behind t w.none i, in_middle es w.before w.behind w.keyed w.parts)) in
      subst (CanGo es) w.key (alone_can_go es sound w.before w.behind w.keyed w.parts (ap first_key alone))
