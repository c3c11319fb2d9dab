-- What the view is without a step on which no other depends.
use Rattle.std.proofs.Common.{◌≡◌, ◌≢◌, ℕ, false, List, [], ◌∷◌, ◌++◌, Option, Some, None, refl, sym, ap, ◌∙◌, subst, arith, ⊎_elim, inl, inr, append_assoc}
use mathlib.Core.Path.{ap₂}
use Rattle.std.specs.Prelude.{◌==◌, ◌||◌, nat_lt, unwrap_or}
use Rattle.std.specs.Option.{option_map, option_and_then}
use Rattle.std.proofs.lemmas.Bool.{cond-false, ne_eqb, le-ltb, and_left}
use Rattle.std.proofs.lemmas.List.{map-append}
use Rattle.mps_base.specs.Effects.{Effect, effect}
use Rattle.mps_base.specs.declared.action.Step.{Step}
use Rattle.mps_local.specs.Local.{LocalType}
use Rattle.mps_history.specs.Steps.{IsIn, IsRising, without}
use Rattle.mps_history.specs.Dependence.{depends_on, is_matched}
use Rattle.mps_history.proofs.Order.{rising_apart, IsIn-append, IsIn-append_left}
use Rattle.mps_machine.specs.View.{View, opening}
use Rattle.mps_machine.specs.Rule.{rule, replay}
use Rattle.mps_machine.specs.Machine.{view_of}
use Rattle.mps_machine.proofs.Stepping.{rule_parts, replay_parts, replay_front}
use Rattle.mps_machine.proofs.Lawful.{step_removed}
use Rattle.mps_arena.specs.KeyedSteps.{KeyedStep, steps, keys_of, of_role, keyed_at, AreSound}
use Rattle.mps_arena.specs.Matched.{matched_receipt}
use Rattle.mps_arena.specs.Neighbours.{next_of_role_in, receipt_in, matched_with, IsLastAndUnreceived, IsUnreceived}
use Rattle.mps_arena.proofs.Chains.{keyed_middle}
use Rattle.mps_arena.proofs.Histories.{steps_without}
use Rattle.mps_arena.proofs.Keeping.{others_are}
use Rattle.mps_arena.proofs.Matched.{sound_left}
use Rattle.mps_arena.proofs.Nodes.{role_ends}
use Rattle.mps_links.specs.Private.Order.{earlier}
use Rattle.mps_links.proofs.Links.{first_dependent}
use Rattle.mps_links.proofs.StepKeys.{eqb_turned, steps_around, in_middle, none_passes, nothing_first}
use Rattle.mps_session.proofs.PrefixDependence.{depends_in_prefix}

-- steps of other roles leave a role as it was
role_stays : (h : List Step) (v w : View) (p : ℕ) → replay v h ≡ Some w → ((t : Step) → IsIn t h → (t.role == p) ≡ false) → w.participant p ≡ v.participant p
role_stays [] v w p e others = let same : w ≡ v = cc in ap (λ (u : View). u.participant p) same
role_stays (t ∷ h) v w p e others =
    let parts = replay_parts v w t h e in
    let ruled = rule_parts v parts.0 t parts.1 in
    role_stays h parts.0 w p parts.2 (λ u i. others u (inr i))
    ∙ ap (λ (u : View). u.participant p) (sym ruled.2)
    ∙ cond-false (p == t.role) ruled.0 (v.participant p) (eqb_turned p t.role ∙ others t (inl refl))

module _ (a b : List KeyedStep) (x : KeyedStep) (sound : AreSound (a ++ x ∷ b)) (free : IsLastAndUnreceived (a ++ x ∷ b) x) where
  abbrev es : List KeyedStep
  es = a ++ x ∷ b

  abbrev s : Step
  s = x.step

  found : keyed_at x.key es ≡ Some x
  found = keyed_middle a b x sound.distinct

  -- no later step is of its role
  pub others_follow : (t : Step) → IsIn t (steps b) → (t.role == s.role) ≡ false
  others_follow t i = none_passes (of_role s.role) b t (role_ends a b x sound.distinct free.last) i

  none_received : (e : Effect) → IsUnreceived es x e → matched_receipt e (matched_with es x) ≡ None
  none_received e u = grind arith

  none_behind : keys_of (λ t. depends_on (steps es) t s) b ≡ []
  none_behind =
      let next : next_of_role_in es x.key ≡ None = ap (option_and_then (λ (e : KeyedStep). _)) found ∙ free.last in
      let receipt : receipt_in es x.key ≡ None = ap (option_and_then (λ (e : KeyedStep). matched_receipt (effect e.step.act) (matched_with es e))) found ∙ none_received (effect s.act) free.unreceived in
      nothing_first _ (first_dependent es sound a b x refl ∙ ap₂ (earlier es) next receipt)

  -- on a step that may go no step depends directly
  pub alone : (t : Step) → IsIn t (steps es) → depends_on (steps es) t s ≡ false
  alone t i =
      let whole = steps_around a b x in
      let r : IsRising (steps a ++ s ∷ steps b) = subst IsRising whole sound.rising in
      let early = λ (h : nat_lt s.id t.id ≡ false). and_left (nat_lt s.id t.id) (s.role == t.role || is_matched (steps es) s t) h in
      ⊎_elim
      (λ (j : IsIn t (steps a)). let less = rising_apart (steps a) (s ∷ steps b) t s r j (inl refl) in early (le-ltb s.id t.id (omega arith)))
      (λ j. ⊎_elim
      (λ (e : t ≡ s). let same : t.id ≡ s.id = ap (λ (y : Step). y.id) e in early (le-ltb s.id t.id (omega arith)))
      (λ (k : IsIn t (steps b)). none_passes (λ u. depends_on (steps es) u s) b t none_behind k)
      j)
      (IsIn-append t (steps a) (s ∷ steps b) (subst (λ (l : List Step). IsIn t l) whole i))

-- the views with the keyed step's step and without it
pub record IsAside (types : List LocalType) (a d : List KeyedStep) (x : KeyedStep) : Type 0 where
  pub full : View
  pub left : View
  pub replayed : replay (opening types) (steps (a ++ x ∷ d)) ≡ Some full
  pub without_it : replay (opening types) (steps (a ++ d)) ≡ Some left
  pub ruled : rule left x.step ≡ Some full
  pub own : left.participant x.step.role ≡ (view_of types (steps a)).participant x.step.role

module _ (types : List LocalType) (a d m : List KeyedStep) (x : KeyedStep) (v : View) (sound : AreSound (a ++ x ∷ (d ++ m))) (free : IsLastAndUnreceived (a ++ x ∷ (d ++ m)) x) (is : replay (opening types) (steps (a ++ x ∷ (d ++ m))) ≡ Some v) where
  abbrev front : List KeyedStep
  front = a ++ x ∷ d

  split : a ++ x ∷ (d ++ m) ≡ front ++ m
  split = sym (append_assoc a (x ∷ d) m)

  parted : steps (a ++ x ∷ (d ++ m)) ≡ steps front ++ steps m
  parted = ap steps split ∙ map-append (λ (e : KeyedStep). e.step) front m

  front_sound : AreSound front
  front_sound = sound_left front m (subst AreSound split sound)

  x_in : IsIn x.step (steps front)
  x_in = in_middle front a d x refl

  front_alone : (t : Step) → IsIn t (steps front) → depends_on (steps front) t x.step ≡ false
  front_alone t i =
      sym (depends_in_prefix (steps front) (steps m) t x.step (subst IsRising parted sound.rising) i x_in)
      ∙ ap (λ (h : List Step). depends_on h t x.step) (sym parted)
      ∙ alone a (d ++ m) x sound free t (subst (λ (h : List Step). IsIn t h) (sym parted) (IsIn-append_left t (steps front) (steps m) i))

  left_steps : without (steps front) (λ n. n == x.step.id) ≡ steps (a ++ d)
  left_steps =
      sym (steps_without front x.key x.step front_sound.distinct front_sound.rising (ap (option_map (λ (e : KeyedStep). e.step)) (keyed_middle a d x front_sound.distinct)))
      ∙ ap steps (others_are x.key a d x front_sound.distinct refl)

  -- the steps up to there, and without the keyed step's
  pub aside : IsAside types a d x
  aside =
      let whole = replay_front (opening types) v (steps front) (steps m) (subst (λ (h : List Step). replay (opening types) h ≡ Some v) parted is) in
      let out = step_removed types (steps front) x.step whole.0 front_sound.rising x_in front_alone whole.1 in
      grind (arith, left_steps, replay_front, map-append, role_stays, others_follow, IsIn-append_left)

module _ (types : List LocalType) (a d : List KeyedStep) (x : KeyedStep) (w : IsAside types a d x) where
  -- the other roles are where they were
  pub others_stay : (p : ℕ) → p ≢ x.step.role → w.left.participant p ≡ w.full.participant p
  others_stay p ne = grind (arith, rule_parts, cond-false, ne_eqb)

  pub full_view : view_of types (steps (a ++ x ∷ d)) ≡ w.full
  full_view = ap (λ (o : Option View). unwrap_or o (opening types)) w.replayed
