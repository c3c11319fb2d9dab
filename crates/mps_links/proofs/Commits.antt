-- The least marked commit: of each role a walk from its last step back meets the marked ones.
use Rattle.std.proofs.Common.{◌≡◌, ◌≤◌, ◌+◌, ℕ, Bool, true, false, List, [], ◌∷◌, ◌++◌, length, Option, Some, None, refl, sym, ap, ◌∙◌, subst, arith, ⊎_elim, ◌⊎◌, append_assoc, length-append}
use Rattle.std.specs.Prelude.{◌==◌, ◌&&◌, nat_lt, IsSome, IfSome, if◌then◌else◌}
use Rattle.std.specs.List.{filter}
use Rattle.std.specs.Option.{option_map, option_and_then}
use Rattle.std.proofs.lemmas.Bool.{cases_Bool, cond-true, cond-false, eqb-true, lt-ltb, and_from, and_left, and_right, and_parts, false_from_ne_true, both_ways}
use Rattle.mps_base.specs.declared.action.Step.{Step}
use Rattle.mps_history.specs.Steps.{IsIn, numbers}
use Rattle.mps_history.specs.Dependence.{least}
use Rattle.mps_history.specs.Commits.{is_commit}
use Rattle.mps_history.proofs.Order.{IsRising-filter}
use Rattle.mps_arena.specs.Keys.{first_key, last_key}
use Rattle.mps_arena.specs.KeyedSteps.{KeyedStep, steps, keys_of, of_role, keyed_at, AreSound}
use Rattle.mps_arena.specs.Neighbours.{id_in, prev_of_role_in}
use Rattle.mps_arena.proofs.Chains.{keys-append, keys_with, keys_without}
use Rattle.mps_links.specs.declared.order.NumberedKey.{NumberedKey}
use Rattle.mps_links.specs.Private.Numbered.{key_of, HasNumber}
use Rattle.mps_links.specs.Private.Order.{earlier}
use Rattle.mps_links.specs.Marks.{is_marked, AreMarksClosed, marked_commits}
use Rattle.mps_links.proofs.StepKeys.{keys_agree, keys_none, none_passes}
use Rattle.mps_links.proofs.Present.{if_some}
use Rattle.mps_links.proofs.Firsts.{first_is, first_or, keyed_in, id_first}
use Rattle.mps_links.proofs.Lasts.{IsLast, last_is, nothing_last}
use Rattle.mps_links.proofs.Least.{id_of, least_first, first_filter, find_filter}
use Rattle.mps_links.proofs.Links.{prev_is}
use Rattle.mps_links.proofs.Marked.{marked_here, steps_marked}
use Rattle.mps_links.proofs.Newest.{below_next, spread_left, small_in, where_in, earlier_marked}

-- a marked commit
abbrev pub is_final : List KeyedStep → Step → Bool
is_final es s = is_marked es s.id && is_commit s.act

module _ (es : List KeyedStep) (p : ℕ) where
  abbrev own_final : Step → Bool
  own_final s = s.role == p && is_final es s

  -- the role's steps were looked at from some place on, and the key is that of its last step before
  pub record IsSearch (at found : Option ℕ) (turns : ℕ) : Type 0 where
    pub front : List KeyedStep
    pub rest : List KeyedStep
    pub parts : es ≡ front ++ rest
    pub key : at ≡ last_key None (keys_of (of_role p) front)
    pub first : found ≡ first_key (keys_of own_final rest)
    pub count : turns ≤ length rest

  other_role : (b : List KeyedStep) → keys_of (of_role p) b ≡ [] → keys_of own_final b ≡ []
  other_role b none = keys_none own_final b (λ t i. and_left (t.role == p) (is_final es t) (none_passes (of_role p) b t none i))

  module _ (at found : Option ℕ) (turns : ℕ) (w : IsSearch at found turns) where
    ended : keys_of own_final w.front ≡ [] → found ≡ first_key (keys_of own_final es)
    ended e = w.first ∙ sym (ap first_key (ap (keys_of own_final) w.parts ∙ keys-append own_final w.front w.rest ∙ ap (λ l. l ++ keys_of own_final w.rest) e))

    pub ends_at_first : at ≡ None → found ≡ first_key (keys_of own_final es)
    ends_at_first e = ended (other_role w.front (nothing_last (keys_of (of_role p) w.front) (sym w.key ∙ e)))

    module _ (k : ℕ) (is : at ≡ Some k) (sound : AreSound es) where
      pub last : IsLast (of_role p) w.front k
      last = last_is (of_role p) w.front k (sym w.key ∙ is)

      abbrev x : KeyedStep
      x = last.keyed

      parts : es ≡ last.before ++ x ∷ (last.behind ++ w.rest)
      parts = w.parts ∙ ap (λ l. l ++ w.rest) last.parts ∙ append_assoc last.before (x ∷ last.behind) w.rest

      pub search_at : keyed_at k es ≡ Some x
      search_at = ap (λ j. keyed_at j es) (sym last.key) ∙ keyed_in es sound.distinct sound.rising last.before (last.behind ++ w.rest) x parts

      here : is_marked es x.step.id ≡ x.marked
      here = marked_here es last.before (last.behind ++ w.rest) x sound.rising parts

      pub ends_unmarked : AreMarksClosed es → x.marked ≡ false → found ≡ first_key (keys_of own_final es)
      ends_unmarked closed m =
          ended
          (keys_none own_final w.front
          (λ t i.
          false_from_ne_true (own_final t)
          (λ e.
          let role = and_parts (t.role == p) (is_final es t) e in
          let mark = (and_parts (is_marked es t.id) (is_commit t.act) role.1).0 in
          ⊎_elim
          (grind (arith, earlier_marked, parts, and_from))
          (λ (j : (t ≡ x.step) ⊎ IsIn t (steps last.behind)).
          ⊎_elim
          (λ (s : t ≡ x.step). both_ways x.marked m (sym here ∙ ap (λ (u : Step). is_marked es u.id) (sym s) ∙ mark))
          (λ (h : IsIn t (steps last.behind)). both_ways (t.role == p) (none_passes (of_role p) last.behind t last.none h) role.0)
          j)
          (where_in w.front last.before last.behind x t last.parts i))))

      first_here : x.marked ≡ true → (if is_commit x.step.act then Some k else found) ≡ first_key (keys_of own_final (x ∷ (last.behind ++ w.rest)))
      first_here m = grind (arith, keys-append, other_role, cond-true, keys_with, and_from, here, cond-false, keys_without, and_right, cases_Bool)

      pub search_goes : x.marked ≡ true → IsSearch (prev_of_role_in es k) (if is_commit x.step.act then Some k else found) (turns + 1)
      search_goes m = grind (arith, parts, prev_is, eqb-true, first_here, length-append)

module _ (es : List KeyedStep) (sound : AreSound es) where
  -- what is found is there
  pub first_there : (f : Step → Bool) (o : Option ℕ) → o ≡ first_key (keys_of f es) → IfSome o (λ key. IsSome (keyed_at key es))
  first_there f o e =
      if_some (λ key. IsSome (keyed_at key es)) o
      (λ k is.
      let w = first_is f es k (sym e ∙ is) in
      subst (λ (j : ℕ). IsSome (keyed_at j es)) w.key (subst (λ (q : Option KeyedStep). IsSome q) (sym (keyed_in es sound.distinct sound.rising w.before w.behind w.keyed w.parts)) cc))

  pub next_role : (first : Option ℕ) (r : ℕ) → first ≡ first_key (keys_of (λ s. nat_lt s.role r && is_final es s) es) → earlier es first (first_key (keys_of (λ s. s.role == r && is_final es s) es)) ≡ first_key (keys_of (λ s. nat_lt s.role (r + 1) && is_final es s) es)
  next_role first r e =
      let f = λ (s : Step). nat_lt s.role r && is_final es s in
      let g = λ (s : Step). s.role == r && is_final es s in
      ap (λ o. earlier es o (first_key (keys_of g es))) e
      ∙ sym (first_or es sound.distinct sound.rising f g [] es refl)
      ∙ ap first_key (grind (arith, keys_agree, below_next, spread_left))

  pub all_roles : first_key (keys_of (λ s. nat_lt s.role 8 && is_final es s) es) ≡ first_key (keys_of (is_final es) es)
  all_roles =
      ap first_key (keys_agree (λ s. nat_lt s.role 8 && is_final es s) (is_final es) es (λ t i. ap (λ k. k && is_final es t) (lt-ltb t.role 8 (small_in es t sound.small i))))

  -- the first marked commit has the least number
  pub least_is_first : least (marked_commits es) ≡ option_and_then (id_in es) (first_key (keys_of (is_final es) es))
  least_is_first =
      let p = λ (s : Step). is_commit s.act in
      let q = λ (s : Step). is_marked es s.id in
      ap (λ (h : List Step). least (numbers (filter p h))) (sym (steps_marked es sound.rising))
      ∙ least_first (filter p (filter q (steps es))) (IsRising-filter p (filter q (steps es)) (IsRising-filter q (steps es) sound.rising))
      ∙ ap id_of (first_filter p (filter q (steps es)) ∙ find_filter p q (steps es))
      ∙ sym (id_first es sound.distinct sound.rising (is_final es) [] es refl)

  ids : (o : Option NumberedKey) → HasNumber es o → option_map (λ n. n.id) o ≡ option_and_then (id_in es) (key_of o)
  ids o h = grind arith

  -- the first of the roles' first ones, with its number
  pub least_number : (first : Option NumberedKey) (r : ℕ) → r ≡ 8 → key_of first ≡ first_key (keys_of (λ s. nat_lt s.role r && is_final es s) es) → HasNumber es first → option_map (λ n. n.id) first ≡ least (marked_commits es)
  least_number first r end e h =
      ids first h
      ∙ ap (option_and_then (id_in es)) (e ∙ ap (λ (n : ℕ). first_key (keys_of (λ s. nat_lt s.role n && is_final es s) es)) end ∙ all_roles)
      ∙ sym least_is_first
