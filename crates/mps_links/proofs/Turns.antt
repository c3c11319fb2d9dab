-- A turn of the walk by which steps are marked: one step more.
use Rattle.std.proofs.Common.{◌≡◌, ◌<◌, ◌≤◌, ◌+◌, ℕ, Bool, true, false, List, ◌∷◌, ◌++◌, length, map, cond, Option, Some, None, refl, sym, ap, ◌∙◌, subst, arith, ⊎_elim, ◌⊎◌, inl, inr, eq-eqb, append_assoc}
use mathlib.Core.Path.{ap₂}
use Rattle.std.specs.Prelude.{◌==◌, ◌||◌, nat_lt, slice_index_or, slice_set}
use Rattle.std.specs.Option.{option_and_then, option_map, unwrap_or}
use Rattle.std.proofs.lemmas.Bool.{cases_Bool, cond-true, cond-false, eqb-true, eqb-false, and_parts, and_from, or_cases, or_left, or_right, lt-ltb, ltb-true, ltb-false, ne_eqb, both_ways, false≢true}
use Rattle.std.proofs.lemmas.List.{get_or-set_same, get_or-set_other, length-set}
use Rattle.mps_base.specs.Effects.{Effect, Gives, Takes, Idle, effect}
use Rattle.mps_base.specs.declared.action.Step.{Step}
use Rattle.mps_history.specs.Steps.{IsIn, IsRising, within, gives_to}
use Rattle.mps_history.specs.Dependence.{with, is_matched, consequences}
use Rattle.mps_history.proofs.Order.{rising_apart, same_step}
use Rattle.mps_history.proofs.Reaching.{consequences_closed}
use Rattle.mps_arena.specs.Keys.{first_key}
use Rattle.mps_arena.specs.KeyedSteps.{KeyedStep, steps, keys_of, of_role, keyed_at, with_mark, AreSound}
use Rattle.mps_arena.specs.Neighbours.{next_of_role_in, receipt_in, id_in}
use Rattle.mps_arena.proofs.Chains.{keyed_key}
use Rattle.mps_arena.proofs.Numbers.{find_split}
use Rattle.mps_links.specs.Marks.{marked_by}
use Rattle.mps_links.specs.Private.Order.{earlier, is_before}
use Rattle.mps_links.specs.Private.Pending.{mark_at, unless_marked, with_receipt, IsUnmarkedFirst}
use Rattle.mps_links.proofs.StepKeys.{cases_key, none_passes, nothing_first, in_middle, steps_around}
use Rattle.mps_links.proofs.Firsts.{first_is, keyed_in, rising_behind}
use Rattle.mps_links.proofs.Newest.{where_in}
use Rattle.mps_links.proofs.Present.{small_at}
use Rattle.mps_links.proofs.Links.{next_is}
use Rattle.mps_links.proofs.Receipts.{receipt_is}
use Rattle.mps_links.proofs.MarkedLinks.{keyed_kept, next_kept, receipt_kept, mark_is, with_receipt_kept, mark_set}
use Rattle.mps_links.proofs.Counting.{count_more}
use Rattle.mps_links.proofs.Spreading.{IsAhead, IsCovered, IsReached, IsRoot, IsSpread}

-- a step that stands behind another and passes, with the first there that does
record IsBehind (es : List KeyedStep) (p : Step → Bool) (y t : Step) : Type 0 where
  pub keyed : KeyedStep
  pub found : keyed_at keyed.key es ≡ Some keyed
  pub there : IsIn keyed.step (steps es)
  pub passes : p keyed.step ≡ true
  pub after : y.id < keyed.step.id
  pub upto : keyed.step.id ≤ t.id

module _ (es : List KeyedStep) (sound : AreSound es) where
  abbrev h : List Step
  h = steps es

  module _ (a b : List KeyedStep) (y : KeyedStep) (parts : es ≡ a ++ y ∷ b) where
    y_in : IsIn y.step h
    y_in = in_middle es a b y parts

    -- a later step stands behind
    behind : (t : Step) → IsIn t h → y.step.id < t.id → IsIn t (steps b)
    behind t i less =
        let r : IsRising (steps a ++ y.step ∷ steps b) = subst IsRising (ap steps parts ∙ steps_around a b y) sound.rising in
        ⊎_elim (λ (j : IsIn t (steps a)). let more = rising_apart (steps a) (y.step ∷ steps b) t y.step r j (inl refl) in absurd (omega arith))
        (λ (k : (t ≡ y.step) ⊎ IsIn t (steps b)).
        ⊎_elim (λ (s : t ≡ y.step). let same = ap (λ (u : Step). u.id) s in absurd (omega arith)) (λ (j : IsIn t (steps b)). j) k)
        (where_in es a b y t parts i)

    first_found : (p : Step → Bool) (k : ℕ) (t : Step) → first_key (keys_of p b) ≡ Some k → IsIn t (steps b) → p t ≡ true → (z : IsBehind es p y.step t) × (z.keyed.key ≡ k)
    first_found p k t is i passes =
        let f = first_is p b k is in
        let z = f.keyed in
        let z_parts : es ≡ (a ++ y ∷ f.before) ++ z ∷ f.behind = parts ∙ ap (λ l. a ++ y ∷ l) f.parts ∙ sym (append_assoc a (y ∷ f.before) (z ∷ f.behind)) in
        let not_after : z.step.id ≤ t.id =
        ⊎_elim (λ (j : IsIn t (steps f.before)). absurd (both_ways (p t) (none_passes p f.before t f.none j) passes))
        (λ (k : (t ≡ z.step) ⊎ IsIn t (steps f.behind)).
        ⊎_elim (λ (s : t ≡ z.step). let same = ap (λ (u : Step). u.id) s in omega arith)
        (λ (j : IsIn t (steps f.behind)). let more = rising_behind es sound.distinct sound.rising (a ++ y ∷ f.before) f.behind z t z_parts j in omega arith)
        k)
        (where_in b f.before f.behind z t f.parts i) in (
          record {
            keyed = z;
            found = keyed_in es sound.distinct sound.rising (a ++ y ∷ f.before) f.behind z z_parts;
            there = in_middle es (a ++ y ∷ f.before) f.behind z z_parts;
            passes = f.passes;
            after = rising_behind es sound.distinct sound.rising a b y z.step parts (in_middle b f.before f.behind z f.parts);
            upto = not_after;
          },
          f.key,
        )

    -- of the later steps that pass the first, where one passes
    first_behind : (p : Step → Bool) (t : Step) → IsIn t h → y.step.id < t.id → p t ≡ true → (z : IsBehind es p y.step t) × (first_key (keys_of p b) ≡ Some z.keyed.key)
    first_behind p t i less passes =
        let j = behind t i less in
        ⊎_elim
        (λ (none : first_key (keys_of p b) ≡ None). absurd (both_ways (p t) (none_passes p b t (nothing_first (keys_of p b) none) j) passes))
        (λ (w : (k : ℕ) × (first_key (keys_of p b) ≡ Some k)). let f = first_found p w.0 t w.1 j passes in (f.0, w.1 ∙ ap Some (sym f.1)))
        (cases_key (first_key (keys_of p b)))

    -- a receipt of the step is of one role
    one_role : (t z : Step) → is_matched h y.step t ≡ true → is_matched h y.step z ≡ true → t.role ≡ z.role
    one_role t z e g = receiver (effect y.step.act) (goes t e) (goes z g)
      where
        goes : (u : Step) → is_matched h y.step u ≡ true → gives_to u.role (effect y.step.act) ≡ true
        goes u e = grind (arith, and_parts)

        receiver : (c : Effect) → gives_to t.role c ≡ true → gives_to z.role c ≡ true → t.role ≡ z.role
        receiver (Gives q m) e g = sym (eqb-true q t.role e) ∙ eqb-true q z.role g
        receiver (Takes from slot) e g = absurd (false≢true e)
        receiver Idle e g = absurd (false≢true e)

    module _ (n : ℕ) (now : List KeyedStep) (walk : Option ℕ) (firsts : List (Option ℕ)) (count : ℕ) (w : IsSpread es now n walk firsts count)
        (found : keyed_at y.key es ≡ Some y) (reached : consequences h n y.step.id ≡ true) (fresh : w.set y.step.id ≡ false) (from : (walk ≡ Some y.key) ⊎ (walk ≡ None)) where
      abbrev more : ℕ → Bool
      more = with w.set y.step.id

      abbrev goes_on : Option ℕ
      goes_on = unless_marked now (next_of_role_in now y.key)

      kept : (m : ℕ) → w.set m ≡ true → more m ≡ true
      kept m e = or_right (m == y.step.id) (w.set m) e

      self : more y.step.id ≡ true
      self = or_left (y.step.id == y.step.id) (w.set y.step.id) (eq-eqb y.step.id y.step.id refl)

      -- where the walk stood at a step, that is y
      stood : (x : KeyedStep) → walk ≡ Some x.key → keyed_at x.key es ≡ Some x → x ≡ y
      stood x at x_found =
          ⊎_elim
          (λ (e : walk ≡ Some y.key).
          let keys : Some x.key ≡ Some y.key = sym at ∙ e in
          let same : x.key ≡ y.key = cc in
          let both : Some x ≡ Some y = sym x_found ∙ ap (λ k. keyed_at k es) same ∙ found in
          let one : x ≡ y = cc in
          one)
          (λ (e : walk ≡ None). let no : Some x.key ≡ None = sym at ∙ e in absurd cc)
          from

      -- the walk goes on to the next step of the role unless that is marked
      goes_to : (z : KeyedStep) → next_of_role_in es y.key ≡ Some z.key → keyed_at z.key es ≡ Some z → w.set z.step.id ≡ false → goes_on ≡ Some z.key
      goes_to z next z_found off =
          let at : next_of_role_in now y.key ≡ Some z.key = ap (λ l. next_of_role_in l y.key) w.marks ∙ next_kept w.set es y.key ∙ next in
          let marked : keyed_at z.key now ≡ Some (marked_by w.set z) = ap (keyed_at z.key) w.marks ∙ keyed_kept w.set z.key es ∙ ap (option_map (marked_by w.set)) z_found in
          ap (unless_marked now) at
          ∙ ap (option_and_then (λ (e : KeyedStep). cond e.marked None (Some z.key))) marked
          ∙ cond-false (w.set z.step.id) None (Some z.key) off

      -- the role's steps after y
      chained_y : (t : Step) → IsIn t h → y.step.id < t.id → y.step.role ≡ t.role → (w.set t.id ≡ true) ⊎ IsAhead es goes_on y.step t
      chained_y t i less role =
          let f = first_behind (of_role y.step.role) t i less (ap (λ r. r == y.step.role) (sym role) ∙ eq-eqb y.step.role y.step.role refl) in
          let z = f.0.keyed in
          let z_role : z.step.role ≡ y.step.role = eqb-true z.step.role y.step.role f.0.passes in
          ⊎_elim
          (λ (on : w.set z.step.id ≡ true).
          ⊎_elim
          (λ (e : (z.step.id == t.id) ≡ true). inl (ap w.set (sym (eqb-true z.step.id t.id e)) ∙ on))
          (λ (e : (z.step.id == t.id) ≡ false).
          let apart = eqb-false z.step.id t.id e in
          ⊎_elim (λ (yes : w.set t.id ≡ true). inl yes)
          (λ (q : IsAhead es walk z.step t). let same = ap (λ (x : KeyedStep). x.step.id) (stood q.keyed q.at q.found) in absurd (omega (arith, f.0.after, q.after, same)))
          (w.chained z.step t f.0.there i on (omega (arith, f.0.upto, apart)) (z_role ∙ role)))
          (cases_Bool (z.step.id == t.id)))
          (λ (off : w.set z.step.id ≡ false).
          inr (record { keyed = z; at = goes_to z (next_is es sound a b y parts ∙ f.1) f.0.found off; found = f.0.found; role = z_role ∙ role; after = f.0.after; upto = f.0.upto }))
          (cases_Bool (w.set z.step.id))

      chained_more : (u t : Step) → IsIn u h → IsIn t h → more u.id ≡ true → u.id < t.id → u.role ≡ t.role → (more t.id ≡ true) ⊎ IsAhead es goes_on u t
      chained_more u t i j on less role =
          ⊎_elim
          (λ (e : (u.id == y.step.id) ≡ true).
          let same = same_step h u y.step sound.rising i y_in (eqb-true u.id y.step.id e) in
          subst (λ (v : Step). (more t.id ≡ true) ⊎ IsAhead es goes_on v t) (sym same)
          (⊎_elim (λ (yes : w.set t.id ≡ true). inl (kept t.id yes)) (λ (q : IsAhead es goes_on y.step t). inr q)
          (chained_y t j (subst (λ (v : Step). v.id < t.id) same less) (ap (λ (v : Step). v.role) (sym same) ∙ role))))
          (λ (on_before : w.set u.id ≡ true).
          ⊎_elim (λ (yes : w.set t.id ≡ true). inl (kept t.id yes))
          (λ (q : IsAhead es walk u t).
          let same = stood q.keyed q.at q.found in
          let id : q.keyed.step.id ≡ y.step.id = ap (λ (x : KeyedStep). x.step.id) same in
          ⊎_elim
          (λ (e : (t.id == y.step.id) ≡ true). inl (or_left (t.id == y.step.id) (w.set t.id) e))
          (λ (e : (t.id == y.step.id) ≡ false).
          let apart = eqb-false t.id y.step.id e in
          ⊎_elim (λ (yes : w.set t.id ≡ true). inl (kept t.id yes))
          (λ (z : IsAhead es goes_on y.step t).
          inr (record { keyed = z.keyed; at = z.at; found = z.found; role = z.role; after = omega (arith, q.after, z.after, id); upto = z.upto }))
          (chained_y t j (omega (arith, q.upto, apart, id)) (ap (λ (x : KeyedStep). x.step.role) (sym same) ∙ q.role)))
          (cases_Bool (t.id == y.step.id)))
          (w.chained u t i j on_before less role))
          (or_cases (u.id == y.step.id) (w.set u.id) on)

      -- what depends directly on y is a consequence too
      reaches : (z : Step) → IsIn z h → y.step.id < z.id → (y.step.role == z.role || is_matched h y.step z) ≡ true → consequences h n z.id ≡ true
      reaches z i less on =
          consequences_closed h n sound.rising z y.step i y_in reached (and_from (nat_lt y.step.id z.id) (y.step.role == z.role || is_matched h y.step z) (lt-ltb y.step.id z.id less) on)

      -- a walk that goes on stands at an unmarked step of the role
      walking_more : (k : ℕ) → goes_on ≡ Some k → (r : IsReached es n k) × (more r.keyed.step.id ≡ false)
      walking_more k is = by_next (next_of_role_in es y.key) refl
        where
          at : (o : Option ℕ) → next_of_role_in es y.key ≡ o → unless_marked now o ≡ Some k
          at o e = sym (ap (unless_marked now) (ap (λ l. next_of_role_in l y.key) w.marks ∙ next_kept w.set es y.key ∙ e)) ∙ is

          by_next : (o : Option ℕ) → next_of_role_in es y.key ≡ o → (r : IsReached es n k) × (more r.keyed.step.id ≡ false)
          by_next None e = let none : None ≡ Some k = at None e in absurd cc
          by_next (Some j) e =
              let f = first_is (of_role y.step.role) b j (sym (next_is es sound a b y parts) ∙ e) in
              let t = f.keyed.step in
              let i = in_middle b f.before f.behind f.keyed f.parts in
              let z = first_found (of_role y.step.role) j t (sym (next_is es sound a b y parts) ∙ e) i f.passes in
              let x = z.0.keyed in
              let there : keyed_at j es ≡ Some x = ap (λ k. keyed_at k es) (sym z.1) ∙ z.0.found in
              let marked : keyed_at j now ≡ Some (marked_by w.set x) = ap (keyed_at j) w.marks ∙ keyed_kept w.set j es ∙ ap (option_map (marked_by w.set)) there in
              let value : cond (w.set x.step.id) None (Some j) ≡ Some k = sym (ap (option_and_then (λ (e : KeyedStep). cond e.marked None (Some j))) marked) ∙ at (Some j) e in
              let z_role : x.step.role ≡ y.step.role = eqb-true x.step.role y.step.role z.0.passes in
              ⊎_elim (λ (on : w.set x.step.id ≡ true). let none : None ≡ Some k = sym (cond-true (w.set x.step.id) None (Some j) on) ∙ value in absurd cc)
              (λ (off : w.set x.step.id ≡ false).
              let one : Some j ≡ Some k = sym (cond-false (w.set x.step.id) None (Some j) off) ∙ value in
              let same : j ≡ k = cc in (
                record {
                  keyed = x;
                  found = ap (λ k. keyed_at k es) (sym same) ∙ there;
                  reached = reaches x.step z.0.there z.0.after (or_left (y.step.role == x.step.role) (is_matched h y.step x.step) (eq-eqb y.step.role x.step.role (sym z_role)));
                },
                ap (λ b. b || w.set x.step.id) (ne_eqb x.step.id y.step.id (λ e. omega (arith, z.0.after, e))) ∙ off,
              ))
              (cases_Bool (w.set x.step.id))

      inside_more : (t : Step) → IsIn t h → more t.id ≡ true → consequences h n t.id ≡ true
      inside_more t i on =
          ⊎_elim (λ (e : (t.id == y.step.id) ≡ true). ap (consequences h n) (eqb-true t.id y.step.id e) ∙ reached) (w.inside t i)
          (or_cases (t.id == y.step.id) (w.set t.id) on)

      root_more : more n ≡ true
      root_more =
          ⊎_elim (kept n)
          (λ (q : IsRoot es walk n).
          let id : n ≡ y.step.id = sym q.number ∙ ap (λ (x : KeyedStep). x.step.id) (stood q.keyed q.at q.found) in
          or_left (n == y.step.id) (w.set n) (eq-eqb n y.step.id id))
          w.root

      abbrev firsts_more : List (Option ℕ)
      firsts_more = with_receipt es (receipt_in es y.key) firsts

      -- the receipt of y is one more of its role
      module _ (k : ℕ) (is : receipt_in es y.key ≡ Some k) where
        abbrev got : Step → Bool
        got = is_matched h y.step

        first : first_key (keys_of got b) ≡ Some k
        first = sym (receipt_is es sound a b y parts) ∙ is

        receipt : (x : KeyedStep) × (keyed_at k es ≡ Some x) × (x.key ≡ k) × IsIn x.step h × (got x.step ≡ true) × (y.step.id < x.step.id)
        receipt =
            let f = first_is got b k first in
            let z = first_found got k f.keyed.step first (in_middle b f.before f.behind f.keyed f.parts) f.passes in
            (z.0.keyed, ap (λ j. keyed_at j es) (sym z.1) ∙ z.0.found, z.1, z.0.there, z.0.passes, z.0.after)

        abbrev x : KeyedStep
        x = receipt.0

        abbrev found_x : keyed_at k es ≡ Some x
        found_x = receipt.1

        abbrev key_x : x.key ≡ k
        key_x = receipt.2

        itself : keyed_at x.key es ≡ Some x
        itself = ap (λ j. keyed_at j es) key_x ∙ found_x

        abbrev p : ℕ
        p = x.step.role

        abbrev value : Option ℕ
        value = earlier es (slice_index_or firsts p None) (Some k)

        firsts_are : firsts_more ≡ slice_set firsts p value
        firsts_are =
            ap (λ o. with_receipt es o firsts) is
            ∙ ap (λ (o : Option KeyedStep). unwrap_or (option_map (λ e. slice_set firsts e.step.role (earlier es (slice_index_or firsts e.step.role None) (Some k))) o) firsts) found_x

        small : p < length firsts
        small = let less = small_at k es x sound.small found_x in omega (arith, less, w.size)

        at_p : slice_index_or firsts_more p None ≡ value
        at_p = ap (λ l. slice_index_or l p None) firsts_are ∙ get_or-set_same firsts p value None small

        elsewhere : (r : ℕ) → (r == p) ≡ false → slice_index_or firsts_more r None ≡ slice_index_or firsts r None
        elsewhere r e = ap (λ l. slice_index_or l r None) firsts_are ∙ get_or-set_other firsts p r value None (eqb-false r p e)

        -- either the receipt comes first, or what was first before stays so
        abbrev Before : Type 0
        Before = (value ≡ Some k) × ((t : Step) → t.role ≡ p → IsCovered es firsts t → x.step.id ≤ t.id)

        abbrev After : Type 0
        After = (value ≡ slice_index_or firsts p None) × ((e : KeyedStep) × (slice_index_or firsts p None ≡ Some e.key) × (keyed_at e.key es ≡ Some e) × (e.step.role ≡ p) × (e.step.id ≤ x.step.id))

        which : Before ⊎ After
        which = by_old (slice_index_or firsts p None) refl
          where
            by_old : (o : Option ℕ) → slice_index_or firsts p None ≡ o → Before ⊎ After
            by_old None e =
                inl (
                  ap (λ o. earlier es o (Some k)) e,
                  λ t role q. let none : None ≡ Some q.keyed.key = sym e ∙ ap (λ r. slice_index_or firsts r None) (sym role) ∙ q.at in absurd cc,
                )
            by_old (Some j) e =
                let r = w.waiting p j e in
                let o = r.0.keyed in
                let key : o.key ≡ j = keyed_key j es o r.0.found in
                let o_found : keyed_at o.key es ≡ Some o = ap (λ i. keyed_at i es) key ∙ r.0.found in
                let first_id : id_in es j ≡ Some o.step.id = ap (option_map (λ (z : KeyedStep). z.step.id)) r.0.found in
                let second_id : id_in es k ≡ Some x.step.id = ap (option_map (λ (z : KeyedStep). z.step.id)) found_x in
                let chosen : value ≡ cond (nat_lt o.step.id x.step.id) (Some j) (Some k) =
                ap (λ o. earlier es o (Some k)) e ∙ ap₂ (λ (m i : Option ℕ). cond (is_before m i) (Some j) (Some k)) first_id second_id in
                ⊎_elim
                (λ (t : nat_lt o.step.id x.step.id ≡ true).
                let less = ltb-true o.step.id x.step.id t in
                inr (chosen ∙ cond-true (nat_lt o.step.id x.step.id) (Some j) (Some k) t ∙ sym e, (o, e ∙ ap Some (sym key), o_found, r.1, omega (arith, less))))
                (λ (f : nat_lt o.step.id x.step.id ≡ false).
                let more = ltb-false o.step.id x.step.id f in
                inl (
                  chosen ∙ cond-false (nat_lt o.step.id x.step.id) (Some j) (Some k) f,
                  λ t role q.
                      let keys : Some q.keyed.key ≡ Some j = sym q.at ∙ ap (λ r. slice_index_or firsts r None) role ∙ e in
                      let same_key : q.keyed.key ≡ j = cc in
                      let both : Some q.keyed ≡ Some o = sym q.found ∙ ap (λ i. keyed_at i es) same_key ∙ r.0.found in
                      let one : q.keyed ≡ o = cc in
                      omega (arith, more, q.upto, ap (λ (z : KeyedStep). z.step.id) one),
                ))
                (cases_Bool (nat_lt o.step.id x.step.id))

        -- who was covered still is
        covered_still : (t : Step) → IsCovered es firsts t → IsCovered es firsts_more t
        covered_still t q =
            ⊎_elim
            (λ (e : (t.role == p) ≡ true).
            let role = eqb-true t.role p e in
            let at : slice_index_or firsts_more t.role None ≡ value = ap (λ r. slice_index_or firsts_more r None) role ∙ at_p in
            ⊎_elim
            (λ (b : Before). record { keyed = x; at = at ∙ b.0 ∙ ap Some (sym key_x); found = itself; role = sym role; upto = b.1 t role q })
            (λ (l : After). record { keyed = q.keyed; at = at ∙ l.0 ∙ ap (λ r. slice_index_or firsts r None) (sym role) ∙ q.at; found = q.found; role = q.role; upto = q.upto })
            which)
            (λ (e : (t.role == p) ≡ false). record { keyed = q.keyed; at = elsewhere t.role e ∙ q.at; found = q.found; role = q.role; upto = q.upto })
            (cases_Bool (t.role == p))

        -- the receipt is covered
        covered_receipt : (t : Step) → IsIn t h → y.step.id < t.id → got t ≡ true → IsCovered es firsts_more t
        covered_receipt t i less passes =
            let z = first_found got k t first (behind t i less) passes in
            let both : Some z.0.keyed ≡ Some x = sym z.0.found ∙ ap (λ j. keyed_at j es) z.1 ∙ found_x in
            let one : z.0.keyed ≡ x = cc in
            let upto : x.step.id ≤ t.id = omega (arith, z.0.upto, ap (λ (v : KeyedStep). v.step.id) one) in
            let role : t.role ≡ p = one_role t x.step passes receipt.4 in
            let at : slice_index_or firsts_more t.role None ≡ value = ap (λ r. slice_index_or firsts_more r None) role ∙ at_p in
            ⊎_elim
            (λ (b : Before). record { keyed = x; at = at ∙ b.0 ∙ ap Some (sym key_x); found = itself; role = sym role; upto = upto })
            (λ (l : After). record { keyed = l.1.0; at = at ∙ l.0 ∙ l.1.1; found = l.1.2; role = l.1.3 ∙ sym role; upto = omega (arith, l.1.4, upto) })
            which

        waiting_also : (r j : ℕ) → slice_index_or firsts_more r None ≡ Some j → (q : IsReached es n j) × (q.keyed.step.role ≡ r)
        waiting_also r j at =
            ⊎_elim
            (λ (e : (r == p) ≡ true).
            let role = eqb-true r p e in
            let is_value : value ≡ Some j = sym at_p ∙ ap (λ r. slice_index_or firsts_more r None) (sym role) ∙ at in
            ⊎_elim
            (λ (b : Before).
            let one : Some k ≡ Some j = sym b.0 ∙ is_value in
            let same : k ≡ j = cc in (
              record { keyed = x; found = ap (λ i. keyed_at i es) (sym same) ∙ found_x; reached = reaches x.step receipt.3 receipt.5 (or_right (y.step.role == x.step.role) (got x.step) receipt.4) },
              sym role,
            ))
            (λ (l : After). let q = w.waiting p j (sym l.0 ∙ is_value) in (q.0, q.1 ∙ sym role))
            which)
            (λ (e : (r == p) ≡ false). w.waiting r j (sym (elsewhere r e) ∙ at))
            (cases_Bool (r == p))

      -- the first receipts, of y too
      record AreRenewed (renewed : List (Option ℕ)) : Type 0 where
        size : length renewed ≡ 8
        waiting : (r j : ℕ) → slice_index_or renewed r None ≡ Some j → (q : IsReached es n j) × (q.keyed.step.role ≡ r)
        still : (t : Step) → IsCovered es firsts t → IsCovered es renewed t
        receipt : (t : Step) → IsIn t h → y.step.id < t.id → is_matched h y.step t ≡ true → IsCovered es renewed t

      renewed : AreRenewed firsts_more
      renewed = by_receipt (receipt_in es y.key) refl
        where
          by_receipt : (o : Option ℕ) → receipt_in es y.key ≡ o → AreRenewed firsts_more
          by_receipt None e =
              subst AreRenewed (sym (ap (λ o. with_receipt es o firsts) e))
              (record {
                size = w.size;
                waiting = w.waiting;
                still = λ t q. q;
                receipt = λ t i less passes.
                    let none = nothing_first (keys_of (is_matched h y.step) b) (sym (receipt_is es sound a b y parts) ∙ e) in
                    absurd (both_ways (is_matched h y.step t) (none_passes (is_matched h y.step) b t none (behind t i less)) passes);
              })
          by_receipt (Some k) e =
              record {
                size = ap length (firsts_are k e) ∙ length-set firsts (p k e) (value k e) ∙ w.size;
                waiting = waiting_also k e;
                still = covered_still k e;
                receipt = covered_receipt k e;
              }

      matched_more : (u t : Step) → IsIn u h → IsIn t h → more u.id ≡ true → u.id < t.id → is_matched h u t ≡ true → IsCovered es firsts_more t
      matched_more u t i j on less passes =
          ⊎_elim
          (λ (e : (u.id == y.step.id) ≡ true).
          let same = same_step h u y.step sound.rising i y_in (eqb-true u.id y.step.id e) in
          renewed.receipt t j (subst (λ (v : Step). v.id < t.id) same less) (ap (λ (v : Step). is_matched h v t) (sym same) ∙ passes))
          (λ (before : w.set u.id ≡ true). renewed.still t (w.matched u t i j before less passes))
          (or_cases (u.id == y.step.id) (w.set u.id) on)

      turn : IsSpread es (map (with_mark y.key true) now) n goes_on (with_receipt now (receipt_in now y.key) firsts) (count + 1)
      turn =
          let receipts : with_receipt now (receipt_in now y.key) firsts ≡ firsts_more =
          ap (λ l. with_receipt l (receipt_in l y.key) firsts) w.marks
          ∙ with_receipt_kept w.set es (receipt_in (map (marked_by w.set) es) y.key) firsts
          ∙ ap (λ o. with_receipt es o firsts) (receipt_kept w.set es y.key) in
          let whole : h ≡ steps a ++ y.step ∷ steps b = ap steps parts ∙ steps_around a b y in
          let one = count_more w.set (steps a) (steps b) y.step (subst IsRising whole sound.rising) fresh in
          subst (λ (l : List (Option ℕ)). IsSpread es (map (with_mark y.key true) now) n goes_on l (count + 1)) (sym receipts)
          (record {
            set = more;
            marks = ap (map (with_mark y.key true)) w.marks ∙ mark_set w.set es a b y sound parts;
            counted = omega (arith, one, w.counted, ap length (ap (λ l. within l more) whole), ap length (ap (λ l. within l w.set) whole));
            size = renewed.size;
            root = inl root_more;
            inside = inside_more;
            walking = walking_more;
            waiting = renewed.waiting;
            chained = chained_more;
            matched = matched_more;
          })

-- a turn at the key that comes next: that of the walk, or an unmarked first receipt
pub turns : (es : List KeyedStep) → AreSound es → (now : List KeyedStep) (n : ℕ) (walk : Option ℕ) (firsts : List (Option ℕ)) (count : ℕ) → IsSpread es now n walk firsts count
    → (k : ℕ) → (walk ≡ Some k) ⊎ ((walk ≡ None) × IsUnmarkedFirst now firsts k)
    → IsSpread es (map (with_mark k true) now) n (unless_marked now (next_of_role_in now k)) (with_receipt now (receipt_in now k) firsts) (count + 1)
turns es sound now n walk firsts count w k comes =
    let y = key.0.keyed in
    let at : y.key ≡ k = keyed_key k es y key.0.found in
    let s = (find_split (λ e. e.key == k) es y key.0.found).1 in
    let from : (walk ≡ Some y.key) ⊎ (walk ≡ None) = ⊎_elim (λ (e : walk ≡ Some k). inl (e ∙ ap Some (sym at))) (λ (u : (walk ≡ None) × IsUnmarkedFirst now firsts k). inr u.0) comes in
    subst (λ (j : ℕ). IsSpread es (map (with_mark j true) now) n (unless_marked now (next_of_role_in now j)) (with_receipt now (receipt_in now j) firsts) (count + 1)) at
    (turn es sound s.0 s.1 y s.2 n now walk firsts count w (ap (λ j. keyed_at j es) at ∙ key.0.found) key.0.reached key.1 from)
  where
    key : (r : IsReached es n k) × (w.set r.keyed.step.id ≡ false)
    key =
        ⊎_elim (w.walking k)
        (λ (u : (walk ≡ None) × IsUnmarkedFirst now firsts k).
        let r = (w.waiting u.1.role k u.1.first).0 in
        let off : Some (w.set r.keyed.step.id) ≡ Some false = sym (mark_is w.set es k r.keyed r.found) ∙ ap (λ l. mark_at l k) (sym w.marks) ∙ u.1.mark in
        let fresh : w.set r.keyed.step.id ≡ false = cc in
        (r, fresh))
        comes
