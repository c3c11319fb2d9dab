-- The front of a queue, as sends and receipts come and go.
use Rattle.std.proofs.Common.{◌≡◌, ℕ, zero, suc, ◌+◌, ◌*◌, ◌<◌, ◌≤◌, ◌⊎◌, Bool, true, false, List, [], ◌∷◌, ◌++◌, length, drop, not, Option, Some, None, refl, sym, ap, ◌∙◌, subst, arith, ⊎_elim, inl, inr, eq-eqb, append-nil, length-append}
use mathlib.Core.Path.{ap₂}
use Rattle.std.specs.Prelude.{◌==◌, ◌&&◌, if◌then◌else◌, is_none, slice_get, slice_index_or, slice_set}
use Rattle.std.specs.List.{filter}
use Rattle.std.proofs.lemmas.Bool.{cases_Bool, cond-false, eqb-true, and_parts, and_from, and_right, or_left, false_from_ne_true, both_ways}
use Rattle.std.proofs.lemmas.List.{get_or-set_same, get_or-set_other, get_or_default}
use Rattle.std.proofs.lemmas.Option.{slice_get_past}
use Rattle.mps_base.specs.Effects.{Effect, Idle, effect}
use Rattle.mps_base.specs.declared.action.Step.{Step}
use Rattle.mps_history.specs.Steps.{sends, receives, gives_to, takes_from}
use Rattle.mps_arena.specs.Keys.{is_at, has, AreDistinct, last_key, key_after, key_before}
use Rattle.mps_arena.specs.KeyedSteps.{KeyedStep, keys_of, any_step, keyed_at, AreSound}
use Rattle.mps_arena.specs.Neighbours.{first_waiting, next_send_in, prev_send_in}
use Rattle.mps_arena.proofs.KeyLists.{get_after, get_in, get_none, has-append_right}
use Rattle.mps_arena.proofs.Chains.{keys-append, keys_with, keys_without, keys_push, keys_kept, keys_around, keys_beside, distinct, absent, passes, keyed_key}
use Rattle.mps_arena.proofs.Matched.{matched_of, sends_pair, receives_pair, sends_chain}
use Rattle.mps_arena.proofs.Nodes.{cases_keyed}
use Rattle.mps_arena.proofs.Keeping.{others_are, keyed_split}
use Rattle.mps_queues.specs.Fronts.{front_at, waiting_keys, AreFronts}
use Rattle.mps_queues.specs.Private.Fronts.{taken, returned, dropped}

-- the front, where a send joins
abbrev pushed : ℕ → Option ℕ → Option ℕ
pushed key front = if is_none front then Some key else front

-- lists of keys
get_push : (c : List ℕ) (n k : ℕ) → n ≤ length c → slice_get (c ++ k ∷ []) n ≡ pushed k (slice_get c n)
get_push [] zero k h = refl
get_push [] (suc n) k h = absurd (omega (arith, h))
get_push (j ∷ c) zero k h = refl
get_push (j ∷ c) (suc n) k h = get_push c n k (omega (arith, h))

get_before : (before : Option ℕ) (c : List ℕ) (n k : ℕ) → AreDistinct c → slice_get c (suc n) ≡ Some k → key_before before k c ≡ slice_get c n
get_before before (j ∷ i ∷ c) (suc n) k d e =
    let n' : (j == k) ≡ false = false_from_ne_true (j == k) (λ t. both_ways (has k (i ∷ c)) (subst (λ (m : ℕ). has m (i ∷ c) ≡ false) (eqb-true j k t) d.0) (get_in (i ∷ c) (suc n) k (ap (λ (o : Option ℕ). is_at o k) e ∙ eq-eqb k k refl))) in
    cond-false (j == k) before (key_before (Some j) k (i ∷ c)) n' ∙ get_before (Some j) (i ∷ c) n k d.1 e
get_before before other others k d e = grind (arith, false_from_ne_true, both_ways, eqb-true, or_left, eq-eqb)

last_get : (before : Option ℕ) (c : List ℕ) (n : ℕ) → length c ≡ suc n → last_key before c ≡ slice_get c n
last_get before (j ∷ []) zero e = refl
last_get before (j ∷ i ∷ c) (suc n) e = last_get (Some j) (i ∷ c) n (omega (arith, e))
last_get before other others e = absurd (omega (arith, e))

get_drop : (c : List ℕ) (k n : ℕ) → AreDistinct (c ++ k ∷ []) → dropped (Some k) (slice_get (c ++ k ∷ []) n) ≡ slice_get c n
get_drop [] k zero d = rw (eq-eqb k k refl) refl
get_drop [] k (suc n) d = refl
get_drop (j ∷ c) k zero d = grind (arith, false_from_ne_true, both_ways, has-append_right, or_left)
get_drop (j ∷ c) k (suc n) d = get_drop c k n d.1

-- pairs of steps
sends_at : (p q i j : ℕ) (s : Step) → sends p q s ≡ true → sends i j s ≡ (p == i && q == j)
sends_at p q i j s e = let w = sends_pair p q s e in ap₂ (λ (r : ℕ) (a : _). r == i && gives_to j a) w.1 w.2

sends_takes : (p q i j : ℕ) (s : Step) → sends p q s ≡ true → receives i j s ≡ false
sends_takes p q i j s e = let w = sends_pair p q s e in ap (λ (a : _). s.role == j && takes_from i a) w.2 ∙ and_right (s.role == j) false refl

receives_at : (p q i j : ℕ) (s : Step) → receives p q s ≡ true → receives i j s ≡ (q == j && p == i)
receives_at p q i j s e = let w = receives_pair p q s e in ap₂ (λ (r : ℕ) (a : _). r == j && takes_from i a) w.1 w.2

receives_gives : (p q i j : ℕ) (s : Step) → receives p q s ≡ true → sends i j s ≡ false
receives_gives p q i j s e = let w = receives_pair p q s e in ap (λ (a : _). s.role == i && gives_to j a) w.2 ∙ and_right (s.role == i) false refl

other_pair : (p q i j : ℕ) → (i ≡ p → j ≡ q → ⊥) → (p == i && q == j) ≡ false
other_pair p q i j n = false_from_ne_true (p == i && q == j) (λ t. let w = and_parts (p == i) (q == j) t in n (sym (eqb-true p i w.0)) (sym (eqb-true q j w.1)))

other_pair_turned : (p q i j : ℕ) → (i ≡ p → j ≡ q → ⊥) → (q == j && p == i) ≡ false
other_pair_turned p q i j n = false_from_ne_true (q == j && p == i) (λ t. let w = and_parts (q == j) (p == i) t in n (sym (eqb-true p i w.1)) (sym (eqb-true q j w.0)))

-- one front changes
pub front_set : (fronts : List (Option ℕ)) (es now : List KeyedStep) (p q at : ℕ) (v : Option ℕ) → length fronts ≡ 64 → p < 8 → q < 8 → at ≡ p * 8 + q → AreFronts es fronts → first_waiting now p q ≡ v → ((i j : ℕ) → (i ≡ p → j ≡ q → ⊥) → first_waiting now i j ≡ first_waiting es i j) → AreFronts now (slice_set fronts at v)
front_set fronts es now p q at v long hp hq place f here others = record { each = each }
  where
    each : (i j : ℕ) → i < 8 → j < 8 → front_at (slice_set fronts at v) i j ≡ first_waiting now i j
    each i j hi hj = grind (arith, and_parts, eqb-true, get_or-set_same, both_ways, and_from, eq-eqb, get_or-set_other, cases_Bool)

-- no front changes
pub front_stays : (fronts : List (Option ℕ)) (es now : List KeyedStep) (p q : ℕ) → AreFronts es fronts → first_waiting now p q ≡ first_waiting es p q → ((i j : ℕ) → (i ≡ p → j ≡ q → ⊥) → first_waiting now i j ≡ first_waiting es i j) → AreFronts now fronts
front_stays fronts es now p q f here others = record { each = each }
  where
    each : (i j : ℕ) → i < 8 → j < 8 → front_at fronts i j ≡ first_waiting now i j
    each i j hi hj = grind (arith, and_parts, eqb-true, both_ways, and_from, eq-eqb, cases_Bool)

module _ (es : List KeyedStep) (sound : AreSound es) (p q : ℕ) where
  abbrev sent : List ℕ
  sent = keys_of (sends p q) es

  abbrev got : List ℕ
  got = keys_of (receives p q) es

  pub waiting_push : (e : KeyedStep) → sends p q e.step ≡ true → first_waiting (es ++ e ∷ []) p q ≡ pushed e.key (first_waiting es p q)
  waiting_push e t = rw (keys_push (sends p q) es e t, keys_kept (receives p q) es e (sends_takes p q p q e.step t)) (get_push sent (length got) e.key (matched_of es sound.fed p q))

  pub others_push : (e : KeyedStep) → sends p q e.step ≡ true → (i j : ℕ) → (i ≡ p → j ≡ q → ⊥) → first_waiting (es ++ e ∷ []) i j ≡ first_waiting es i j
  others_push e t i j n = grind (arith, keys_kept, sends_pair, false_from_ne_true, and_parts, eqb-true, sends_takes)

  -- a send's neighbours in its chain
  send_links : (k : ℕ) → has k sent ≡ true → (next_send_in es k ≡ key_after k sent) × (prev_send_in es k ≡ key_before None k sent)
  send_links k h = grind (arith, both_ways, absent, keyed_key, sends_chain, passes, cases_keyed)

  at_place : (n k : ℕ) → slice_get sent n ≡ Some k → has k sent ≡ true
  at_place n k e = get_in sent n k (ap (λ (o : Option ℕ). is_at o k) e ∙ eq-eqb k k refl)

  cases_key : (o : Option ℕ) → (o ≡ None) ⊎ ((k : ℕ) × (o ≡ Some k))
  cases_key None = inl refl
  cases_key (Some k) = inr (k, refl)

  pub waiting_take : (e : KeyedStep) → receives p q e.step ≡ true → first_waiting (es ++ e ∷ []) p q ≡ taken es (first_waiting es p q)
  waiting_take e t =
      let n = length got in
      let more : length (got ++ e.key ∷ []) ≡ suc n = omega (arith, length-append got (e.key ∷ [])) in
      grind (arith, keys_push, keys_kept, receives_gives, slice_get_past, get_none, send_links, at_place, get_after, distinct, cases_key)

  pub others_take : (e : KeyedStep) → receives p q e.step ≡ true → (i j : ℕ) → (i ≡ p → j ≡ q → ⊥) → first_waiting (es ++ e ∷ []) i j ≡ first_waiting es i j
  others_take e t i j n = grind (arith, keys_kept, receives_gives, receives_pair, false_from_ne_true, and_parts, eqb-true)

-- a place after the first ones
pub get_drop_front : {A : Type 0} (c : List A) (g n m : ℕ) → m ≡ g + n → slice_get (drop g c) n ≡ slice_get c m
get_drop_front c zero n m e = let same : n ≡ m = omega (arith, e) in ap (slice_get c) same
get_drop_front [] (suc g) n m e = refl
get_drop_front (j ∷ c) (suc g) n zero e = absurd (omega (arith, e))
get_drop_front (j ∷ c) (suc g) n (suc m) e = get_drop_front c g n m (omega (arith, e))

module _ (es : List KeyedStep) (sound : AreSound es) (p q : ℕ) where
  abbrev left_in : List ℕ
  left_in = waiting_keys es p q

  -- the first of what waits, and what comes next in its chain
  pub first_left : first_waiting es p q ≡ slice_get left_in 0
  first_left = sym (get_drop_front (keys_of (sends p q) es) (length (keys_of (receives p q) es)) 0 (length (keys_of (receives p q) es)) (omega arith))

  pub next_waiting : (n k : ℕ) → slice_get left_in n ≡ Some k → next_send_in es k ≡ slice_get left_in (suc n)
  next_waiting n k e =
      let c = keys_of (sends p q) es in
      let g = length (keys_of (receives p q) es) in
      let place : slice_get c (g + n) ≡ Some k = sym (get_drop_front c g n (g + n) refl) ∙ e in
      grind (arith, send_links es sound p q k (at_place es sound p q (g + n) k place), get_after c (g + n) k (distinct (sends p q) es sound.distinct) place, get_drop_front c g (suc n) (suc (g + n)) (omega arith))

  pub none_waits : (n m : ℕ) → n ≤ m → slice_get left_in n ≡ None → slice_get left_in m ≡ None
  none_waits n m h e = let few = get_none left_in n e in slice_get_past left_in m (omega (arith, few, h))

-- the last step that passes a test
pub record StandsLast (f : Step → Bool) (es : List KeyedStep) (k : ℕ) : Type 0 where
  pub before : List KeyedStep
  pub behind : List KeyedStep
  pub keyed : KeyedStep
  pub parts : es ≡ before ++ keyed ∷ behind
  pub key : keyed.key ≡ k
  pub passes : f keyed.step ≡ true
  pub none_behind : keys_of f behind ≡ []

nil_or : (c : List ℕ) → (c ≡ []) ⊎ ((o : Option ℕ) → last_key o c ≡ last_key None c)
nil_or [] = inl refl
nil_or (j ∷ c) = inr (λ o. refl)

pub stands_last : (f : Step → Bool) (es : List KeyedStep) (k : ℕ) → last_key None (keys_of f es) ≡ Some k → StandsLast f es k
stands_last f [] k e = absurd cc
stands_last f (x ∷ es) k e =
    let later = λ (h : last_key None (keys_of f es) ≡ Some k).
    let s = stands_last f es k h in
    let r : StandsLast f (x ∷ es) k = record { before = x ∷ s.before; behind = s.behind; keyed = s.keyed; parts = ap (λ l. x ∷ l) s.parts; key = s.key; passes = s.passes; none_behind = s.none_behind } in
    r in
    ⊎_elim
    (λ (t : f x.step ≡ true).
    let was : last_key (Some x.key) (keys_of f es) ≡ Some k = sym (ap (last_key None) (keys_with f x es t)) ∙ e in
    ⊎_elim
    (λ (z : keys_of f es ≡ []).
    let same : x.key ≡ k = cc in
    let r : StandsLast f (x ∷ es) k = record { before = []; behind = es; keyed = x; parts = refl; key = same; passes = t; none_behind = z } in
    r)
    (λ (g : (o : Option ℕ) → last_key o (keys_of f es) ≡ last_key None (keys_of f es)). later (sym (g (Some x.key)) ∙ was))
    (nil_or (keys_of f es)))
    (λ (n : f x.step ≡ false). later (sym (ap (last_key None) (keys_without f x es n)) ∙ e))
    (cases_Bool (f x.step))

module _ (es : List KeyedStep) (sound : AreSound es) (p q k : ℕ) where
  -- what is left of a chain without its last
  front_part : (f : Step → Bool) (s : StandsLast f es k) → (keys_of f es ≡ keys_of f s.before ++ k ∷ []) × (keys_of f (s.before ++ s.behind) ≡ keys_of f s.before)
  front_part f s = grind (arith, keys_around, keys-append, append-nil)

  beside : (f g : Step → Bool) (s : StandsLast f es k) → g s.keyed.step ≡ false → keys_of g (s.before ++ s.behind) ≡ keys_of g es
  beside f g s n = sym (ap (keys_of g) s.parts ∙ keys_beside g s.before s.behind s.keyed n)

  left : (f : Step → Bool) (s : StandsLast f es k) → filter (λ e. not (e.key == k)) es ≡ s.before ++ s.behind
  left f s = ap (filter (λ e. not (e.key == k))) s.parts ∙ others_are k s.before s.behind s.keyed (subst (λ (l : List KeyedStep). AreDistinct (keys_of any_step l)) s.parts sound.distinct) s.key

  pub waiting_return : last_key None (keys_of (receives p q) es) ≡ Some k → first_waiting (filter (λ e. not (e.key == k)) es) p q ≡ returned es (last_key None (keys_of (sends p q) es)) (first_waiting es p q)
  waiting_return e =
      let f = receives p q in
      let s = stands_last f es k e in
      let c = keys_of f s.before in
      let w = front_part f s in
      let sent' = keys_of (sends p q) es in
      let n = length c in
      let more : length (keys_of f es) ≡ suc n = omega (arith, ap length w.0, length-append c (k ∷ [])) in
      let room = matched_of es sound.fed p q in
      rw (left f s, w.1, beside f (sends p q) s (receives_gives p q p q s.keyed.step s.passes), more)
      (⊎_elim
      (λ (z : slice_get sent' (suc n) ≡ None). rw z (sym (last_get None sent' n (let few = get_none sent' (suc n) z in omega arith))))
      (λ (v : (i : ℕ) × (slice_get sent' (suc n) ≡ Some i)). rw v.1 (sym ((send_links es sound p q v.0 (at_place es sound p q (suc n) v.0 v.1)).1 ∙ get_before None sent' n v.0 (distinct (sends p q) es sound.distinct) v.1)))
      (cases_key es sound p q (slice_get sent' (suc n))))

  pub others_return : last_key None (keys_of (receives p q) es) ≡ Some k → (i j : ℕ) → (i ≡ p → j ≡ q → ⊥) → first_waiting (filter (λ e. not (e.key == k)) es) i j ≡ first_waiting es i j
  others_return e i j n =
      let f = receives p q in
      let s = stands_last f es k e in
      rw (left f s, beside f (sends i j) s (receives_gives p q i j s.keyed.step s.passes), beside f (receives i j) s (receives_at p q i j s.keyed.step s.passes ∙ other_pair_turned p q i j n)) refl

  pub waiting_drop : last_key None (keys_of (sends p q) es) ≡ Some k → first_waiting (filter (λ e. not (e.key == k)) es) p q ≡ dropped (last_key None (keys_of (sends p q) es)) (first_waiting es p q)
  waiting_drop e =
      let f = sends p q in
      let s = stands_last f es k e in
      let w = front_part f s in
      rw (left f s, w.1, beside f (receives p q) s (sends_takes p q p q s.keyed.step s.passes), e, w.0)
      (sym (get_drop (keys_of f s.before) k (length (keys_of (receives p q) es)) (subst AreDistinct w.0 (distinct f es sound.distinct))))

  pub others_drop : last_key None (keys_of (sends p q) es) ≡ Some k → (i j : ℕ) → (i ≡ p → j ≡ q → ⊥) → first_waiting (filter (λ e. not (e.key == k)) es) i j ≡ first_waiting es i j
  others_drop e i j n =
      let f = sends p q in
      let s = stands_last f es k e in
      rw (left f s, beside f (sends i j) s (sends_at p q i j s.keyed.step s.passes ∙ other_pair p q i j n), beside f (receives i j) s (sends_takes p q i j s.keyed.step s.passes)) refl

-- the front that is read
pub front_read : (fronts : List (Option ℕ)) (es : List KeyedStep) (p q at : ℕ) (d : Option ℕ) → length fronts ≡ 64 → p < 8 → q < 8 → at ≡ p * 8 + q → AreFronts es fronts → slice_index_or fronts at d ≡ first_waiting es p q
front_read fronts es p q at d long hp hq place f = grind (arith, get_or_default)

-- what is neither a send nor a receipt leaves the fronts
module _ (x : KeyedStep) (idle : effect x.step.act ≡ Idle) where
  no_send : (p q : ℕ) → sends p q x.step ≡ false
  no_send p q = ap (λ (a : Effect). x.step.role == p && gives_to q a) idle ∙ and_right (x.step.role == p) false refl

  no_receipt : (p q : ℕ) → receives p q x.step ≡ false
  no_receipt p q = ap (λ (a : Effect). x.step.role == q && takes_from p a) idle ∙ and_right (x.step.role == q) false refl

  pub idle_joins : (es : List KeyedStep) (fronts : List (Option ℕ)) → AreFronts es fronts → AreFronts (es ++ x ∷ []) fronts
  idle_joins es fronts f = grind (arith, keys_kept, and_right)

  pub idle_goes : (es : List KeyedStep) (fronts : List (Option ℕ)) → AreSound es → keyed_at x.key es ≡ Some x → AreFronts es fronts → AreFronts (filter (λ e. not (e.key == x.key)) es) fronts
  idle_goes es fronts sound found f =
      let w = keyed_split x.key es x found in
      let d = subst (λ (l : List KeyedStep). AreDistinct (keys_of any_step l)) w.2 sound.distinct in
      let left : filter (λ e. not (e.key == x.key)) es ≡ w.0 ++ w.1 = ap (filter (λ e. not (e.key == x.key))) w.2 ∙ others_are x.key w.0 w.1 x d refl in
      grind (arith, keys_beside, left, no_send, no_receipt)
