-- Bindings, as keyed steps come and go.
use Rattle.std.proofs.Common.{◌≡◌, ℕ, ◌<◌, ◌⊎◌, Bool, true, false, List, [], ◌∷◌, ◌++◌, length, not, map, Option, Some, None, refl, sym, ap, ◌∙◌, subst, arith, ⊎_elim, inl, inr, eq-eqb, append-nil, append_assoc, get_or}
use mathlib.Core.Path.{ap₂}
use Rattle.std.specs.Prelude.{◌==◌, if◌then◌else◌, slice_set}
use Rattle.std.specs.List.{filter}
use Rattle.std.specs.Option.{option_map_or}
use Rattle.std.specs.Str.{bytes_eq}
use Rattle.std.proofs.lemmas.Bool.{cases_Bool, cond-true, cond-false, eqb-true, ne_eqb, both_ways, false_from_ne_true}
use Rattle.std.proofs.lemmas.List.{get_or-set_same, get_or-set_other, get_or_default}
use Rattle.mps_history.specs.Slots.{bound, unbound, value_in}
use Rattle.mps_history.proofs.Slots.{same_slot, value_in-bound, unbound-bound}
use Rattle.mps_arena.specs.Keys.{is_at, has, AreDistinct, last_key}
use Rattle.mps_arena.specs.KeyedSteps.{KeyedStep, keys_of, any_step, of_role, keyed_at, with_mark, AreSound}
use Rattle.mps_arena.proofs.KeyLists.{last-append, last_in, once}
use Rattle.mps_arena.proofs.Chains.{keys_without, keys_around, distinct, keyed_middle}
use Rattle.mps_arena.proofs.Keeping.{keyed_split, others_are}
use Rattle.mps_stores.specs.Stores.{Keys, Naming, store_at, IsBinding, store_after, rebound, bindings, AreTraced, AreStores}

-- the store that is written
pub store_is : (stores : List Keys) (p i : ℕ) (store : Keys) → i ≡ p → length stores ≡ 8 → p < 8 → store ≡ get_or stores i store → store ≡ store_at stores p
store_is stores p i store same long small is = is ∙ ap (λ (k : ℕ). get_or stores k store) same ∙ get_or_default stores p store [] (omega (arith, long, small))

-- of each kind of names
module _ (naming : Naming) where
  -- one keyed step
  pub after_binding : (p : ℕ) (slot : List ℕ) (store : Keys) (e : KeyedStep) → IsBinding naming p slot e → store_after naming p store e ≡ bound slot e.key store
  after_binding p slot store e is = rw (eq-eqb e.step.role p is.0, is.1) refl

  pub after_other : (p : ℕ) (store : Keys) (e : KeyedStep) → (e.step.role == p) ≡ false → store_after naming p store e ≡ store
  after_other p store e n = cond-false (e.step.role == p) (option_map_or (λ slot. bound slot e.key store) (naming e.step.act) store) store n

  pub after_idle : (p : ℕ) (store : Keys) (e : KeyedStep) → naming e.step.act ≡ None → store_after naming p store e ≡ store
  after_idle p store e n = grind (arith, after_other, cases_Bool)

  -- many keyed steps
  pub rebound-append : (p : ℕ) (store : Keys) (a b : List KeyedStep) → rebound naming p store (a ++ b) ≡ rebound naming p (rebound naming p store a) b
  rebound-append p store [] b = refl
  rebound-append p store (x ∷ a) b = rebound-append p (store_after naming p store x) a b

  pub rebound_others : (p : ℕ) (store : Keys) (es : List KeyedStep) → keys_of (of_role p) es ≡ [] → rebound naming p store es ≡ store
  rebound_others p store [] none = refl
  rebound_others p store (x ∷ es) none =
      ⊎_elim
      (λ (t : of_role p x.step ≡ true). absurd cc)
      (λ (f : of_role p x.step ≡ false).
      ap (λ (s : Keys). rebound naming p s es) (after_other p store x f) ∙ rebound_others p store es (sym (keys_without (of_role p) x es f) ∙ none))
      (cases_Bool (of_role p x.step))

  pub bindings_push : (p : ℕ) (es : List KeyedStep) (e : KeyedStep) → bindings naming p (es ++ e ∷ []) ≡ store_after naming p (bindings naming p es) e
  bindings_push p es e = rebound-append p [] es (e ∷ [])

  -- a keyed step in the middle that leaves the store
  pub bindings_beside : (p : ℕ) (a b : List KeyedStep) (x : KeyedStep) → ((store : Keys) → store_after naming p store x ≡ store) → bindings naming p (a ++ x ∷ b) ≡ bindings naming p (a ++ b)
  bindings_beside p a b x same = rebound-append p [] a (x ∷ b) ∙ ap (λ (s : Keys). rebound naming p s b) (same (bindings naming p a)) ∙ sym (rebound-append p [] a b)

  -- where a keyed step of one part stands in the whole
  place_cases : (a b c d : List KeyedStep) (y : KeyedStep) → a ++ b ≡ c ++ y ∷ d → ((m : List KeyedStep) × (a ≡ c ++ y ∷ m)) ⊎ ((m : List KeyedStep) × ((c ≡ a ++ m) × (b ≡ m ++ y ∷ d)))
  place_cases [] b c d y e = inr (c, (refl, e))
  place_cases (x ∷ a) b [] d y e = let head : x ≡ y = cc in inl (a, ap (λ (z : KeyedStep). z ∷ a) head)
  place_cases (x ∷ a) b (z ∷ c) d y e =
      let tail : a ++ b ≡ c ++ y ∷ d = cc in
      grind (arith, place_cases a b c d y tail)

  only : (e y : KeyedStep) (m d : List KeyedStep) → e ∷ [] ≡ m ++ y ∷ d → (m ≡ []) × (y ≡ e)
  only e y [] d h = let same : y ≡ e = cc in (refl, same)
  only e y (z ∷ []) d h = absurd cc
  only e y (z ∷ v ∷ m) d h = absurd cc

  pub traced_push : (es : List KeyedStep) (e : KeyedStep) → AreTraced naming es → ((p : ℕ) (slot : List ℕ) → IsBinding naming p slot e → e.before.bound ≡ value_in slot (bindings naming p es)) → AreTraced naming (es ++ e ∷ [])
  traced_push es e was new p slot a b y whole is =
      ⊎_elim
      (λ (w : (m : List KeyedStep) × (es ≡ a ++ y ∷ m)). was p slot a w.0 y w.1 is)
      (grind (arith, only, append-nil))
      (place_cases es (e ∷ []) a b y whole)

  -- a keyed step goes that no later keyed step's store shows
  pub traced_without : (a b : List KeyedStep) (x : KeyedStep) → AreTraced naming (a ++ x ∷ b) → ((c d : List KeyedStep) (y : KeyedStep) → b ≡ c ++ y ∷ d → (store : Keys) → store_after naming y.step.role store x ≡ store) → AreTraced naming (a ++ b)
  traced_without a b x was unseen p slot c d y whole is =
      ⊎_elim
      (λ (w : (m : List KeyedStep) × (a ≡ c ++ y ∷ m)). was p slot c (w.0 ++ x ∷ b) y (ap (λ (l : List KeyedStep). l ++ x ∷ b) w.1 ∙ append_assoc c (y ∷ w.0) (x ∷ b)) is)
      (λ (w : (m : List KeyedStep) × ((c ≡ a ++ m) × (b ≡ m ++ y ∷ d))).
      grind (arith, append_assoc a (x ∷ w.0) (y ∷ d), bindings_beside))
      (place_cases a b c d y whole)

  -- an idle keyed step
  pub stores_idle_push : (es : List KeyedStep) (e : KeyedStep) (stores : List Keys) → AreStores naming es stores → naming e.step.act ≡ None → AreStores naming (es ++ e ∷ []) stores
  stores_idle_push es e stores s idle = grind (arith, bindings_push, after_idle, traced_push)

  pub stores_idle_without : (es : List KeyedStep) (e : KeyedStep) (stores : List Keys) → AreStores naming es stores → AreSound es → keyed_at e.key es ≡ Some e → naming e.step.act ≡ None → AreStores naming (filter (λ other. not (other.key == e.key)) es) stores
  stores_idle_without es e stores s sound found idle =
      let w = keyed_split e.key es e found in
      let a = w.0 in
      let b = w.1 in
      let d : AreDistinct (keys_of any_step (a ++ e ∷ b)) = subst (λ (l : List KeyedStep). AreDistinct (keys_of any_step l)) w.2 sound.distinct in
      let left : filter (λ other. not (other.key == e.key)) es ≡ a ++ b = ap (filter (λ (other : KeyedStep). not (other.key == e.key))) w.2 ∙ others_are e.key a b e d refl in
      let t : AreTraced naming (a ++ e ∷ b) = subst (AreTraced naming) w.2 s.traced in
      let r : AreStores naming (a ++ b) stores = record {
        each = λ p small. s.each p small ∙ ap (bindings naming p) w.2 ∙ bindings_beside p a b e (λ store. after_idle p store e idle);
        traced = traced_without a b e t (λ c l y is store. after_idle y.step.role store e idle);
      } in
      subst (λ (l : List KeyedStep). AreStores naming l stores) (sym left) r

  -- a receipt joins
  pub stores_bind : (es : List KeyedStep) (e : KeyedStep) (p : ℕ) (slot : List ℕ) (stores : List Keys) → length stores ≡ 8 → p < 8 → AreStores naming es stores → IsBinding naming p slot e → e.before.bound ≡ value_in slot (store_at stores p) → AreStores naming (es ++ e ∷ []) (slice_set stores p (bound slot e.key (store_at stores p)))
  stores_bind es e p slot stores long small s is kept = record { each = each; traced = traced_push es e s.traced own }
    where
      own : (q : ℕ) (x : List ℕ) → IsBinding naming q x e → e.before.bound ≡ value_in x (bindings naming q es)
      own q x h = grind arith

      each : (q : ℕ) → q < 8 → store_at (slice_set stores p (bound slot e.key (store_at stores p))) q ≡ bindings naming q (es ++ e ∷ [])
      each q low = grind (arith, eqb-true, get_or-set_same, bindings_push, after_binding, both_ways, eq-eqb, get_or-set_other, after_other, cases_Bool)

  -- nothing of its role stands after the last keyed step of the role
  none_behind : (c d : List ℕ) (k : ℕ) → AreDistinct (c ++ k ∷ d) → last_key None (c ++ k ∷ d) ≡ Some k → d ≡ []
  none_behind c [] k apart last = refl
  none_behind c (j ∷ d) k apart last =
      let is : last_key None (j ∷ d) ≡ Some k = sym (last-append None c (k ∷ j ∷ d)) ∙ last in
      absurd (both_ways (has k (j ∷ d)) (once k c (j ∷ d) apart).1 (last_in (j ∷ d) k (ap (λ (o : Option ℕ). is_at o k) is ∙ eq-eqb k k refl)))

  -- no keyed step of the role stands there
  not_of : (p : ℕ) (c d : List KeyedStep) (y : KeyedStep) → keys_of (of_role p) (c ++ y ∷ d) ≡ [] → (y.step.role == p) ≡ false
  not_of p c d y none =
      false_from_ne_true (y.step.role == p) (λ t.
      let some : keys_of (of_role p) c ++ y.key ∷ keys_of (of_role p) d ≡ [] = sym (keys_around (of_role p) c d y t) ∙ none in
      not_nil (keys_of (of_role p) c) (keys_of (of_role p) d) y.key some)
    where
      not_nil : (c d : List ℕ) (k : ℕ) → c ++ k ∷ d ≡ [] → ⊥
      not_nil [] d k e = absurd cc
      not_nil (j ∷ c) d k e = absurd cc

  -- the last keyed step of its role goes, which is a receipt
  pub stores_unbind : (es : List KeyedStep) (e : KeyedStep) (p : ℕ) (slot : List ℕ) (older : Option ℕ) (stores : List Keys) → length stores ≡ 8 → p < 8 → AreStores naming es stores → AreSound es → keyed_at e.key es ≡ Some e → last_key None (keys_of (of_role p) es) ≡ Some e.key → IsBinding naming p slot e → e.before.bound ≡ older
      → AreStores naming (filter (λ other. not (other.key == e.key)) es) (slice_set stores p (unbound slot older (store_at stores p)))
  stores_unbind es e p slot older stores long small s sound found last is kept =
      let w = keyed_split e.key es e found in
      let a = w.0 in
      let b = w.1 in
      let d : AreDistinct (keys_of any_step (a ++ e ∷ b)) = subst (λ (l : List KeyedStep). AreDistinct (keys_of any_step l)) w.2 sound.distinct in
      let left : filter (λ other. not (other.key == e.key)) es ≡ a ++ b = ap (filter (λ (other : KeyedStep). not (other.key == e.key))) w.2 ∙ others_are e.key a b e d refl in
      let t : AreTraced naming (a ++ e ∷ b) = subst (AreTraced naming) w.2 s.traced in
      let mine : of_role p e.step ≡ true = eq-eqb e.step.role p is.0 in
      let chain = keys_around (of_role p) a b e mine in
      let apart : AreDistinct (keys_of (of_role p) a ++ e.key ∷ keys_of (of_role p) b) = subst AreDistinct chain (distinct (of_role p) (a ++ e ∷ b) d) in
      let none_later : keys_of (of_role p) b ≡ [] = none_behind (keys_of (of_role p) a) (keys_of (of_role p) b) e.key apart (ap (last_key None) (sym chain) ∙ ap (λ (l : List KeyedStep). last_key None (keys_of (of_role p) l)) (sym w.2) ∙ last) in
      let was : store_at stores p ≡ bound slot e.key (bindings naming p a) =
      s.each p small ∙ ap (bindings naming p) w.2 ∙ rebound-append p [] a (e ∷ b) ∙ rebound_others p (store_after naming p (bindings naming p a) e) b none_later ∙ after_binding p slot (bindings naming p a) e is in
      grind (arith, unbound-bound slot e.key (bindings naming p a), rebound-append p [] a b, rebound_others p (bindings naming p a) b none_later, eqb-true, get_or-set_same, both_ways, eq-eqb, get_or-set_other, bindings_beside, after_other, cases_Bool, traced_without a b e t (grind (arith, not_of, after_other, ne_eqb, both_ways, eq-eqb)))

  -- marks
  module _ (k : ℕ) (m : Bool) where
    abbrev marks : List KeyedStep → List KeyedStep
    marks es = map (with_mark k m) es

    rebound_marked : (p : ℕ) (store : Keys) (es : List KeyedStep) → rebound naming p store (marks es) ≡ rebound naming p store es
    rebound_marked p store [] = refl
    rebound_marked p store (x ∷ es) = rebound_marked p (store_after naming p store x) es

    -- where a keyed step of the marked list stands in the other
    abbrev Place : List KeyedStep → List KeyedStep → KeyedStep → Type 0
    Place es c y = (a : List KeyedStep) × (b : List KeyedStep) × (x : KeyedStep) × ((es ≡ a ++ x ∷ b) × (c ≡ marks a) × (y ≡ with_mark k m x))

    behind : (x z : KeyedStep) (es c : List KeyedStep) (y : KeyedStep) → z ≡ with_mark k m x → Place es c y → Place (x ∷ es) (z ∷ c) y
    behind x z es c y head w =
        (x ∷ w.0, w.1, w.2, (ap (λ (l : List KeyedStep). x ∷ l) w.3.0, ap₂ (λ (v : KeyedStep) (l : List KeyedStep). v ∷ l) head w.3.1, w.3.2))

    marks_place : (es c d : List KeyedStep) (y : KeyedStep) → marks es ≡ c ++ y ∷ d → Place es c y
    marks_place [] [] d y e = absurd cc
    marks_place [] (z ∷ c) d y e = absurd cc
    marks_place (x ∷ es) [] d y e = let head : y ≡ with_mark k m x = cc in ([], es, x, (refl, refl, head))
    marks_place (x ∷ es) (z ∷ c) d y e =
        let head : z ≡ with_mark k m x = cc in
        let tail : marks es ≡ c ++ y ∷ d = cc in
        behind x z es c y head (marks_place es c d y tail)

    pub stores_marked : (es : List KeyedStep) (stores : List Keys) → AreStores naming es stores → AreStores naming (marks es) stores
    stores_marked es stores s = grind (arith, rebound_marked, marks_place)

  -- what a slot is bound to
  pub record Bound (p : ℕ) (slot : List ℕ) (k : ℕ) (es : List KeyedStep) : Type 0 where
    pub before : List KeyedStep
    pub behind : List KeyedStep
    pub keyed : KeyedStep
    pub parts : es ≡ before ++ keyed ∷ behind
    pub key : keyed.key ≡ k
    pub receipt : IsBinding naming p slot keyed

  cases_slot : (o : Option (List ℕ)) → (o ≡ None) ⊎ ((x : List ℕ) × (o ≡ Some x))
  cases_slot None = inl refl
  cases_slot (Some x) = inr (x, refl)

  -- by a keyed step, or before it
  bound_here : (p : ℕ) (slot : List ℕ) (k : ℕ) (store : Keys) (e : KeyedStep) → value_in slot (store_after naming p store e) ≡ Some k → ((e.key ≡ k) × IsBinding naming p slot e) ⊎ (value_in slot store ≡ Some k)
  bound_here p slot k store e h =
      ⊎_elim
      (λ (t : (e.step.role == p) ≡ true).
      ⊎_elim
      (λ (z : naming e.step.act ≡ None). inr (sym (ap (value_in slot) (after_idle p store e z)) ∙ h))
      (λ (w : (x : List ℕ) × (naming e.step.act ≡ Some x)).
      let is : IsBinding naming p w.0 e = (eqb-true e.step.role p t, w.1) in
      let got : (if bytes_eq w.0 slot then Some e.key else value_in slot store) ≡ Some k =
      sym (value_in-bound slot w.0 e.key store) ∙ sym (ap (value_in slot) (after_binding p w.0 store e is)) ∙ h in
      ⊎_elim
      (λ (y : bytes_eq w.0 slot ≡ true).
      grind (arith, cond-true (bytes_eq w.0 slot) (Some e.key) (value_in slot store) y, same_slot w.0 slot y))
      (λ (n : bytes_eq w.0 slot ≡ false). inr (sym (cond-false (bytes_eq w.0 slot) (Some e.key) (value_in slot store) n) ∙ got))
      (cases_Bool (bytes_eq w.0 slot)))
      (cases_slot (naming e.step.act)))
      (λ (f : (e.step.role == p) ≡ false). inr (sym (ap (value_in slot) (after_other p store e f)) ∙ h))
      (cases_Bool (e.step.role == p))

  bound_in : (p : ℕ) (slot : List ℕ) (k : ℕ) (store : Keys) (es : List KeyedStep) → value_in slot (rebound naming p store es) ≡ Some k → Bound p slot k es ⊎ (value_in slot store ≡ Some k)
  bound_in p slot k store [] h = inr h
  bound_in p slot k store (x ∷ es) h =
      ⊎_elim
      (λ (w : Bound p slot k es).
      let r : Bound p slot k (x ∷ es) = record { before = x ∷ w.before; behind = w.behind; keyed = w.keyed; parts = ap (λ (l : List KeyedStep). x ∷ l) w.parts; key = w.key; receipt = w.receipt } in
      inl r)
      (λ (g : value_in slot (store_after naming p store x) ≡ Some k).
      ⊎_elim
      (λ (v : (x.key ≡ k) × IsBinding naming p slot x).
      let r : Bound p slot k (x ∷ es) = record { before = []; behind = es; keyed = x; parts = refl; key = v.0; receipt = v.1 } in
      inl r)
      (λ (v : value_in slot store ≡ Some k). inr v)
      (bound_here p slot k store x g))
      (bound_in p slot k (store_after naming p store x) es h)

  pub binding_is_step : (es : List KeyedStep) (p k : ℕ) (slot : List ℕ) → AreSound es → value_in slot (bindings naming p es) ≡ Some k → (e : KeyedStep) × (keyed_at k es ≡ Some e) × IsBinding naming p slot e
  binding_is_step es p k slot sound h =
      ⊎_elim
      (grind (arith, keyed_middle))
      (λ (z : value_in slot [] ≡ Some k). absurd cc)
      (bound_in p slot k [] es h)
