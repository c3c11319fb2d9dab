-- Sends and their receipts: the k-th send of a pair is matched with its k-th receipt.
use Rattle.std.proofs.Common.{◌≡◌, ℕ, ◌≤◌, ◌<◌, Bool, true, false, List, [], ◌∷◌, ◌++◌, length, cond, Option, Some, None, refl, sym, ap, ◌∙◌, subst, ⊎_elim, eq-eqb, arith, length-append, append-nil, append_assoc, ◌⊎◌, inl, inr}
use mathlib.Core.Path.{ap₂}
use Rattle.std.specs.Prelude.{◌==◌, slice_get}
use Rattle.std.specs.List.{AllByRecursion}
use Rattle.std.proofs.lemmas.Bool.{cond-false, or_parts, cases_Bool, eqb-true, and_parts, and_from, or_cases, false_from_ne_true, false≢true, both_ways}
use Rattle.mps_base.specs.Effects.{Effect, Gives, Takes, effect}
use Rattle.mps_base.specs.declared.action.Message.{Message}
use Rattle.mps_base.specs.declared.action.Step.{Step}
use Rattle.mps_history.specs.Steps.{gives_to, takes_from, sends, receives, IsRising}
use Rattle.mps_arena.specs.Keys.{is_at, has, AreDistinct, matched_key}
use Rattle.mps_arena.specs.KeyedSteps.{KeyedStep, keys_of, any_step, of_role, like_sends, like, unlike, keyed_at, steps, IsFed, IsSmall, AreSound}
use Rattle.mps_arena.proofs.KeyLists.{AreDistinct-left, not_at, matched_key_present, matched_key_more, matched_key_waits, matched_key_last, matched_key_in, get_in, get_none, get_some, has-append_cases, once}
use Rattle.mps_arena.proofs.Chains.{keys-append, keys_without, keys_push, keys_kept, keys_around, keys_beside, absent, present, distinct, passes}

-- chains of a role
pub role_alike : (s t : Step) → of_role s.role t ≡ true → of_role s.role ≡ of_role t.role
role_alike s t e = ap of_role (sym (eqb-true t.role s.role e))

pub role_back : (s t : Step) → of_role s.role t ≡ true → of_role t.role s ≡ true
role_back s t e = eq-eqb s.role t.role (sym (eqb-true t.role s.role e))

apart : (p q : ℕ) (a : Effect) → gives_to q a ≡ true → takes_from p a ≡ true → ⊥
apart p q a e f = grind (arith, false≢true)

-- a send's pair
pub sends_pair : (p q : ℕ) (t : Step) → sends p q t ≡ true → (m : Message) × (t.role ≡ p) × (effect t.act ≡ Gives q m)
sends_pair p q t e = grind (arith, and_parts, eqb-true, false≢true)

pub receives_pair : (p q : ℕ) (t : Step) → receives p q t ≡ true → (slot : _) × (t.role ≡ q) × (effect t.act ≡ Takes p slot)
receives_pair p q t e = grind (arith, and_parts, false≢true, eqb-true)

abbrev pub sends_like : Step → Step → Bool
sends_like s = like_sends s.role (effect s.act)

abbrev pub own : Step → Step → Bool
own s = like s.role (effect s.act)

abbrev pub other : Step → Step → Bool
other s = unlike s.role (effect s.act)

pub sends_alike : (s t : Step) → sends_like s t ≡ true → sends_like s ≡ sends_like t
sends_alike s t e = grind (arith, sends_pair, false≢true)

sends_self : (s : Step) (a : Effect) (t : Step) → effect s.act ≡ a → like_sends s.role a t ≡ true → like_sends s.role a s ≡ true
sends_self s a t e h = grind (arith, and_from, eq-eqb, false≢true)

pub sends_back : (s t : Step) → sends_like s t ≡ true → sends_like t s ≡ true
sends_back s t e = ap (λ (f : Step → Bool). f s) (sym (sends_alike s t e)) ∙ sends_self s (effect s.act) t refl e

pub alike : (s t : Step) → own s t ≡ true → (own s ≡ own t) × (other s ≡ other t)
alike s t e = grind (arith, sends_pair, receives_pair, false≢true)

pub across : (s t : Step) → other s t ≡ true → (own s ≡ other t) × (other s ≡ own t)
across s t e = grind (arith, receives_pair, sends_pair, false≢true)

pub itself : (s t : Step) → own s t ≡ true → own s s ≡ true
itself s t e = grind (arith, and_from, eq-eqb, false≢true)

pub itself_across : (s t : Step) → other s t ≡ true → own s s ≡ true
itself_across s t e = grind (arith, and_from, eq-eqb, false≢true)

pub back : (s t : Step) → own s t ≡ true → own t s ≡ true
back s t e = ap (λ (f : Step → Bool). f s) (sym (alike s t e).0) ∙ itself s t e

pub back_across : (s t : Step) → other s t ≡ true → other t s ≡ true
back_across s t e = ap (λ (f : Step → Bool). f s) (sym (across s t e).0) ∙ itself_across s t e

pub differ : (s t : Step) → own s t ≡ true → other s t ≡ false
differ s t e = grind (arith, false_from_ne_true, false≢true, and_parts)

none_across : (s : Step) (es : List KeyedStep) → own s s ≡ false → keys_of (other s) es ≡ []
none_across s [] n = refl
none_across s (x ∷ es) n = keys_without (other s) x es (false_from_ne_true (other s x.step) (λ t. both_ways (own s s) n (itself_across s x.step t))) ∙ none_across s es n

none_own : (s : Step) (es : List KeyedStep) → own s s ≡ false → keys_of (own s) es ≡ []
none_own s [] n = refl
none_own s (x ∷ es) n = keys_without (own s) x es (false_from_ne_true (own s x.step) (λ t. both_ways (own s s) n (itself s x.step t))) ∙ none_own s es n

-- what a new step is matched with: of its pair, the first send that has no receipt
abbrev pub new_match : List KeyedStep → Step → Option ℕ
new_match es s = slice_get (keys_of (other s) es) (length (keys_of (own s) es))

module _ (es : List KeyedStep) (e : KeyedStep) (d : AreDistinct (keys_of any_step es)) (fresh : keyed_at e.key es ≡ None) where
  pub matched_with_push : (j : ℕ) (y : KeyedStep) → keyed_at j es ≡ Some y → matched_key j (keys_of (own y.step) (es ++ e ∷ [])) (keys_of (other y.step) (es ++ e ∷ [])) ≡ cond (is_at (new_match es e.step) j) (Some e.key) (matched_key j (keys_of (own y.step) es) (keys_of (other y.step) es))
  matched_with_push j y found =
      -- the match is of the other chain of e
      let sought : (is_at (new_match es e.step) j ≡ true) → other e.step y.step ≡ true = λ t. passes (other e.step) j es y d found (get_in (keys_of (other e.step) es) (length (keys_of (own e.step) es)) j t) in
      ⊎_elim
      (grind (arith, differ, not_at, both_ways, itself, alike, keys_push, keys_kept, matched_key_present, present))
      (grind (arith, across, keys_kept, keys_push, matched_key_more, distinct, not_at, both_ways, back_across, cases_Bool))
      (cases_Bool (own y.step e.step))

  pub matched_with_new : matched_key e.key (keys_of (own e.step) (es ++ e ∷ [])) (keys_of (other e.step) (es ++ e ∷ [])) ≡ new_match es e.step
  matched_with_new = grind (arith, keys_push, keys_kept, differ, matched_key_last, absent, none_own, none_across, cases_Bool)

-- the sends and the receipts of a pair, of a step that is one
sends_own : (p q : ℕ) (t : Step) → sends p q t ≡ true → (own t ≡ sends p q) × (other t ≡ receives p q)
sends_own p q t e = let w = sends_pair p q t e in (ap₂ like w.1 w.2, ap₂ unlike w.1 w.2)

-- no pair has more receipts than sends
abbrev pub AreMatched : List KeyedStep → Type 0
AreMatched es = (p q : ℕ) → length (keys_of (receives p q) es) ≤ length (keys_of (sends p q) es)

-- and at the end no pair has
pub matched_of : (es : List KeyedStep) → IsFed es → AreMatched es
matched_of es f = f es [] (sym (append-nil es))

-- where a new receipt has a match, no receipt has none
pub matched_push : (es : List KeyedStep) (e : KeyedStep) → AreMatched es → ((p q : ℕ) → receives p q e.step ≡ true → (k : ℕ) × (new_match es e.step ≡ Some k)) → AreMatched (es ++ e ∷ [])
matched_push es e m has_match p q = grind (arith, receives_pair, get_some, differ, keys_push, keys_kept, length-append, cases_Bool)

-- x goes, the last step of its role
module _ (a b : List KeyedStep) (x : KeyedStep) (d : AreDistinct (keys_of any_step (a ++ x ∷ b))) (at_end : keys_of (own x.step) b ≡ []) where
  abbrev old : List KeyedStep
  old = a ++ x ∷ b

  abbrev matched : Option ℕ
  matched = matched_key x.key (keys_of (own x.step) old) (keys_of (other x.step) old)

  own_old : own x.step x.step ≡ true → keys_of (own x.step) old ≡ keys_of (own x.step) a ++ x.key ∷ []
  own_old t = keys_around (own x.step) a b x t ∙ ap (λ l. keys_of (own x.step) a ++ x.key ∷ l) at_end

  own_new : keys_of (own x.step) (a ++ b) ≡ keys_of (own x.step) a
  own_new = keys-append (own x.step) a b ∙ ap (λ l. keys_of (own x.step) a ++ l) at_end ∙ append-nil (keys_of (own x.step) a)

  pub matched_with_was : own x.step x.step ≡ true → matched ≡ slice_get (keys_of (other x.step) old) (length (keys_of (own x.step) a))
  matched_with_was t = grind (arith, own_old, matched_key_last, once, distinct)

  pub matched_with_removal : (j : ℕ) (y : KeyedStep) → keyed_at j old ≡ Some y → (x.key == j) ≡ false → matched_key j (keys_of (own y.step) (a ++ b)) (keys_of (other y.step) (a ++ b)) ≡ cond (is_at matched j) None (matched_key j (keys_of (own y.step) old) (keys_of (other y.step) old))
  matched_with_removal j y found apart =
      let sought : (is_at matched j ≡ true) → other x.step y.step ≡ true = λ t. passes (other x.step) j old y d found (matched_key_in x.key j (keys_of (own x.step) old) (keys_of (other x.step) old) t) in
      ⊎_elim
      (λ (t : own y.step x.step ≡ true).
      let n = differ y.step x.step t in
      let w = alike y.step x.step t in
      let self = back y.step x.step t in
      let selfx : own x.step x.step ≡ true = ap (λ (f : Step → Bool). f x.step) (sym w.0) ∙ t in
      let away : is_at matched j ≡ false = not_at matched j (λ u. both_ways (other x.step y.step) (differ x.step y.step self) (sought u)) in
      let here : has j (keys_of (own x.step) a ++ x.key ∷ []) ≡ true = subst (λ (c : List ℕ). has j c ≡ true) (own_old selfx) (present (own x.step) j old y found self) in
      grind (arith, both_ways, apart, false≢true, or_cases, has-append_cases, own_new, own_old, keys_beside, matched_key_present))
      (λ (n : own y.step x.step ≡ false).
      ⊎_elim
      (grind (arith, across, matched_with_was, keys_beside, own_new, own_old, matched_key_more, distinct, matched_key_waits, cases_Bool))
      (grind (arith, not_at, both_ways, back_across, keys_beside))
      (cases_Bool (other y.step x.step)))
      (cases_Bool (own y.step x.step))

  -- where a send that goes has no receipt, no receipt has none
  pub matched_removal : AreMatched old → ((p q : ℕ) → sends p q x.step ≡ true → matched ≡ None) → AreMatched (a ++ b)
  matched_removal m unreceived p q =
      let before = m p q in
      grind (arith, sends_own, get_none, matched_with_was, differ, own_new, keys_beside, keys_around, keys-append, length-append, cases_Bool)

-- the steps of the chains of a role are its steps
pub own_role : (p : ℕ) (a : Effect) (s : Step) → like p a s ≡ true → of_role p s ≡ true
own_role p a s e = grind (arith, and_parts, false≢true)

pub sends_role : (p : ℕ) (a : Effect) (s : Step) → like_sends p a s ≡ true → of_role p s ≡ true
sends_role p a s e = grind (arith, and_parts, false≢true)

pub sends_chain : (p q : ℕ) (t : Step) → sends p q t ≡ true → sends_like t ≡ sends p q
sends_chain p q t e = let w = sends_pair p q t e in ap₂ like_sends w.1 w.2

-- two ways to split a list
pub split_cases : (a b c d : List KeyedStep) → a ++ b ≡ c ++ d → ((m : List KeyedStep) × (a ≡ c ++ m)) ⊎ ((m : List KeyedStep) × ((c ≡ a ++ m) × (b ≡ m ++ d)))
split_cases [] b c d e = inr (c, (refl, e))
split_cases (x ∷ a) b [] d e = inl (x ∷ a, refl)
split_cases (x ∷ a) b (y ∷ c) d e =
    let head : x ≡ y = cc in
    let tail : a ++ b ≡ c ++ d = cc in
    grind (arith, split_cases a b c d tail)

pub fed_push : (es : List KeyedStep) (e : KeyedStep) → IsFed es → ((p q : ℕ) → receives p q e.step ≡ true → (k : ℕ) × (new_match es e.step ≡ Some k)) → IsFed (es ++ e ∷ [])
fed_push es e f has_match c d s p q =
    let whole = matched_of es f in
    ⊎_elim
    (λ (w : (m : List KeyedStep) × (es ≡ c ++ m)). f c w.0 w.1 p q)
    (λ (w : (m : List KeyedStep) × ((c ≡ es ++ m) × (e ∷ [] ≡ m ++ d))).
    ⊎_elim
    (λ (z : w.0 ≡ []). rw (w.1.0, z, append-nil es) (whole p q))
    (λ (z : w.0 ≡ e ∷ []). rw (w.1.0, z) (matched_push es e whole has_match p q))
    (one w.0 d w.1.1))
    (split_cases es (e ∷ []) c d s)
  where
    one : (m d : List KeyedStep) → e ∷ [] ≡ m ++ d → (m ≡ []) ⊎ (m ≡ e ∷ [])
    one [] d h = inl refl
    one (y ∷ []) d h = let same : y ≡ e = cc in inr (ap (λ (z : KeyedStep). z ∷ []) same)
    one (y ∷ z ∷ m) d h = absurd cc

module _ (a b : List KeyedStep) (x : KeyedStep) (d : AreDistinct (keys_of any_step (a ++ x ∷ b))) (at_end : keys_of (own x.step) b ≡ []) where
  pub fed_removal : IsFed (a ++ x ∷ b) → ((p q : ℕ) → sends p q x.step ≡ true → matched_key x.key (keys_of (own x.step) (a ++ x ∷ b)) (keys_of (other x.step) (a ++ x ∷ b)) ≡ None) → IsFed (a ++ b)
  fed_removal f unreceived c e s p q =
      ⊎_elim
      (λ (w : (l : List KeyedStep) × (a ≡ c ++ l)). f c (w.0 ++ x ∷ b) (ap (λ l. l ++ x ∷ b) w.1 ∙ append_assoc c w.0 (x ∷ b)) p q)
      (λ (w : (l : List KeyedStep) × ((c ≡ a ++ l) × (b ≡ l ++ e))).
      let l = w.0 in
      rw w.1.0
      (⊎_elim
      (grind (arith, matched_removal a b x d at_end (matched_of (a ++ x ∷ b) f) unreceived p q, keys-append, length-append))
      (λ (n : sends p q x.step ≡ false).
      let before = f (a ++ x ∷ l) e (ap (λ k. a ++ x ∷ k) w.1.1 ∙ sym (append_assoc a (x ∷ l) e)) p q in
      grind (arith, keys_beside, keys_around, keys-append, length-append, cases_Bool))
      (cases_Bool (sends p q x.step))))
      (split_cases a b c e s)

pub fed_nil : IsFed []
fed_nil [] d s p q = omega arith
fed_nil (y ∷ c) d s p q = absurd cc

-- without keyed steps all holds
pub sound_nil : AreSound []
sound_nil = record { distinct = tt; fed = fed_nil; rising = tt; small = tt }

-- what holds of all holds of the first ones
pub sound_left : (a b : List KeyedStep) → AreSound (a ++ b) → AreSound a
sound_left a b s = record {
  distinct = AreDistinct-left (keys_of any_step a) (keys_of any_step b) (subst AreDistinct (keys-append any_step a b) s.distinct);
  fed = λ c d e p q. s.fed c (d ++ b) (ap (λ l. l ++ b) e ∙ append_assoc c d b) p q;
  rising = rising_left a b s.rising;
  small = small_left a b s.small;
}
  where
    all_left : (P : Step → Type 0) (a b : List KeyedStep) → AllByRecursion P (steps (a ++ b)) → AllByRecursion P (steps a)
    all_left P [] b h = tt
    all_left P (x ∷ a) b h = (h.0, all_left P a b h.1)

    rising_left : (a b : List KeyedStep) → IsRising (steps (a ++ b)) → IsRising (steps a)
    rising_left [] b h = tt
    rising_left (x ∷ a) b h = (all_left (λ t. x.step.id < t.id) a b h.0, rising_left a b h.1)

    small_left : (a b : List KeyedStep) → AllByRecursion (λ e. IsSmall e.step) (a ++ b) → AllByRecursion (λ e. IsSmall e.step) a
    small_left [] b h = tt
    small_left (x ∷ a) b h = (h.0, small_left a b h.1)

-- no earlier keyed step has the key of a later one
pub last_fresh : (a b : List KeyedStep) (e : KeyedStep) → AreSound (a ++ e ∷ b) → keyed_at e.key a ≡ None
last_fresh a b e s = nowhere a (once e.key (keys_of any_step a) (keys_of any_step b) (subst AreDistinct (keys_around any_step a b e refl) s.distinct)).0
  where
    nowhere : (c : List KeyedStep) → has e.key (keys_of any_step c) ≡ false → keyed_at e.key c ≡ None
    nowhere [] h = refl
    nowhere (y ∷ c) h =
        let p = or_parts (y.key == e.key) (has e.key (keys_of any_step c)) h in
        cond-false (y.key == e.key) (Some y) (keyed_at e.key c) p.0 ∙ nowhere c p.1
