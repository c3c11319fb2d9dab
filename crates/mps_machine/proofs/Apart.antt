-- What depends on a step, and the step, may be taken last: so it may be left out.
use Rattle.std.proofs.Common.{◌≡◌, ◌≢◌, ℕ, ◌+◌, ◌<◌, Bool, true, false, not, List, [], ◌∷◌, ◌++◌, length, Some, refl, sym, ap, ◌∙◌, subst, arith, ⊎_elim, inl, inr, length-append, append_assoc}
use Rattle.std.specs.Prelude.{◌==◌, ◌&&◌, ◌||◌, nat_lt, ⊤}
use Rattle.std.specs.List.{filter}
use Rattle.std.proofs.lemmas.Bool.{cases_Bool, and_parts, and_from, and_left, ne_eqb, eqb-false, lt-ltb, le-ltb, or_left, or_parts, and_right, not-true, not_from_false, false≢true, false_from_ne_true}
use Rattle.std.proofs.lemmas.List.Elements.{filter-append}
use Rattle.mps_base.specs.declared.action.Step.{Step}
use Rattle.mps_local.specs.Local.{LocalType}
use Rattle.mps_history.specs.Steps.{IsIn, IsRising, sends, receives, without, within}
use Rattle.mps_history.specs.Dependence.{sent_before, received_before, is_matched, depends_on, IsClosed}
use Rattle.mps_history.proofs.Order.{at_member, from_members, rising_apart, filter-IsIn, IsIn-append_right, IsRising-append_right, IsRising-filter}
use Rattle.mps_history.proofs.Removal.{filter-none, filter-same, filter-filter}
use Rattle.mps_machine.specs.View.{View, opening}
use Rattle.mps_machine.specs.Rule.{rule, replay}
use Rattle.mps_machine.proofs.Stepping.{one_if, queue_step, queue_count, length_filter_step, replay_parts, replay_from, replay-append, replay_front}
use Rattle.mps_machine.proofs.Commuting.{Waits, commute}

-- s may be taken after the steps
abbrev pub Passes : View → Step → List Step → Type 0
Passes v s [] = ⊤
Passes v s (t ∷ b) = (s.role ≢ t.role) × Waits v s t × ((x : View) → rule v t ≡ Some x → Passes x s b)

pub slide : (b : List Step) (v w0 w : View) (s : Step) → rule v s ≡ Some w0 → replay w0 b ≡ Some w → Passes v s b → (x : View) × (replay v b ≡ Some x) × (rule x s ≡ Some w)
slide [] v w0 w s e r p = (v, refl, e ∙ r)
slide (t ∷ b) v w0 w s e r p =
    let parts = replay_parts w0 w t b r in
    let c = commute v w0 parts.0 s t e parts.1 p.0 p.1 in
    grind (arith, slide b c.0 parts.0 w s c.2 parts.2 (p.2 c.0 c.1), replay_from v c.0 t b c.1)

-- a step doesn't count before its own number, nor do later ones
pub none_before : (t : Step) (b : List Step) (p q : ℕ) → IsRising (t ∷ b) → received_before p q t.id (t ∷ b) ≡ 0
none_before t b p q r = grind (arith, filter-none, and_left, le-ltb, from_members, at_member)

pub passes_from : (b : List Step) (v : View) (s : Step) → IsRising b → ((t : Step) → IsIn t b → (s.role ≢ t.role) × (sends s.role t.role s ≡ true → receives s.role t.role t ≡ true → length (v.queue s.role t.role) ≢ received_before s.role t.role t.id b)) → Passes v s b
passes_from [] v s r f = tt
passes_from (t ∷ b) v s r f =
    let here = f t (inl refl) in (
      here.0,
      (λ y z. let some = here.1 y z in let none = none_before t b s.role t.role r in omega arith),
      (λ x e.
          passes_from b x s r.1
          (λ u i.
          grind (arith, at_member, and_left, ne_eqb, queue_step, one_if, length_filter_step, lt-ltb))),
    )

-- counting the sends before a step, by numbers and by places
pub sent_before_place : (a l : List Step) (s : Step) (p q : ℕ) → IsRising (a ++ s ∷ l) → sent_before p q s.id (a ++ s ∷ l) ≡ length (filter (sends p q) a)
sent_before_place a l s p q r =
    let f = λ (x : Step). nat_lt x.id s.id && sends p q x in
    let rest = IsRising-append_right a (s ∷ l) r in
    ap length (grind (arith, filter-append, filter-none, and_left, le-ltb, from_members, at_member))
    ∙ (length-append (filter f a) [] ∙ (let none : length (filter f a) + 0 ≡ length (filter f a) = omega arith in none))
    ∙ ap length (filter-same f (sends p q) a (from_members (λ x. f x ≡ sends p q x) a (λ x i. ap (λ k. k && sends p q x) (lt-ltb x.id s.id (rising_apart a (s ∷ l) x s r i (inl refl))))))

-- counting the receipts before a later step
pub received_before_place : (a l : List Step) (t : Step) (p q : ℕ) → IsRising (a ++ l) → IsIn t l → received_before p q t.id (a ++ l) ≡ length (filter (receives p q) a) + received_before p q t.id l
received_before_place a l t p q r i = grind (arith, filter-append, length-append, filter-same, from_members, lt-ltb, rising_apart)

-- what a later step that isn't in a closed set has to do with an earlier one that is: nothing
module _ (set : ℕ → Bool) (a l : List Step) (s : Step) (rising : IsRising (a ++ s ∷ l)) (closed : IsClosed (a ++ s ∷ l) set) (member : set s.id ≡ true) where
  outsider : (t : Step) → IsIn t (without l set) → IsIn t l × (set t.id ≡ false)
  outsider t i = let k = filter-IsIn (λ x. not (set x.id)) t l i in (k.0, not-true (set t.id) k.1)

  in_all : (t : Step) → IsIn t l → IsIn t (a ++ s ∷ l)
  in_all t i = IsIn-append_right t a (s ∷ l) (inr i)

  independent : (t u : Step) → IsIn t (without l set) → IsIn u (a ++ s ∷ l) → set u.id ≡ true → depends_on (a ++ s ∷ l) t u ≡ false
  independent t u i j m = grind (arith, outsider, false_from_ne_true, false≢true, in_all)

  s_in : IsIn s (a ++ s ∷ l)
  s_in = IsIn-append_right s a (s ∷ l) (inl refl)

  later : (t : Step) → IsIn t l → s.id < t.id
  later t i = at_member (λ u. s.id < u.id) l t (IsRising-append_right a (s ∷ l) rising).0 i

  -- the outsider is of another role, and isn't matched with s
  no_link : (t : Step) → IsIn t (without l set) → (s.role == t.role || is_matched (a ++ s ∷ l) s t) ≡ false
  no_link t i = cc (independent t s i s_in member, lt-ltb s.id t.id (later t (outsider t i).0))

  other_role : (t : Step) → IsIn t (without l set) → s.role ≢ t.role
  other_role t i e = eqb-false s.role t.role (or_parts (s.role == t.role) (is_matched (a ++ s ∷ l) s t) (no_link t i)).0 e

  -- the receipts of an outsider's role between s and it are none of the set
  kept_receipts : (t : Step) → IsIn t (without l set) → (p : ℕ) → received_before p t.role t.id (without l set) ≡ received_before p t.role t.id l
  kept_receipts t i p = grind (arith, filter-filter, from_members, and_parts, not_from_false, false_from_ne_true, independent, in_all, and_from, or_left, false≢true)

  unequal : (v0 v : View) (t : Step) → IsIn t (without l set) → ((p q : ℕ) → v0.queue p q ≡ []) → replay v0 a ≡ Some v → sends s.role t.role s ≡ true → receives s.role t.role t ≡ true → length (v.queue s.role t.role) ≢ received_before s.role t.role t.id (without l set)
  unequal v0 v t i fresh ea y z same =
      let p = s.role in
      let q = t.role in
      let h = a ++ s ∷ l in
      let off = (or_parts (p == q) (is_matched h s t) (no_link t i)).1 in
      let tests : (sends p q s && receives p q t) ≡ true = and_from (sends p q s) (receives p q t) y z in
      let apart : (sent_before p q s.id h == received_before p q t.id h) ≡ false = sym (ap (λ (b : Bool). b && (sent_before p q s.id h == received_before p q t.id h)) tests) ∙ off in
      let ne = eqb-false (sent_before p q s.id h) (received_before p q t.id h) apart in
      let sent = sent_before_place a l s p q rising in
      let k = outsider t i in
      let got = received_before_place a (s ∷ l) t p q rising (inr k.0) in
      let here = length_filter_step (λ x. nat_lt x.id t.id && receives p q x) s l in
      let quiet : receives p q s ≡ false = and_left (s.role == q) _ (ne_eqb s.role q (other_role t i)) in
      grind (arith, one_if (nat_lt s.id t.id && receives p q s), and_right (nat_lt s.id t.id) false refl, kept_receipts t i p, queue_count v0 v a p q ea)

  pub passes : (v0 v : View) → ((p q : ℕ) → v0.queue p q ≡ []) → replay v0 a ≡ Some v → Passes v s (without l set)
  passes v0 v fresh ea =
      passes_from (without l set) v s (IsRising-filter (λ x. not (set x.id)) l (IsRising-append_right a (s ∷ l) rising).1)
      (λ t i. (other_role t i, λ y z. unequal v0 v t i fresh ea y z))

-- the steps of a closed set may all be taken last
pub taken_last : (set : ℕ → Bool) (l a : List Step) (v0 v w : View) → ((p q : ℕ) → v0.queue p q ≡ []) → replay v0 a ≡ Some v → replay v l ≡ Some w → IsRising (a ++ l) → IsClosed (a ++ l) set → replay v (without l set ++ within l set) ≡ Some w
taken_last set [] a v0 v w fresh ea el r c = el
taken_last set (s ∷ l) a v0 v w fresh ea el r c =
    let parts = replay_parts v w s l el in
    let ea' : replay v0 (a ++ s ∷ []) ≡ Some parts.0 = replay-append v0 v a (s ∷ []) ea ∙ replay_from v parts.0 s [] parts.1 in
    let assoc : (a ++ s ∷ []) ++ l ≡ a ++ s ∷ l = append_assoc a (s ∷ []) l in
    let r' : IsRising ((a ++ s ∷ []) ++ l) = subst IsRising (sym assoc) r in
    let c' : IsClosed ((a ++ s ∷ []) ++ l) set = subst (λ (h : List Step). IsClosed h set) (sym assoc) c in
    let rest = taken_last set l (a ++ s ∷ []) v0 parts.0 w fresh ea' parts.2 r' c' in
    ⊎_elim
    (λ (m : set s.id ≡ true).
    let front = replay_front parts.0 w (without l set) (within l set) rest in
    let moved = slide (without l set) v parts.0 front.0 s parts.1 front.1 (passes set a l s r c m v0 v fresh ea) in
    rw m (replay-append v moved.0 (without l set) (s ∷ within l set) moved.1 ∙ replay_from moved.0 front.0 s (within l set) moved.2 ∙ front.2))
    (λ (m : set s.id ≡ false). rw m (replay_from v parts.0 s (without l set ++ within l set) parts.1 ∙ rest))
    (cases_Bool (set s.id))

-- where a history has a replay, so has the history without a closed set, and the steps of the set lead on to the same view
pub left_out : (set : ℕ → Bool) (types : List LocalType) (h : List Step) (w : View) → IsRising h → IsClosed h set → replay (opening types) h ≡ Some w → (x : View) × (replay (opening types) (without h set) ≡ Some x) × (replay x (within h set) ≡ Some w)
left_out set types h w r c e =
    replay_front (opening types) w (without h set) (within h set)
    (taken_last set h [] (opening types) (opening types) w (λ p q. refl) refl e r c)
