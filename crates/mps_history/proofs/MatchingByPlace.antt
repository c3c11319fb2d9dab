-- A pair of neighbours, by their numbers and by their places.
use Rattle.std.proofs.Common.{◌≡◌, ℕ, Bool, true, false, List, [], ◌∷◌, ◌++◌, refl, sym, ap, ◌∙◌, subst, arith, ⊎_elim, inl, append_assoc, append-nil}
use Rattle.std.specs.Prelude.{◌==◌, ◌&&◌, nat_lt}
use Rattle.std.specs.List.{filter}
use Rattle.std.proofs.lemmas.Bool.{cases_Bool, and_left, and_parts, and_right, lt-ltb, le-ltb, false≢true}
use Rattle.std.proofs.lemmas.List.Elements.{filter-append}
use Rattle.mps_base.specs.Effects.{Effect, effect}
use Rattle.mps_base.specs.declared.action.Step.{Step}
use Rattle.mps_history.specs.Steps.{IsRising, gives_to, takes_from, goes_to, comes_from, sends, receives}
use Rattle.mps_history.specs.Dependence.{is_matched}
use Rattle.mps_history.specs.Swaps.{is_matched_after}
use Rattle.mps_history.proofs.Order.{at_member, from_members, rising_apart, IsRising-append_right}
use Rattle.mps_history.proofs.Removal.{filter-none, filter-same}

-- the steps before a number are those before its place
pub before_place : (p : Step → Bool) (a l : List Step) (s : Step) → IsRising (a ++ s ∷ l) → filter (λ x. nat_lt x.id s.id && p x) (a ++ s ∷ l) ≡ filter p a
before_place p a l s r =
    let f = λ (x : Step). nat_lt x.id s.id && p x in
    let rest = IsRising-append_right a (s ∷ l) r in
    filter-append f a (s ∷ l)
    ∙ ap (λ k. filter f a ++ k) (grind (arith, filter-none, and_left, le-ltb, from_members, at_member))
    ∙ append-nil (filter f a)
    ∙ filter-same f p a (from_members (λ x. f x ≡ p x) a (λ x i. ap (λ k. k && p x) (lt-ltb x.id s.id (rising_apart a (s ∷ l) x s r i (inl refl)))))

-- what gives something takes nothing
gives_only : (p q : ℕ) (effect : Effect) → gives_to q effect ≡ true → takes_from p effect ≡ false
gives_only p q effect e = grind (arith, false≢true)

pub pairing : (a b : List Step) (s t : Step) → IsRising (a ++ s ∷ t ∷ b) → is_matched (a ++ s ∷ t ∷ b) s t ≡ is_matched_after a s t
pairing a b s t r =
    ⊎_elim
    (λ (y : sends s.role t.role s ≡ true).
    let quiet : receives s.role t.role s ≡ false = and_right (s.role == t.role) (comes_from s.role s.act) (gives_only s.role t.role (effect s.act) (and_parts (s.role == s.role) (goes_to t.role s.act) y).1) in
    let h = a ++ s ∷ t ∷ b in
    let split : (a ++ s ∷ []) ++ t ∷ b ≡ h = append_assoc a (s ∷ []) (t ∷ b) in
    cc (filter-none (receives s.role t.role) (s ∷ []) (quiet, tt), before_place (sends s.role t.role) a (t ∷ b) s r, before_place (receives s.role t.role) (a ++ s ∷ []) b t (subst IsRising (sym split) r), filter-append (receives s.role t.role) a (s ∷ []), append-nil (filter (receives s.role t.role) a)))
    (λ (n : sends s.role t.role s ≡ false). and_left _ _ (and_left (sends s.role t.role s) (receives s.role t.role t) n) ∙ sym (and_left _ _ (and_left (sends s.role t.role s) (receives s.role t.role t) n)))
    (cases_Bool (sends s.role t.role s))
