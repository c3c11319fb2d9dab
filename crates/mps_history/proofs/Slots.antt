-- What a slot is bound to after a binding, that a binding can be undone, and lists whose values are mapped.
use Rattle.std.proofs.Common.{arith, ◌≡◌, ℕ, true, false, List, [], ◌∷◌, Option, Some, refl, sym, ap, ◌∙◌, ⊎_elim}
use Rattle.std.specs.Prelude.{if◌then◌else◌}
use Rattle.std.specs.Str.{bytes_eq}
use Rattle.std.proofs.lemmas.Bool.{cases_Bool}
use Rattle.std.proofs.lemmas.Slice.Eq.{bytes_eq-Decides}
use Rattle.mps_history.specs.Slots.{bound, value_in, unbound}

pub same_slot : (a b : List ℕ) → bytes_eq a b ≡ true → a ≡ b
same_slot a b = (bytes_eq-Decides a b).0

pub slot_itself : (a : List ℕ) → bytes_eq a a ≡ true
slot_itself a = (bytes_eq-Decides a a).1 refl

module _ {A : Type 0} (slot : List ℕ) where
  -- what a slot is bound to, once that or another one is bound
  pub value_in-bound : (other : List ℕ) (v : A) (s : List (List ℕ × A)) → value_in slot (bound other v s) ≡ (if bytes_eq other slot then Some v else value_in slot s)
  value_in-bound other v [] = refl
  value_in-bound other v (entry ∷ s) =
      ⊎_elim
      (λ (t : bytes_eq entry.0 other ≡ true).
      grind (arith, same_slot entry.0 other t))
      (λ (f : bytes_eq entry.0 other ≡ false).
      ⊎_elim
      (λ (y : bytes_eq other slot ≡ true).
      let away : bytes_eq entry.0 slot ≡ false = ap (bytes_eq entry.0) (sym (same_slot other slot y)) ∙ f in
      let rest : value_in slot (bound other v s) ≡ Some v = value_in-bound other v s ∙ ap (λ b. if b then Some v else value_in slot s) y in
      rw (f, away, y) rest)
      (λ (n : bytes_eq other slot ≡ false).
      let rest : value_in slot (bound other v s) ≡ value_in slot s = value_in-bound other v s ∙ ap (λ b. if b then Some v else value_in slot s) n in
      rw (f, n) (ap (λ (o : Option A). if bytes_eq entry.0 slot then Some entry.1 else o) rest))
      (cases_Bool (bytes_eq other slot)))
      (cases_Bool (bytes_eq entry.0 other))

  -- a binding is undone by what the slot was bound to before
  pub unbound-bound : (v : A) (s : List (List ℕ × A)) → unbound slot (value_in slot s) (bound slot v s) ≡ s
  unbound-bound v [] = rw (slot_itself slot) refl
  unbound-bound v (entry ∷ s) =
      ⊎_elim
      (λ (t : bytes_eq entry.0 slot ≡ true). rw (t, slot_itself slot) (ap (λ (n : List ℕ). (n, entry.1) ∷ s) (sym (same_slot entry.0 slot t))))
      (λ (f : bytes_eq entry.0 slot ≡ false). rw (f, f) (ap (λ (l : List (List ℕ × A)). entry ∷ l) (unbound-bound v s)))
      (cases_Bool (bytes_eq entry.0 slot))
