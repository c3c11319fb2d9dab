-- The laws, from the lemmas on steps.
use Rattle.std.proofs.Common.{◌≡◌, ◌≢◌, ℕ, ◌+◌, ◌<◌, ◌≤◌, true, false, List, [], ◌∷◌, ◌++◌, length, Some, refl, sym, ap, ◌∙◌, subst, arith, inl, inr, eq-eqb, length-append}
use Rattle.std.specs.Prelude.{◌==◌, ◌&&◌, nat_lt}
use Rattle.std.specs.List.{filter}
use Rattle.std.proofs.lemmas.Bool.{cases_order, cond-true, and_parts, and_from, ne_eqb, eqb-true, lt-ltb}
use Rattle.std.proofs.lemmas.List.Elements.{filter-append}
use Rattle.mps_base.specs.declared.action.Step.{Step}
use Rattle.mps_local.specs.Local.{LocalType}
use Rattle.mps_history.specs.Steps.{IsIn, IsRising, sends, receives, within, without}
use Rattle.mps_history.specs.Dependence.{sent_before, received_before, is_matched, depends_on, IsClosed}
use Rattle.mps_history.specs.Swaps.{is_matched_after}
use Rattle.mps_history.proofs.Order.{at_member, from_members, same_step, rising_apart, IsRising-append_right}
use Rattle.mps_history.proofs.Removal.{filter-none, filter-same}
use Rattle.mps_machine.specs.View.{View, opening}
use Rattle.mps_machine.specs.Rule.{rule, replay}
use Rattle.mps_machine.proofs.Stepping.{queue_count, a_send_gives, replay_parts, replay-append, replay_front}
use Rattle.mps_machine.proofs.Commuting.{Waits, commute}
use Rattle.mps_machine.proofs.Apart.{left_out, none_before, received_before_place}

-- where the sends and the receipts so far are not as many, something waits
pub unmatched_waits : (types : List LocalType) (a : List Step) (v : View) (s t : Step) → replay (opening types) a ≡ Some v → is_matched_after a s t ≡ false → Waits v s t
unmatched_waits types a v s t ea off y z =
    let p = s.role in
    let q = t.role in
    grind (arith, and_from (sends p q s) (receives p q t) y z, queue_count (opening types) v a p q ea, cases_order (length (v.queue p q)) 0)

pub exchanged : (types : List LocalType) (a b : List Step) (s t : Step) (w : View) → replay (opening types) (a ++ s ∷ t ∷ b) ≡ Some w → s.role ≢ t.role → is_matched_after a s t ≡ false → replay (opening types) (a ++ t ∷ s ∷ b) ≡ Some w
exchanged types a b s t w e ne off =
    let front = replay_front (opening types) w a (s ∷ t ∷ b) e in
    let first = replay_parts front.0 w s (t ∷ b) front.2 in
    let second = replay_parts first.0 w t b first.2 in
    grind (arith, commute front.0 first.0 second.0 s t first.1 second.1 ne (unmatched_waits types a front.0 s t front.1 off), replay-append (opening types) front.0 a (t ∷ s ∷ b) front.1)

-- one number is one step
pub within_one : (h : List Step) (s : Step) → IsRising h → IsIn s h → within h (λ m. m == s.id) ≡ s ∷ []
within_one [] s r i = absurd i
within_one (x ∷ h) s r (inl e) = grind (arith, cond-true, eq-eqb, filter-none, from_members, at_member, ne_eqb)
within_one (x ∷ h) s r (inr i) =
    let less = at_member (λ u. x.id < u.id) h s r.0 i in
    grind (arith, within_one h s r.1 i)

pub step_removed : (types : List LocalType) (h : List Step) (s : Step) (w : View) → IsRising h → IsIn s h → ((t : Step) → IsIn t h → depends_on h t s ≡ false) → replay (opening types) h ≡ Some w → (x : View) × (replay (opening types) (without h (λ m. m == s.id)) ≡ Some x) × (rule x s ≡ Some w)
step_removed types h s w r i none e =
    let closed : IsClosed h (λ m. m == s.id) = grind (arith, same_step, eqb-true) in
    let left = left_out (λ m. m == s.id) types h w r closed e in
    let last : replay left.0 (s ∷ []) ≡ Some w = subst (λ (l : List Step). replay left.0 l ≡ Some w) (within_one h s r i) left.2 in
    let parts = replay_parts left.0 w s [] last in
    (left.0, left.1, parts.1 ∙ parts.2)

-- a member stands between two parts
pub split_member : (h : List Step) (t : Step) → IsIn t h → (a : List Step) × (b : List Step) × (h ≡ a ++ t ∷ b)
split_member [] t i = absurd i
split_member (x ∷ h) t (inl e) = ([], h, ap (λ y. y ∷ h) (sym e))
split_member (x ∷ h) t (inr i) = let k = split_member h t i in (x ∷ k.0, k.1, ap (λ l. x ∷ l) k.2)

fewer_sent : (a b : List Step) (t s : Step) (p q : ℕ) → IsRising (a ++ t ∷ b) → t.id < s.id → length (filter (sends p q) a) ≤ sent_before p q s.id (a ++ t ∷ b)
fewer_sent a b t s p q r less =
    let f = λ (x : Step). nat_lt x.id s.id && sends p q x in
    let same : filter f a ≡ filter (sends p q) a = filter-same f (sends p q) a (from_members (λ x. f x ≡ sends p q x) a (λ x i. let below = rising_apart a (t ∷ b) x t r i (inl refl) in ap (λ k. k && sends p q x) (lt-ltb x.id s.id (omega arith)))) in
    grind (arith, filter-append, length-append)

later_than_send : (types : List LocalType) (a b : List Step) (s t : Step) (w : View) → IsRising (a ++ t ∷ b) → t.id < s.id → replay (opening types) (a ++ t ∷ b) ≡ Some w → is_matched (a ++ t ∷ b) s t ≡ true → ⊥
later_than_send types a b s t w r less e m =
    let p = s.role in
    let q = t.role in
    let h = a ++ t ∷ b in
    let tests = and_parts (sends p q s && receives p q t) (sent_before p q s.id h == received_before p q t.id h) m in
    let same = eqb-true (sent_before p q s.id h) (received_before p q t.id h) tests.1 in
    let z = (and_parts (sends p q s) (receives p q t) tests.0).1 in
    let front = replay_front (opening types) w a (t ∷ b) e in
    grind (arith, replay_parts front.0 w t b front.2, queue_count (opening types) front.0 a p q front.1, fewer_sent a b t s p q r less, received_before_place a (t ∷ b) t p q r (inl refl), none_before t b p q (IsRising-append_right a (t ∷ b) r))

pub matched_later : (types : List LocalType) (h : List Step) (s t : Step) (w : View) → IsRising h → IsIn s h → IsIn t h → replay (opening types) h ≡ Some w → is_matched h s t ≡ true → s.id < t.id
matched_later types h s t w r is it e m = grind (arith, same_step, and_parts, a_send_gives, split_member, later_than_send, cases_order)
