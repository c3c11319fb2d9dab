-- Neighbours of different roles commute, unless the second receives what the first sends.
use Rattle.std.proofs.Common.{◌≡◌, ◌≢◌, ℕ, ◌<◌, true, List, length, cond, Option, Some, sym, ap, ◌∙◌, subst, arith}
use Rattle.std.specs.Prelude.{◌==◌}
use Rattle.std.proofs.lemmas.Bool.{cases_Bool, cond-true, cond-false, and_parts, and_from, and_left, ne_eqb, eqb-true, eq-eqb}
use mathlib.Core.Path.{fun_ext, ap₂}
use Rattle.mps_base.specs.Effects.{Effect, Takes, effect}
use Rattle.mps_base.specs.declared.action.Message.{Message}
use Rattle.mps_base.specs.declared.action.Step.{Step}
use Rattle.mps_history.specs.Steps.{takes_from, sends, receives}
use Rattle.mps_machine.specs.View.{Participant, View}
use Rattle.mps_machine.specs.Rule.{moved_by_effect, moved, participant_after, queue_after, view_after, rule}
use Rattle.mps_machine.proofs.Stepping.{rule_parts, rule_from, first_of-append, a_receipt_waits, taken_there}

-- t doesn't take what s sends: where s sends to t's role and t receives from it, something older waits
abbrev pub Waits : View → Step → Step → Type 0
Waits v s t = sends s.role t.role s ≡ true → receives s.role t.role t ≡ true → 0 < length (v.queue s.role t.role)

-- s leaves what another role's act moves: it appends after the first message, or it has to do with another queue
moved_stays : (v : View) (s : Step) (c : Participant) (r : ℕ) (does : Effect) → s.role ≢ r → ((from : ℕ) (slot : Option (List ℕ)) → does ≡ Takes from slot → sends from r s ≡ true → 0 < length (v.queue from r)) → moved_by_effect (view_after v s c) r does ≡ moved_by_effect v r does
moved_stays v s c r does ne waits = grind (arith, and_left, ne_eqb, cond-true, first_of-append, cond-false, cases_Bool)

-- the other roles stay as they are
other_role : (v : View) (s : Step) (c : Participant) (r : ℕ) → s.role ≢ r → (view_after v s c).participant r ≡ v.participant r
other_role v s c r ne = cond-false (r == s.role) c (v.participant r) (ne_eqb r s.role (λ e. ne (sym e)))

queues_commute : (v w : View) (s t : Step) (p q : ℕ) → rule v s ≡ Some w → s.role ≢ t.role → Waits v s t → queue_after p q t (queue_after p q s (v.queue p q)) ≡ queue_after p q s (queue_after p q t (v.queue p q))
queues_commute v w s t p q e ne waits = grind (arith, rule_parts, cases_Bool, a_receipt_waits, eqb-true, and_parts)

participants_commute : {A : Type 0} (m n k : ℕ) (c d x : A) → m ≢ n → cond (k == n) d (cond (k == m) c x) ≡ cond (k == m) c (cond (k == n) d x)
participants_commute m n k c d x ne = grind (arith, cases_Bool (k == n))

views_commute : (v w : View) (s t : Step) (c d : Participant) → rule v s ≡ Some w → s.role ≢ t.role → Waits v s t → view_after (view_after v s c) t d ≡ view_after (view_after v t d) s c
views_commute v w s t c d e ne waits =
    ap₂ (λ (f : ℕ → Participant) (g : ℕ → ℕ → List Message). let u : View = record { participant = f; queue = g } in u)
    (fun_ext (λ k. participants_commute s.role t.role k c d (v.participant k) ne))
    (fun_ext (λ p. fun_ext (λ q. queues_commute v w s t p q e ne waits)))

-- two steps in a row may be taken in the other order, and lead to the same view
pub commute : (v v1 w : View) (s t : Step) → rule v s ≡ Some v1 → rule v1 t ≡ Some w → s.role ≢ t.role → Waits v s t → (x : View) × (rule v t ≡ Some x) × (rule x s ≡ Some w)
commute v v1 w s t es et ne waits =
    let ps = rule_parts v v1 s es in
    let c = ps.0 in
    let et' : rule (view_after v s c) t ≡ Some w = subst (λ (u : View). rule u t ≡ Some w) (sym ps.2) et in
    let pt = rule_parts (view_after v s c) w t et' in
    let d = pt.0 in
    let same_moved : moved (view_after v s c) t.role t.act ≡ moved v t.role t.act =
    grind (arith, moved_stays, eqb-true, and_parts, and_from, eq-eqb) in
    let allowed_t : participant_after (v.participant t.role) t.act (moved v t.role t.act) ≡ Some d =
    subst (λ (m : Option Message). participant_after (v.participant t.role) t.act m ≡ Some d) same_moved
    (subst (λ (k : Participant). participant_after k t.act (moved (view_after v s c) t.role t.act) ≡ Some d) (other_role v s c t.role ne) pt.1) in
    let back : moved (view_after v t d) s.role s.act ≡ moved v s.role s.act =
    moved_stays v t d s.role (effect s.act) (λ f. ne (sym f))
    (λ from slot is y. taken_there (v.participant s.role) c s.act v s.role from slot is ps.1) in
    let allowed_s : participant_after ((view_after v t d).participant s.role) s.act (moved (view_after v t d) s.role s.act) ≡ Some c =
    subst (λ (m : Option Message). participant_after ((view_after v t d).participant s.role) s.act m ≡ Some c) (sym back)
    (subst (λ (k : Participant). participant_after k s.act (moved v s.role s.act) ≡ Some c) (sym (other_role v t d s.role (λ f. ne (sym f)))) ps.1) in
    (view_after v t d, rule_from v t d allowed_t, rule_from (view_after v t d) s c allowed_s ∙ ap Some (sym (views_commute v v1 s t c d es ne waits) ∙ pt.2))
  where
    receipt_from : (does : Effect) (from : ℕ) (slot : Option (List ℕ)) {k : ℕ} → does ≡ Takes from slot → from ≡ k → takes_from k does ≡ true
    receipt_from does from slot {k} is e = rw is (eq-eqb from k e)

-- what a role may do it still may after a step of another, with the same message
pub still_allowed : (v w x : View) (s t : Step) → rule v s ≡ Some w → rule v t ≡ Some x → s.role ≢ t.role → (y : View) × (rule w t ≡ Some y)
still_allowed v w x s t es et ne =
    let ps = rule_parts v w s es in
    let pt = rule_parts v x t et in
    let c = ps.0 in
    let d = pt.0 in
    let same_moved : moved (view_after v s c) t.role t.act ≡ moved v t.role t.act =
    moved_stays v s c t.role (effect t.act) ne
    (λ from slot is y. taken_there (v.participant t.role) d t.act v t.role from slot is pt.1) in
    let allowed_t : participant_after ((view_after v s c).participant t.role) t.act (moved (view_after v s c) t.role t.act) ≡ Some d =
    subst (λ (m : Option Message). participant_after ((view_after v s c).participant t.role) t.act m ≡ Some d) (sym same_moved)
    (subst (λ (k : Participant). participant_after k t.act (moved v t.role t.act) ≡ Some d) (sym (other_role v s c t.role ne)) pt.1) in
    (view_after (view_after v s c) t d, ap (λ (u : View). rule u t) (sym ps.2) ∙ rule_from (view_after v s c) t d allowed_t)

-- so both may come in either order, and lead to one view
pub square : (v w x : View) (s t : Step) → rule v s ≡ Some w → rule v t ≡ Some x → s.role ≢ t.role → (y : View) × (rule w t ≡ Some y) × (rule x s ≡ Some y)
square v w x s t es et ne =
    let pt = rule_parts v x t et in
    let after = still_allowed v w x s t es et ne in
    let other = commute v w after.0 s t es after.1 ne (λ y z. a_receipt_waits s.role t.role t.id t.role t.act v (v.participant t.role) pt.0 pt.1 z) in
    let same : other.0 ≡ x = cc (other.1, et) in
    (after.0, after.1, subst (λ (u : View). rule u s ≡ Some after.0) same other.2)
