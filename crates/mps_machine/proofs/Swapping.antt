-- Histories lead to one view just where swaps lead from one to the other.
use Rattle.std.proofs.Common.{◌≡◌, ◌≢◌, ℕ, ◌<◌, true, false, List, [], ◌∷◌, ◌++◌, length, Option, Some, refl, sym, ap, ◌∙◌, subst, arith, ⊎_elim, append_assoc, append-nil}
use Rattle.std.specs.Prelude.{◌==◌, option_and_then}
use Rattle.std.specs.List.{AllByRecursion}
use Rattle.std.proofs.lemmas.Bool.{cases_Bool, cond-true, and_left, ne_eqb, eqb-true, eqb-false, eq-eqb}
use Rattle.std.proofs.lemmas.List.{append_cancel_left}
use Rattle.mps_base.specs.declared.action.Act.{Act}
use Rattle.mps_base.specs.declared.action.Step.{Step}
use Rattle.mps_local.specs.Local.{LocalType}
use Rattle.mps_history.specs.Steps.{receives}
use Rattle.mps_history.specs.Swaps.{deeds, is_matched_after, Swaps, Same, Exchange}
use Rattle.mps_machine.specs.View.{Deed, View, opening}
use Rattle.mps_machine.specs.Rule.{moved, rule, replay}
use Rattle.mps_machine.proofs.Stepping.{rule_parts, replay_parts, replay_from, replay-append, queue_step, queue_count, one_if, participant_parts}
use Rattle.mps_machine.proofs.Lawful.{exchanged}

pub rule_same : (v : View) (s t : Step) → s.role ≡ t.role → s.act ≡ t.act → rule v s ≡ rule v t
rule_same v s t r a = grind arith

and_then_same : {A B : Type 0} (f g : A → Option B) (o : Option A) → ((x : A) → f x ≡ g x) → option_and_then f o ≡ option_and_then g o
and_then_same f g o same = grind arith

-- nor does replay
replay_same : (v : View) (k h : List Step) → deeds k ≡ deeds h → replay v k ≡ replay v h
replay_same v [] [] e = refl
replay_same v (s ∷ k) (t ∷ h) e =
    let first : ◌≡◌ {A = ℕ × Act} (s.role, s.act) (t.role, t.act) = cc in
    let rest : deeds k ≡ deeds h = cc in
    let r : s.role ≡ t.role = ap (λ x. x.0) first in
    let a : s.act ≡ t.act = ap (λ x. x.1) first in
    ap (option_and_then (λ w. replay w k)) (rule_same v s t r a)
    ∙ and_then_same (λ w. replay w k) (λ w. replay w h) (rule v t) (λ w. replay_same w k h rest)
replay_same v other others e = absurd cc

-- swaps keep the view
pub swaps_keep : (types : List LocalType) {k h : List Step} (v : View) → replay (opening types) k ≡ Some v → Swaps k h → replay (opening types) h ≡ Some v
swaps_keep types v e (Same k h same) = sym (replay_same (opening types) k h same) ∙ e
swaps_keep types v e (Exchange k h a b s t split ne off rest) =
    let e' : replay (opening types) (a ++ s ∷ t ∷ b) ≡ Some v = subst (λ (l : List Step). replay (opening types) l ≡ Some v) split e in
    swaps_keep types v (exchanged types a b s t v e' ne off) rest

pub swaps_lead_to_one_view : (types : List LocalType) (k h : List Step) (v w : View) → replay (opening types) k ≡ Some v → replay (opening types) h ≡ Some w → Swaps k h → v ≡ w
swaps_lead_to_one_view types k h v w ek eh swaps = let kept = swaps_keep types v ek swaps in cc

abbrev pub past_of : View → ℕ → List Deed
past_of v p = (v.participant p).past

-- what the step adds to the past of its role
abbrev pub deed_of : View → Step → Deed
deed_of v s = record { act = s.act; moved = moved v s.role s.act }

pub past_step : (v w : View) (s : Step) → rule v s ≡ Some w → past_of w s.role ≡ past_of v s.role ++ deed_of v s ∷ []
past_step v w s e = grind (arith, rule_parts, cond-true, eq-eqb, participant_parts)

pub past_stays : (v w : View) (s : Step) (p : ℕ) → rule v s ≡ Some w → (p == s.role) ≡ false → past_of w p ≡ past_of v p
past_stays v w s p e other = grind (arith, rule_parts v w s e)

-- a replay only adds to a past
past_added : (h : List Step) (v w : View) (p : ℕ) → replay v h ≡ Some w → (new : List Deed) × (past_of w p ≡ past_of v p ++ new)
past_added [] v w p e = grind (arith, append-nil)
past_added (s ∷ h) v w p e =
    let parts = replay_parts v w s h e in
    let rest = past_added h parts.0 w p parts.2 in
    grind (arith, eqb-true, past_step, append_assoc, past_stays, cases_Bool)

-- the deed of the first step is the first that is new to its role
first_deed : (v w : View) (s : Step) (h : List Step) → replay v (s ∷ h) ≡ Some w → (new : List Deed) × (past_of w s.role ≡ past_of v s.role ++ deed_of v s ∷ new)
first_deed v w s h e =
    let parts = replay_parts v w s h e in
    let rest = past_added h parts.0 w s.role parts.2 in
    (rest.0, rest.1 ∙ ap (λ (l : List Deed). l ++ rest.0) (past_step v parts.0 s parts.1) ∙ append_assoc (past_of v s.role) (deed_of v s ∷ []) rest.0)

not_longer : (past new : List Deed) (d : Deed) → past ≡ past ++ d ∷ new → ⊥
not_longer past new d e = let bad = append_cancel_left past [] (d ∷ new) (append-nil past ∙ e) in cc

-- where a replay adds a deed to the past of a role, the first step of that role did it
find_first : (h : List Step) (v w : View) (p : ℕ) (d : Deed) (new : List Deed) → replay v h ≡ Some w → past_of w p ≡ past_of v p ++ d ∷ new → (a : List Step) × (b : List Step) × (t : Step) × (h ≡ a ++ t ∷ b) × AllByRecursion (λ u. u.role ≢ p) a × (t.role ≡ p) × (t.act ≡ d.act)
find_first [] v w p d new e grown = grind (arith, not_longer)
find_first (s ∷ h) v w p d new e grown =
    let parts = replay_parts v w s h e in
    ⊎_elim
    (λ (y : (p == s.role) ≡ true).
    let r = eqb-true p s.role y in
    let first = first_deed v w s h e in
    let own = subst (λ (k : ℕ). past_of w k ≡ past_of v k ++ deed_of v s ∷ first.0) (sym r) first.1 in
    let tails = append_cancel_left (past_of v p) (deed_of v s ∷ first.0) (d ∷ new) (sym own ∙ grown) in
    let heads : deed_of v s ≡ d = cc in
    ([], h, s, refl, tt, sym r, ap (λ (x : Deed). x.act) heads))
    (λ (n : (p == s.role) ≡ false).
    let grown' = grown ∙ ap (λ (l : List Deed). l ++ d ∷ new) (sym (past_stays v parts.0 s p parts.1 n)) in
    let k = find_first h parts.0 w p d new parts.2 grown' in
    (s ∷ k.0, k.1, k.2, ap (λ (l : List Step). s ∷ l) k.3, ((λ (q : s.role ≡ p). eqb-false p s.role n (sym q)), k.4), k.5, k.6))
    (cases_Bool (p == s.role))

-- whatever the step may receive waits already
abbrev IsReady : View → Step → Type 0
IsReady v t = (p : ℕ) → receives p t.role t ≡ true → 0 < length (v.queue p t.role)

ready_step : (v w : View) (t : Step) → rule v t ≡ Some w → IsReady v t
ready_step v w t e p y = grind (arith, rule_parts v w t e)

-- and waits still after a step of another role
ready_later : (v w : View) (u t : Step) → rule v u ≡ Some w → u.role ≢ t.role → IsReady v t → IsReady w t
ready_later v w u t e ne ready p y = grind (arith, queue_step, and_left, ne_eqb, one_if)

-- so no step in between sent it
unmatched : (types : List LocalType) (a : List Step) (v : View) (u t : Step) → replay (opening types) a ≡ Some v → IsReady v t → is_matched_after a u t ≡ false
unmatched types a v u t ea ready =
    let p = u.role in
    let q = t.role in
    grind (arith, queue_count (opening types) v a p q ea)

-- a step that is ready may be taken before steps of other roles, by exchanges
to_front : (types : List LocalType) (b a c : List Step) (t : Step) (v w : View) (h : List Step) → AllByRecursion (λ u. u.role ≢ t.role) b → replay (opening types) a ≡ Some v → replay v (b ++ t ∷ c) ≡ Some w → IsReady v t → (replay v (t ∷ (b ++ c)) ≡ Some w) × (Swaps (a ++ t ∷ (b ++ c)) h → Swaps (a ++ (b ++ t ∷ c)) h)
to_front types [] a c t v w h others ea e ready = (e, λ swaps. swaps)
to_front types (u ∷ b) a c t v w h others ea e ready =
    let parts = replay_parts v w u (b ++ t ∷ c) e in
    let v1 = parts.0 in
    let ea' : replay (opening types) (a ++ u ∷ []) ≡ Some v1 = replay-append (opening types) v a (u ∷ []) ea ∙ replay_from v v1 u [] parts.1 in
    let rest = to_front types b (a ++ u ∷ []) c t v1 w h others.1 ea' parts.2 (ready_later v v1 u t parts.1 others.0 ready) in
    let off = unmatched types a v u t ea ready in
    let whole : replay (opening types) (a ++ u ∷ t ∷ (b ++ c)) ≡ Some w = replay-append (opening types) v a (u ∷ t ∷ (b ++ c)) ea ∙ replay_from v v1 u (t ∷ (b ++ c)) parts.1 ∙ rest.0 in
    let new = exchanged types a (b ++ c) u t w whole others.0 off in (
      sym (replay-append (opening types) v a (t ∷ u ∷ (b ++ c)) ea) ∙ new,
      λ swaps.
          subst (λ (l : List Step). Swaps l h) (append_assoc a (u ∷ []) (b ++ t ∷ c))
          (rest.1
          (subst (λ (l : List Step). Swaps l h) (sym (append_assoc a (u ∷ []) (t ∷ (b ++ c))))
          (Exchange (a ++ u ∷ t ∷ (b ++ c)) h a (b ++ c) u t refl others.0 off swaps))),
    )

pub deeds-append : (a b : List Step) → deeds (a ++ b) ≡ deeds a ++ deeds b
deeds-append [] b = refl
deeds-append (s ∷ a) b = ap (λ (l : List (ℕ × Act)). (s.role, s.act) ∷ l) (deeds-append a b)

deeds_joined : (a b k h : List Step) → deeds a ≡ deeds b → deeds k ≡ deeds h → deeds (a ++ k) ≡ deeds (b ++ h)
deeds_joined a b k h e f = deeds-append a k ∙ ap (λ (l : List (ℕ × Act)). l ++ deeds k) e ∙ ap (λ (l : List (ℕ × Act)). deeds b ++ l) f ∙ sym (deeds-append b h)

one_deed : (s t : Step) → s.role ≡ t.role → s.act ≡ t.act → deeds (s ∷ []) ≡ deeds (t ∷ [])
one_deed s t r a = cc

-- histories of equal pasts are joined by swaps: from the front, the next step of the one is brought to the front of the other
bring : (types : List LocalType) (h k ak ah : List Step) (v wk wh : View) → replay (opening types) ak ≡ Some v → replay v k ≡ Some wk → replay v h ≡ Some wh → ((p : ℕ) → past_of wk p ≡ past_of wh p) → deeds ak ≡ deeds ah → Swaps (ak ++ k) (ah ++ h)
bring types [] [] ak ah v wk wh ea ek eh same d = Same (ak ++ []) (ah ++ []) (deeds_joined ak ah [] [] d refl)
bring types [] (t ∷ k) ak ah v wk wh ea ek eh same d = grind (arith, first_deed, not_longer)
bring types (s ∷ h) k ak ah v wk wh ea ek eh same d =
    let first = first_deed v wh s h eh in
    let parts = replay_parts v wh s h eh in
    let x = parts.0 in
    let found = find_first k v wk s.role (deed_of v s) first.0 ek (same s.role ∙ first.1) in
    let b = found.0 in
    let c = found.1 in
    let t = found.2 in
    let et : rule v t ≡ Some x = rule_same v t s found.5 found.6 ∙ parts.1 in
    let ek' : replay v (b ++ t ∷ c) ≡ Some wk = subst (λ (l : List Step). replay v l ≡ Some wk) found.3 ek in
    let others = subst (λ (p : ℕ). AllByRecursion (λ u. u.role ≢ p) b) (sym found.5) found.4 in
    let front = to_front types b ak c t v wk (ah ++ s ∷ h) others ea ek' (ready_step v x t et) in
    let ea' : replay (opening types) (ak ++ t ∷ []) ≡ Some x = replay-append (opening types) v ak (t ∷ []) ea ∙ replay_from v x t [] et in
    let rest : replay x (b ++ c) ≡ Some wk = sym (replay_from v x t (b ++ c) et) ∙ front.0 in
    let d' = deeds_joined ak ah (t ∷ []) (s ∷ []) d (one_deed t s found.5 found.6) in
    grind (arith, bring types h (b ++ c) (ak ++ t ∷ []) (ah ++ s ∷ []) x wk wh ea' rest parts.2 same d', append_assoc ak (t ∷ []) (b ++ c), append_assoc ah (s ∷ []) h)

-- histories in which each role did the same are joined by swaps
pub one_past_by_swaps : (types : List LocalType) (k h : List Step) (v w : View) → replay (opening types) k ≡ Some v → replay (opening types) h ≡ Some w → ((p : ℕ) → past_of v p ≡ past_of w p) → Swaps k h
one_past_by_swaps types k h v w ek eh same = bring types h k [] [] (opening types) v w refl ek eh same refl

-- histories that lead to one view are
pub one_view_by_swaps : (types : List LocalType) (k h : List Step) (v w : View) → replay (opening types) k ≡ Some v → replay (opening types) h ≡ Some w → v ≡ w → Swaps k h
one_view_by_swaps types k h v w ek eh same = one_past_by_swaps types k h v w ek eh (λ p. ap (λ (u : View). past_of u p) same)

-- so they lead to one view
pub one_past_is_one_view : (types : List LocalType) (k h : List Step) (v w : View) → replay (opening types) k ≡ Some v → replay (opening types) h ≡ Some w → ((p : ℕ) → past_of v p ≡ past_of w p) → v ≡ w
one_past_is_one_view types k h v w ek eh same = swaps_lead_to_one_view types k h v w ek eh (one_past_by_swaps types k h v w ek eh same)
