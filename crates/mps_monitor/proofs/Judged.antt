-- A verdict on one type that begins so is one on each.
use Rattle.std.proofs.Common.{◌≡◌, ℕ, Bool, true, false, cond, List, Option, None, Some, refl, sym, ap, ◌∙◌, subst}
use Rattle.std.specs.Prelude.{◌==◌, ◌&&◌, is_some, slice_get, Result, Ok, Err, IsSome, IfOk, OnOk, IfErr}
use Rattle.mps_base.specs.Effects.{Effect, Gives, Takes, Idle, effect}
use Rattle.mps_base.specs.Sorts.{fits}
use Rattle.mps_base.specs.declared.action.Act.{Act}
use Rattle.mps_base.specs.declared.action.Message.{Message}
use Rattle.mps_base.specs.declared.action.Message.TheVariants.{Value as Plain, Label}
use Rattle.mps_base.specs.declared.value.Sort.{Sort}
use Rattle.mps_base.specs.declared.value.Value.{Value}
use Rattle.mps_command.specs.declared.answer.Violation.{Violation}
use Rattle.mps_command.specs.declared.answer.Violation.TheVariants.{WrongPeer, WrongSort, NoLabel, Mismatch}
use Rattle.mps_local.specs.Actions.{Head, Ends, Sends, Receives, Chooses, Picks, Begins, branch_at, labels, nexts, continuation}
use Rattle.mps_local.specs.Local.{LocalType, Branches, End, Send, Recv, Select, Branch}
use Rattle.mps_machine.specs.Rule.{type_after_effect}
use Rattle.mps_machine.specs.Violations.{is_label_of, waiting_fault, effect_fault, act_fault}
use Rattle.mps_monitor.specs.Verdicts.{GoesOn, IsOffered}
use Rattle.mps_monitor.specs.Private.Verdicts.{labels_of, place_of_label, ending, one_of, Suits, IsVerdict}
use Rattle.mps_monitor.specs.declared.verdict.Advance.{Advance}
use Rattle.mps_monitor.specs.declared.verdict.Advance.TheVariants.{Stay, Next, Into}
use Rattle.mps_monitor.proofs.Labels.{LeadsTo, leads, same_labels}

-- a choice of these branches has the faults of one of their labels
same_choice : (peer : ℕ) (b : Branches) (does : Effect) (m : Option Message) → effect_fault (Select peer b) does m ≡ effect_fault (Select peer (ending (labels b))) does m
same_choice peer b (Gives to (Plain v)) m = refl
same_choice peer b (Gives to (Label l)) m =
    ap (λ (known : Bool). cond (to == peer) (cond known None (Some NoLabel)) (Some WrongPeer)) (same_labels b l)
same_choice peer b (Takes from slot) m = refl
same_choice peer b Idle m = refl

same_waiting : (b : Branches) (m : Option Message) → waiting_fault (is_label_of b) m ≡ waiting_fault (is_label_of (ending (labels b))) m
same_waiting b None = refl
same_waiting b (Some (Plain v)) = refl
same_waiting b (Some (Label l)) = ap (λ (known : Bool). cond known None (Some Mismatch)) (same_labels b l)

same_pick : (peer : ℕ) (b : Branches) (does : Effect) (m : Option Message) → effect_fault (Branch peer b) does m ≡ effect_fault (Branch peer (ending (labels b))) does m
same_pick peer b (Gives to x) m = refl
same_pick peer b (Takes from None) m =
    ap (λ (fault : Option Violation). cond (from == peer) fault (Some WrongPeer)) (same_waiting b m)
same_pick peer b (Takes from (Some slot)) m = refl
same_pick peer b Idle m = refl

same_send : (peer : ℕ) (sort : Sort) (t u : LocalType) (does : Effect) (m : Option Message) → effect_fault (Send peer sort t) does m ≡ effect_fault (Send peer sort u) does m
same_send peer sort t u (Gives to (Plain v)) m = refl
same_send peer sort t u (Gives to (Label l)) m = refl
same_send peer sort t u (Takes from slot) m = refl
same_send peer sort t u Idle m = refl

same_recv : (peer : ℕ) (sort : Sort) (t u : LocalType) (does : Effect) (m : Option Message) → effect_fault (Recv peer sort t) does m ≡ effect_fault (Recv peer sort u) does m
same_recv peer sort t u (Gives to x) m = refl
same_recv peer sort t u (Takes from None) m = refl
same_recv peer sort t u (Takes from (Some slot)) m = refl
same_recv peer sort t u Idle m = refl

-- each type that begins so has the same faults
same_fault : (h : Head) (t : LocalType) → Begins h t → (does : Effect) (m : Option Message) → effect_fault t does m ≡ effect_fault (one_of h) does m
same_fault Ends t e does m = ap (λ (x : LocalType). effect_fault x does m) e
same_fault (Sends peer sort) t e does m = ap (λ (x : LocalType). effect_fault x does m) e.1 ∙ same_send peer sort e.0 End does m
same_fault (Receives peer sort) t e does m = ap (λ (x : LocalType). effect_fault x does m) e.1 ∙ same_recv peer sort e.0 End does m
same_fault (Chooses peer names) t e does m =
    ap (λ (x : LocalType). effect_fault x does m) e.1 ∙ same_choice peer e.0 does m
    ∙ ap (λ (ns : List (List ℕ)). effect_fault (Select peer (ending ns)) does m) (sym e.2)
same_fault (Picks peer names) t e does m =
    ap (λ (x : LocalType). effect_fault x does m) e.1 ∙ same_pick peer e.0 does m
    ∙ ap (λ (ns : List (List ℕ)). effect_fault (Branch peer (ending ns)) does m) (sym e.2)

-- the effect gives or takes something, and moves its own message, if it has one
abbrev pub MovesOwn : Effect → Option Message → Type 0
MovesOwn (Gives to x) m = m ≡ Some x
MovesOwn (Takes from slot) m = Unit {0}
MovesOwn Idle m = ⊥

-- the act gives or takes something, and moves its own message, if it has one
abbrev pub Moves : Act → Option Message → Type 0
Moves act m = MovesOwn (effect act) m

two_true : (x y : Bool) (f g : Violation) → cond x (cond y None (Some f)) (Some g) ≡ None → (x ≡ true) × (y ≡ true)
two_true true true f g e = (refl, refl)
two_true true false f g e = absurd cc
two_true false y f g e = absurd cc

never : (x : Bool) (f g : Violation) → cond x (Some f) (Some g) ≡ None → ⊥
never true f g e = cc
never false f g e = cc

-- where the type goes on after an effect that moves this message
abbrev IsEffectLeft : LocalType → Effect → Option Message → Option ℕ → Type 0
IsEffectLeft t does m choice = (type_after_effect t does m ≡ continuation t choice) × IsSome (continuation t choice)

value_left : (t next : LocalType) (does : Effect) (m : Option Message) (x y : Bool) → type_after_effect t does m ≡ cond (x && y) (Some next) None → continuation t None ≡ Some next → (x ≡ true) × (y ≡ true) → IsEffectLeft t does m None
value_left t next does m true true e f p = (e ∙ sym f, ap is_some f)
value_left t next does m true false e f p = absurd (let k = p.1 in cc)
value_left t next does m false y e f p = absurd (let k = p.0 in cc)

-- after a value stands what is left
next_left : (h : Head) (t : LocalType) → Begins h t → (does : Effect) (v : Value) → MovesOwn does (Some (Plain v)) → effect_fault (one_of h) does (Some (Plain v)) ≡ None → IsEffectLeft t does (Some (Plain v)) None
next_left h t b Idle v o e = absurd o
next_left Ends t b (Gives to x) v o e = absurd cc
next_left Ends t b (Takes from slot) v o e = absurd cc
next_left (Sends peer sort) t b (Gives to (Plain w)) v o e =
    subst (λ (x : LocalType). IsEffectLeft x (Gives to (Plain w)) (Some (Plain v)) None) (sym b.1)
    (value_left (Send peer sort b.0) b.0 (Gives to (Plain w)) (Some (Plain v)) (to == peer) (fits w sort) refl refl (two_true (to == peer) (fits w sort) WrongSort WrongPeer e))
next_left (Sends peer sort) t b (Gives to (Label l)) v o e = absurd cc
next_left (Sends peer sort) t b (Takes from slot) v o e = absurd cc
next_left (Receives peer sort) t b (Gives to x) v o e = absurd cc
next_left (Receives peer sort) t b (Takes from None) v o e = absurd cc
next_left (Receives peer sort) t b (Takes from (Some slot)) v o e =
    subst (λ (x : LocalType). IsEffectLeft x (Takes from (Some slot)) (Some (Plain v)) None) (sym b.1)
    (value_left (Recv peer sort b.0) b.0 (Takes from (Some slot)) (Some (Plain v)) (from == peer) (fits v sort) refl refl (two_true (from == peer) (fits v sort) Mismatch WrongPeer e))
next_left (Chooses peer names) t b (Gives to (Plain w)) v o e = absurd cc
next_left (Chooses peer names) t b (Gives to (Label l)) v o e = absurd cc
next_left (Chooses peer names) t b (Takes from slot) v o e = absurd cc
next_left (Picks peer names) t b (Gives to x) v o e = absurd cc
next_left (Picks peer names) t b (Takes from (Some slot)) v o e = absurd cc
next_left (Picks peer names) t b (Takes from None) v o e = absurd (never (from == peer) Mismatch WrongPeer e)

branch_left : (t : LocalType) (b : Branches) (label : List ℕ) (does : Effect) (m : Option Message) (x : Bool) (k : ℕ) → type_after_effect t does m ≡ cond x (branch_at label b) None → continuation t (Some k) ≡ slice_get (nexts b) k → x ≡ true → LeadsTo b label k → IsEffectLeft t does m (Some k)
branch_left t b label does m true k e f p l = (e ∙ l.follows ∙ sym (f ∙ l.stands), ap is_some (f ∙ l.stands))
branch_left t b label does m false k e f p l = absurd cc

led : (names : List (List ℕ)) (b : Branches) (label : List ℕ) (k : ℕ) → names ≡ labels b → place_of_label names label ≡ Some k → LeadsTo b label k
led names b label k e f = leads b label k (ap (λ (ns : List (List ℕ)). place_of_label ns label) (sym e) ∙ f)

-- and after a label what stands at its place
into_left : (h : Head) (t : LocalType) → Begins h t → (does : Effect) (label : List ℕ) (k : ℕ) → MovesOwn does (Some (Label label)) → effect_fault (one_of h) does (Some (Label label)) ≡ None → place_of_label (labels_of h) label ≡ Some k → IsEffectLeft t does (Some (Label label)) (Some k)
into_left h t b Idle label k o e p = absurd o
into_left Ends t b does label k o e p = absurd cc
into_left (Sends peer sort) t b does label k o e p = absurd cc
into_left (Receives peer sort) t b does label k o e p = absurd cc
into_left (Chooses peer names) t b (Gives to (Plain w)) label k o e p = absurd cc
into_left (Chooses peer names) t b (Gives to (Label l)) label k o e p =
    let same : label ≡ l = cc in
    let to_peer = two_true (to == peer) (is_some (branch_at l (ending names))) NoLabel WrongPeer e in
    subst (λ (x : LocalType). IsEffectLeft x (Gives to (Label l)) (Some (Label label)) (Some k)) (sym b.1)
    (branch_left (Select peer b.0) b.0 l (Gives to (Label l)) (Some (Label label)) (to == peer) k refl refl to_peer.0
    (led names b.0 l k b.2 (subst (λ (x : List ℕ). place_of_label names x ≡ Some k) same p)))
into_left (Chooses peer names) t b (Takes from slot) label k o e p = absurd cc
into_left (Picks peer names) t b (Gives to x) label k o e p = absurd cc
into_left (Picks peer names) t b (Takes from (Some slot)) label k o e p = absurd cc
into_left (Picks peer names) t b (Takes from None) label k o e p =
    let from_peer = two_true (from == peer) (is_some (branch_at label (ending names))) Mismatch WrongPeer e in
    subst (λ (x : LocalType). IsEffectLeft x (Takes from None) (Some (Label label)) (Some k)) (sym b.1)
    (branch_left (Branch peer b.0) b.0 label (Takes from None) (Some (Label label)) (from == peer) k refl refl from_peer.0 (led names b.0 label k b.2 p))

-- what a verdict says of each type that begins so: the violation
pub violated : (h : Head) (act : Act) (m : Option Message) (r : Result Advance Violation) → IsVerdict h act m r → IfErr r (λ fault. (t : LocalType) → Begins h t → act_fault t act m ≡ Some fault)
violated h act m (Ok a) v = tt
violated h act m (Err fault) v = λ t b. same_fault h t b (effect act) m ∙ v

-- that there is none
pub allowed : (h : Head) (act : Act) (m : Option Message) (r : Result Advance Violation) → IsVerdict h act m r → OnOk r ((t : LocalType) → Begins h t → act_fault t act m ≡ None)
allowed h act m (Ok a) v = λ t b. same_fault h t b (effect act) m ∙ v.0
allowed h act m (Err fault) v = tt

goes : (h : Head) (act : Act) (m : Option Message) (a : Advance) → Moves act m → act_fault (one_of h) act m ≡ None → Suits h m a → (t : LocalType) → Begins h t → GoesOn a t act m
goes h act None a o e s t b = absurd s
goes h act (Some (Plain v)) Stay o e s t b = absurd s
goes h act (Some (Plain v)) Next o e s t b = next_left h t b (effect act) v o e
goes h act (Some (Plain v)) (Into k) o e s t b = absurd s
goes h act (Some (Label l)) Stay o e s t b = absurd s
goes h act (Some (Label l)) Next o e s t b = absurd s
goes h act (Some (Label l)) (Into k) o e s t b = into_left h t b (effect act) l k o e s

-- how it goes on
pub goes_on : (h : Head) (act : Act) (m : Option Message) (r : Result Advance Violation) → Moves act m → IsVerdict h act m r → IfOk r (λ a. (t : LocalType) → Begins h t → GoesOn a t act m)
goes_on h act m (Ok a) o v = goes h act m a o v.0 v.1
goes_on h act m (Err fault) o v = tt

-- that it does go on
pub moves_on : (h : Head) (act : Act) (m : Option Message) (r : Result Advance Violation) → IsVerdict h act m r → r ≡ Ok Stay → ⊥
moves_on h act None (Ok a) v e = v.1
moves_on h act (Some (Plain w)) (Ok Stay) v e = v.1
moves_on h act (Some (Plain w)) (Ok Next) v e = cc
moves_on h act (Some (Plain w)) (Ok (Into k)) v e = v.1
moves_on h act (Some (Label l)) (Ok Stay) v e = v.1
moves_on h act (Some (Label l)) (Ok Next) v e = v.1
moves_on h act (Some (Label l)) (Ok (Into k)) v e = cc
moves_on h act m (Err fault) v e = cc

-- where a value is expected, it goes into no branch
pub value_offered : (peer : ℕ) (sort : Sort) (act : Act) (m : Option Message) (r : Result Advance Violation) → IsVerdict (Receives peer sort) act m r → IfOk r (λ a. IsOffered a (Receives peer sort))
value_offered peer sort act m (Err fault) v = tt
value_offered peer sort act m (Ok Stay) v = tt
value_offered peer sort act m (Ok Next) v = tt
value_offered peer sort act None (Ok (Into k)) v = v.1
value_offered peer sort act (Some (Plain w)) (Ok (Into k)) v = v.1
value_offered peer sort act (Some (Label l)) (Ok (Into k)) v = let none = v.1 in absurd cc
