-- One step of the rule, and what it does to the queues.
use Rattle.std.proofs.Common.{◌≡◌, ℕ, ◌+◌, ◌<◌, Bool, true, false, List, [], ◌∷◌, ◌++◌, length, drop, cond, Option, Some, refl, ap, ◌∙◌, arith, length-append}
use Rattle.std.specs.Prelude.{option_and_then}
use Rattle.std.specs.Option.{option_map}
use Rattle.std.specs.List.{filter}
use Rattle.std.proofs.lemmas.Bool.{and_parts, eqb-true}
use Rattle.mps_base.specs.Effects.{Takes, effect}
use Rattle.mps_base.specs.declared.action.Act.{Act}
use Rattle.mps_base.specs.declared.action.Act.TheVariants.{In}
use Rattle.mps_base.specs.declared.action.Message.{Message}
use Rattle.mps_base.specs.declared.action.Step.{Step}
use Rattle.mps_local.specs.Local.{LocalType}
use Rattle.mps_history.specs.Steps.{sends, receives, given}
use Rattle.mps_machine.specs.View.{Participant, View}
use Rattle.mps_machine.specs.Rule.{first_of, moved, to_come_after, advanced, participant_after, view_after, rule, replay}

-- what `map` gives came from a value
pub map_some : {A B : Type 0} (f : A → B) (o : Option A) (y : B) → option_map f o ≡ Some y → (x : A) × (o ≡ Some x) × (f x ≡ y)
map_some f o y e = grind arith

pub and_then_some : {A B : Type 0} (f : A → Option B) (o : Option A) (y : B) → option_and_then f o ≡ Some y → (x : A) × (o ≡ Some x) × (f x ≡ Some y)
and_then_some f o y e = grind arith

-- the parts of an allowed step
pub rule_parts : (v w : View) (s : Step) → rule v s ≡ Some w → (c : Participant) × (participant_after (v.participant s.role) s.act (moved v s.role s.act) ≡ Some c) × (view_after v s c ≡ w)
rule_parts v w s e = map_some (view_after v s) (participant_after (v.participant s.role) s.act (moved v s.role s.act)) w e

pub rule_from : (v : View) (s : Step) (c : Participant) → participant_after (v.participant s.role) s.act (moved v s.role s.act) ≡ Some c → rule v s ≡ Some (view_after v s c)
rule_from v s c e = ap (option_map (view_after v s)) e

-- the parts of a replay
pub replay_parts : (v w : View) (s : Step) (h : List Step) → replay v (s ∷ h) ≡ Some w → (u : View) × (rule v s ≡ Some u) × (replay u h ≡ Some w)
replay_parts v w s h e = and_then_some (λ u. replay u h) (rule v s) w e

pub replay_from : (v u : View) (s : Step) (h : List Step) → rule v s ≡ Some u → replay v (s ∷ h) ≡ replay u h
replay_from v u s h e = ap (option_and_then (λ w. replay w h)) e

-- a replay of two lists is one after the other
pub replay-append : (v u : View) (a b : List Step) → replay v a ≡ Some u → replay v (a ++ b) ≡ replay u b
replay-append v u [] b e = ap (λ (w : View). replay w b) (let same : v ≡ u = cc in same)
replay-append v u (s ∷ a) b e =
    let p = replay_parts v u s a e in
    replay_from v p.0 s (a ++ b) p.1 ∙ replay-append p.0 u a b p.2

-- where two lists have a replay, so has the first
pub replay_front : (v w : View) (a b : List Step) → replay v (a ++ b) ≡ Some w → (u : View) × (replay v a ≡ Some u) × (replay u b ≡ Some w)
replay_front v w [] b e = (v, refl, e)
replay_front v w (s ∷ a) b e =
    let p = replay_parts v w s (a ++ b) e in
    grind (arith, replay_front p.0 w a b p.2, replay_from v p.0 s a p.1)

-- what is taken, where that is allowed, is there
takes_something : (t u : LocalType) (queue : List Message) (from : ℕ) (slot : Option (List ℕ)) → to_come_after t (Takes from slot) (first_of queue) ≡ Some u → 0 < length queue
takes_something t u queue from slot e = grind arith

-- the parts of an allowed act: the type to come, and the role with it
pub participant_parts : (c d : Participant) (act : Act) (m : Option Message) → participant_after c act m ≡ Some d → (u : LocalType) × (to_come_after c.to_come (effect act) m ≡ Some u) × (advanced c act m u ≡ d)
participant_parts c d act m e = map_some (advanced c act m) (to_come_after c.to_come (effect act) m) d e

-- a receipt that is allowed finds a message
pub a_receipt_finds : (c d : Participant) (queue : List Message) (from : ℕ) (slot : Option (List ℕ)) → participant_after c (In from slot) (first_of queue) ≡ Some d → 0 < length queue
a_receipt_finds c d queue from slot e = grind (arith, participant_parts, takes_something)

pub first_of-append : (xs ys : List Message) → 0 < length xs → first_of (xs ++ ys) ≡ first_of xs
first_of-append xs ys h = grind arith

-- whether a step counts
abbrev pub one_if : Bool → ℕ
one_if b = cond b 1 0

changed_length : (sent got : Bool) (new xs : List Message) → (sent ≡ true → (got ≡ false) × (length new ≡ 1)) → (got ≡ true → 0 < length xs) → length (cond sent (xs ++ new) (cond got (drop 1 xs) xs)) + one_if got ≡ length xs + one_if sent
changed_length sent got new xs h k = grind (arith, length-append)

-- a send gives one message and is no receipt
pub a_send_gives : (p q n r : ℕ) (act : Act) → let s : Step = record { id = n; role = r; act = act } in sends p q s ≡ true → (receives p q s ≡ false) × (length (given act) ≡ 1)
a_send_gives p q n r act e = grind arith

-- an allowed receipt finds a message in its queue
pub a_receipt_waits : (p q n r : ℕ) (act : Act) (v : View) (c d : Participant) → participant_after c act (moved v r act) ≡ Some d → let s : Step = record { id = n; role = r; act = act } in receives p q s ≡ true → 0 < length (v.queue p q)
a_receipt_waits p q n r act v c d e y = grind (arith, participant_parts, and_parts, takes_something, eqb-true)

-- what is taken by an allowed act waits
pub taken_there : (c d : Participant) (act : Act) (v : View) (r from : ℕ) (slot : Option (List ℕ)) → effect act ≡ Takes from slot → participant_after c act (moved v r act) ≡ Some d → 0 < length (v.queue from r)
taken_there c d act v r from slot is e = grind (arith, participant_parts, takes_something)

-- what one step does to the length of a queue
pub queue_step : (v w : View) (s : Step) (p q : ℕ) → rule v s ≡ Some w → length (w.queue p q) + one_if (receives p q s) ≡ length (v.queue p q) + one_if (sends p q s)
queue_step v w s p q e =
    let parts = rule_parts v w s e in
    grind (arith, changed_length, a_send_gives, a_receipt_waits)

-- a filter counts the first, and the others
pub length_filter_step : (f : Step → Bool) (s : Step) (h : List Step) → length (filter f (s ∷ h)) ≡ one_if (f s) + length (filter f h)
length_filter_step f s h = cond_length (f s)
  where
    cond_length : (b : Bool) → length (cond b (s ∷ filter f h) (filter f h)) ≡ one_if b + length (filter f h)
    cond_length true = omega arith
    cond_length false = omega arith

-- what was queued at first and sent since is what was received since and is queued now
pub queue_count : (v w : View) (h : List Step) (p q : ℕ) → replay v h ≡ Some w → length (w.queue p q) + length (filter (receives p q) h) ≡ length (v.queue p q) + length (filter (sends p q) h)
queue_count v w [] p q e = ap (λ (u : View). length (u.queue p q) + 0) (let same : w ≡ v = cc in same)
queue_count v w (s ∷ h) p q e =
    let parts = replay_parts v w s h e in
    grind (arith, queue_count parts.0 w h p q parts.2, queue_step v parts.0 s p q parts.1, length_filter_step (sends p q) s h, length_filter_step (receives p q) s h)
