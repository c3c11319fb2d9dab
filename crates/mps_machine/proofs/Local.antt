-- What a role may do depends on what it can tell of a view alone.
use Rattle.std.proofs.Common.{◌≡◌, ◌≢◌, ℕ, false, List, Option, Some, None, refl, sym, ap, ◌∙◌, arith}
use Rattle.std.specs.Option.{option_map}
use Rattle.std.specs.Prelude.{◌==◌, IsSome, is_some, is_none, ◌↔◌}
use Rattle.std.proofs.lemmas.Bool.{cases_Bool, cond-true, cond-false, and_left, ne_eqb, eqb-true, eq-eqb}
use Rattle.mps_base.specs.Effects.{Effect, effect}
use Rattle.mps_base.specs.declared.action.Act.{Act}
use Rattle.mps_base.specs.declared.action.Message.{Message}
use Rattle.mps_base.specs.declared.action.Step.{Step}
use Rattle.mps_command.specs.declared.answer.Refusal.TheVariants.{Violation as Violates}
use Rattle.mps_command.specs.declared.answer.Violation.{Violation}
use Rattle.mps_local.specs.Local.{LocalType}
use Rattle.mps_local.specs.Unfolding.{unfolded}
use Rattle.mps_history.specs.Steps.{sends}
use Rattle.mps_machine.specs.Alike.{LooksAlike}
use Rattle.mps_machine.specs.View.{View}
use Rattle.mps_machine.specs.Faults.{refusal_in}
use Rattle.mps_machine.specs.Machine.{State, view_of, forward, stepped}
use Rattle.mps_machine.specs.Rule.{moved_by_effect, moved, to_come_after, rule}
use Rattle.mps_machine.specs.Violations.{act_fault, violation}
use Rattle.mps_machine.proofs.Defined.{rule_defined}
use Rattle.mps_machine.proofs.Faults.{forward_refused, forward_allowed}
use Rattle.mps_machine.proofs.Stepping.{rule_parts, participant_parts}

-- the same message moves
moved_by_effect_alike : (v w : View) (p : ℕ) (does : Effect) → LooksAlike p v w → moved_by_effect v p does ≡ moved_by_effect w p does
moved_by_effect_alike v w p does alike = grind (arith, alike.waiting)

pub moved_alike : (v w : View) (p : ℕ) (act : Act) → LooksAlike p v w → moved v p act ≡ moved w p act
moved_alike v w p act alike = moved_by_effect_alike v w p (effect act) alike

-- so the same is wrong
pub violation_alike : (v w : View) (p : ℕ) (act : Act) → LooksAlike p v w → violation v p act ≡ violation w p act
violation_alike v w p act alike =
    ap (λ (t : LocalType). act_fault t act (moved v p act)) alike.place
    ∙ ap (λ (m : Option Message). act_fault (unfolded (w.participant p).to_come) act m) (moved_alike v w p act alike)

-- what is allowed in one is allowed in the other
allowed_there : (v w : View) (s : Step) → LooksAlike s.role v w → is_some (rule v s) ≡ is_some (rule w s)
allowed_there v w s alike = rule_defined v s ∙ ap is_none (violation_alike v w s.role s.act alike) ∙ sym (rule_defined w s)

pub allowed_alike : (v w : View) (s : Step) → LooksAlike s.role v w → IsSome (rule v s) ↔ IsSome (rule w s)
allowed_alike v w s alike = (λ e. sym (allowed_there v w s alike) ∙ e, λ e. allowed_there v w s alike ∙ e)

-- types at one place are at one place after an act
place_after : (t u t' u' : LocalType) (does : Effect) (m : Option Message) → unfolded t ≡ unfolded u → to_come_after t does m ≡ Some t' → to_come_after u does m ≡ Some u' → unfolded t' ≡ unfolded u'
place_after t u t' u' does m same et eu = grind arith

-- after an act of the role the views still look alike to it
pub alike_after : (v w x y : View) (s : Step) → LooksAlike s.role v w → rule v s ≡ Some x → rule w s ≡ Some y → LooksAlike s.role x y
alike_after v w x y s alike ex ey =
    let px = rule_parts v x s ex in
    let py = rule_parts w y s ey in
    let tx = participant_parts (v.participant s.role) px.0 s.act (moved v s.role s.act) px.1 in
    let ty = participant_parts (w.participant s.role) py.0 s.act (moved w s.role s.act) py.1 in
    record {
      place = grind (arith, place_after (v.participant s.role).to_come (w.participant s.role).to_come tx.0 ty.0 (effect s.act) (moved v s.role s.act) alike.place tx.1, moved_alike v w s.role s.act alike, cond-true, eq-eqb);
      waiting = λ q. grind (arith, alike.waiting q);
    }

-- a step of another role that gives nothing to p
pub alike_unseen : (v w : View) (s : Step) (p : ℕ) → rule v s ≡ Some w → s.role ≢ p → sends s.role p s ≡ false → LooksAlike p v w
alike_unseen v w s p e other none =
    let parts = rule_parts v w s e in
    record {
      place = grind (arith, cond-false, ne_eqb);
      waiting = λ q. grind (arith, cond-false, ne_eqb, and_left, cases_Bool (s.role == q), eqb-true);
    }

-- why a step is refused is why its act isn't allowed
fault_is : (types : List LocalType) (st : State) (p : ℕ) (act : Act) → refusal_in (stepped (forward types st p act).0) ≡ option_map Violates (violation (view_of types st.history) p act)
fault_is types st p act = by_violation (violation (view_of types st.history) p act) refl
  where
    by_violation : (found : Option Violation) → violation (view_of types st.history) p act ≡ found → refusal_in (stepped (forward types st p act).0) ≡ option_map Violates found
    by_violation None e = forward_allowed types st p act e
    by_violation (Some wrong) e = forward_refused types st p act wrong e

-- so the refusal is the same
pub answered_alike : (types others : List LocalType) (st other : State) (p : ℕ) (act : Act) → LooksAlike p (view_of types st.history) (view_of others other.history) → refusal_in (stepped (forward types st p act).0) ≡ refusal_in (stepped (forward others other p act).0)
answered_alike types others st other p act alike =
    fault_is types st p act
    ∙ ap (option_map Violates) (violation_alike (view_of types st.history) (view_of others other.history) p act alike)
    ∙ sym (fault_is others other p act)
