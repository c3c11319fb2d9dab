-- Every state that requests lead to is sound.
use Rattle.std.proofs.Common.{◌≡◌, ℕ, ◌+◌, ◌<◌, Bool, List, [], ◌∷◌, ◌++◌, Option, None, Result, refl, ap, ◌∙◌, subst, arith}
use Rattle.std.specs.Prelude.{◌==◌, unwrap_or}
use Rattle.std.specs.List.{AllByRecursion}
use Rattle.std.specs.Option.{option_map}
use Rattle.std.proofs.lemmas.Bool.{cases_Bool, eqb-true, not_from_false}
use Rattle.mps_base.specs.declared.action.Act.{Act}
use Rattle.mps_base.specs.declared.action.Step.{Step}
use Rattle.mps_local.specs.Local.{LocalType}
use Rattle.mps_history.specs.Steps.{IsIn, IsRising, numbers, step_of, without}
use Rattle.mps_history.specs.Dependence.{IsClosed, least, dependents}
use Rattle.mps_history.proofs.Order.{at_member, from_members, IsIn-filter, IsRising-filter, IsRising-push, AllByRecursion-filter}
use Rattle.mps_history.proofs.Reaching.{consequences_closed, consequences_self}
use Rattle.mps_command.specs.declared.answer.Refusal.{Refusal}
use Rattle.mps_command.specs.declared.answer.Refusal.TheVariants.{Needed}
use Rattle.mps_machine.specs.View.{View, opening}
use Rattle.mps_machine.specs.Violations.{violation}
use Rattle.mps_command.specs.declared.command.Change.{Change}
use Rattle.mps_machine.specs.Machine.{State, initial, view_of, accepted, unless, forward, owner_fault, commit_fault, undone, undo, rollback, back_to, Request, serve, after, IsSound}
use Rattle.mps_machine.proofs.Stepping.{replay-append, replay_from}
use Rattle.mps_machine.proofs.Apart.{left_out}
use Rattle.mps_machine.proofs.Defined.{allowed_step}

pub initial_sound : (types : List LocalType) → IsSound types initial
initial_sound types = record { rising = tt; below = tt; view = opening types; replayed = refl }

-- the view of a sound state is what its replay gives
pub view_is : (types : List LocalType) (st : State) (ok : IsSound types st) → view_of types st.history ≡ ok.view
view_is types st ok = ap (λ o. unwrap_or o (opening types)) ok.replayed

all_below_next : (n : ℕ) (h : List Step) → AllByRecursion (λ s. s.id < n) h → AllByRecursion (λ s. s.id < n + 1) h
all_below_next n h a = from_members (λ s. s.id < n + 1) h (λ s i. let b = at_member (λ t. t.id < n) h s a i in omega arith)

all_push : (P : Step → Type 0) (h : List Step) (s : Step) → AllByRecursion P h → P s → AllByRecursion P (h ++ s ∷ [])
all_push P [] s a p = (p, tt)
all_push P (x ∷ h) s a p = (a.0, all_push P h s a.1 p)

pub accepted_sound : (types : List LocalType) (st : State) (p : ℕ) (act : Act) → IsSound types st → violation (view_of types st.history) p act ≡ None → IsSound types (accepted st p act)
accepted_sound types st p act ok fine =
    let s : Step = record { id = st.next; role = p; act = act } in
    let fine' : violation ok.view p act ≡ None = subst (λ (v : View). violation v p act ≡ None) (view_is types st ok) fine in
    let step = allowed_step ok.view s fine' in
    record {
      rising = IsRising-push st.history s ok.rising ok.below;
      below = all_push (λ t. t.id < st.next + 1) st.history s (all_below_next st.next st.history ok.below) (omega arith);
      view = step.0;
      replayed = replay-append (opening types) ok.view st.history (s ∷ []) ok.replayed ∙ replay_from ok.view step.0 s [] step.1;
    }

-- a state without a closed set of steps
pub without_sound : (types : List LocalType) (st : State) (set : ℕ → Bool) → IsSound types st → IsClosed st.history set → IsSound types (record st { history = without st.history set })
without_sound types st set ok closed =
    let left = left_out set types st.history ok.view ok.rising closed ok.replayed in
    grind (arith, IsRising-filter, AllByRecursion-filter)

-- a refusal changes nothing, so what follows is all that has to be sound
unless_sound : {A : Type 0} (types : List LocalType) (fault : Option Refusal) (st : State) (served : Result A Refusal × State) → IsSound types st → (fault ≡ None → IsSound types served.1) → IsSound types (unless fault st served).1
unless_sound types fault st served ok next = grind arith

pub none_under : {A B : Type 0} (f : A → B) (o : Option A) → option_map f o ≡ None → o ≡ None
none_under f o e = grind arith

pub forward_sound : (types : List LocalType) (st : State) (p : ℕ) (act : Act) → IsSound types st → IsSound types (forward types st p act).1
forward_sound types st p act ok = grind (arith, unless_sound, accepted_sound, none_under)

pub least_none : (ns : List ℕ) → least ns ≡ None → ns ≡ []
least_none [] e = refl
least_none (n ∷ ns) e = absurd cc

pub no_member : (h : List Step) → numbers h ≡ [] → (s : Step) → IsIn s h → ⊥
no_member [] e s i = i
no_member (x ∷ h) e s i = absurd cc

-- where no other step depends on step n, it alone is closed
pub alone_closed : (h : List Step) (n : ℕ) → IsRising h → dependents h n ≡ [] → IsClosed h (λ m. m == n)
alone_closed h n r none t s it is e d = grind (arith, eqb-true, consequences_self, consequences_closed, no_member, IsIn-filter, not_from_false, cases_Bool)

undo_sound : (types : List LocalType) (st : State) (p n : ℕ) → IsSound types st → IsSound types (undo st p n).1
undo_sound types st p n ok =
    let by = least (dependents st.history n) in
    let last = unless (option_map Needed by) st (undone st n) in
    unless_sound types (owner_fault p (step_of st.history n)) st (unless (commit_fault (step_of st.history n)) st last) ok
    (λ _. unless_sound types (commit_fault (step_of st.history n)) st last ok
    (grind (arith, unless_sound, without_sound, alone_closed, least_none, none_under)))

rollback_sound : (types : List LocalType) (st : State) (p n : ℕ) → IsSound types st → IsSound types (rollback st p n).1
rollback_sound types st p n ok = grind (arith, unless_sound, without_sound, consequences_closed)

back_sound : (types : List LocalType) (st : State) (found : Option (List Step)) → IsSound types st → IsSound types (back_to found st).1
back_sound types st found ok = grind (arith, unless_sound, without_sound, consequences_closed)

pub serve_sound : (types : List LocalType) (st : State) (p : ℕ) (command : Change) → IsSound types st → IsSound types (serve types st p command).1
serve_sound types st p command ok = grind (arith, forward_sound, undo_sound, rollback_sound, back_sound)

pub after_sound : (types : List LocalType) (st : State) (rs : List Request) → IsSound types st → IsSound types (after types st rs)
after_sound types st [] ok = ok
after_sound types st (r ∷ rs) ok = after_sound types (serve types st r.0 r.1).1 rs (serve_sound types st r.0 r.1 ok)
