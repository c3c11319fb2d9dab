-- What each role hears of, one entry later.
use Rattle.std.proofs.Common.{◌≡◌, ℕ, zero, suc, ◌<◌, ◌≤◌, Bool, true, false, List, [], ◌∷◌, ◌++◌, length, Option, Some, Result, refl, sym, ap, ◌∙◌, subst, arith, ⊎_elim}
use Rattle.std.specs.Prelude.{◌==◌, reverse}
use Rattle.std.specs.List.{list_any, find, AllByRecursion}
use Rattle.std.proofs.lemmas.Bool.{cases_Bool, eq-eqb, eqb-true, ne_eqb}
use Rattle.std.proofs.lemmas.List.{reverse-append}
use Rattle.mps_base.specs.declared.action.Act.{Act}
use Rattle.mps_base.specs.declared.action.Step.{Step}
use Rattle.mps_command.specs.Changes.{command_of}
use Rattle.mps_command.specs.declared.answer.Answer.TheVariants.{Done as Stepped, Undone}
use Rattle.mps_command.specs.declared.answer.Done.{Done}
use Rattle.mps_command.specs.declared.answer.Refusal.{Refusal}
use Rattle.mps_command.specs.declared.answer.Violation.{Violation}
use Rattle.mps_command.specs.declared.command.Change.{Change}
use Rattle.mps_command.specs.declared.command.Change.TheVariants.{Forward, Undo, Rollback, Back}
use Rattle.mps_history.specs.Steps.{numbers, step_of, steps_of, within}
use Rattle.mps_history.specs.Dependence.{consequences}
use Rattle.mps_history.proofs.Order.{AllByRecursion-filter}
use Rattle.mps_local.specs.Local.{LocalType}
use Rattle.mps_machine.specs.Machine.{State, unless, owner_fault, rolled_back, rolled_back_unless_final, final_fault, since_mark, back_to, stepped, removed, serve}
use Rattle.mps_room.specs.Journal.{undone_by}
use Rattle.mps_room.specs.Private.Heard.{hears, takes_others}
use Rattle.mps_room.specs.Private.Owners.{owns}
use Rattle.mps_room.proofs.Owning.{own_at, or_last, not_this, owns_more, step_served, none_stepped, none_removed}

-- ---- lists of which something holds

pub all_along : {A : Type 0} (P Q : A → Type 0) (xs : List A) → ((x : A) → P x → Q x) → AllByRecursion P xs → AllByRecursion Q xs
all_along P Q [] leads all = tt
all_along P Q (x ∷ xs) leads all = (leads x all.0, all_along P Q xs leads all.1)

pub all_push : {A : Type 0} (P : A → Type 0) (xs : List A) (x : A) → AllByRecursion P xs → P x → AllByRecursion P (xs ++ x ∷ [])
all_push P [] x all one = (one, tt)
all_push P (y ∷ xs) x all one = (all.0, all_push P xs x all.1 one)

all_reverse : {A : Type 0} (P : A → Type 0) (xs : List A) → AllByRecursion P xs → AllByRecursion P (reverse xs)
all_reverse P [] all = tt
all_reverse P (x ∷ xs) all = subst (λ l. AllByRecursion P l) (sym (reverse-append (x ∷ []) xs)) (all_push P (reverse xs) x (all_reverse P xs all.1) all.0)

all_numbers : (P : ℕ → Type 0) (h : List Step) → AllByRecursion (λ (s : Step). P s.id) h → AllByRecursion P (numbers h)
all_numbers P [] all = tt
all_numbers P (s ∷ h) all = (all.0, all_numbers P h all.1)

pub found : (P : Step → Type 0) (test : Step → Bool) (h : List Step) (s : Step) → find test h ≡ Some s → AllByRecursion P h → P s × (test s ≡ true)
found P test [] s e all = absurd cc
found P test (t ∷ h) s e all =
    ⊎_elim
    (λ (y : test t ≡ true). let same : t ≡ s = (let k : Some t ≡ Some s = rw y at e in cc) in (subst P same all.0, ap test (sym same) ∙ y))
    (λ (n : test t ≡ false). let k : find test h ≡ Some s = rw n at e in found P test h s k all.1)
    (cases_Bool (test t))

-- ---- owners

at_known : (owners : List ℕ) (p k : ℕ) → own_at owners p k ≡ true → k < length owners
at_known [] p k e = absurd cc
at_known (q ∷ owners) p zero e = omega arith
at_known (q ∷ owners) p (suc k) e = let h = at_known owners p k e in omega arith

pub owned_known : (owners : List ℕ) (p n : ℕ) → owns owners p n ≡ true → n ≤ length owners
owned_known owners p n e = grind (arith, at_known)

pub known_stays : (owners : List ℕ) (r p n : ℕ) → n ≤ length owners → owns (owners ++ r ∷ []) p n ≡ owns owners p n
known_stays owners r p n known = grind (arith, owns_more, or_last, ne_eqb, not_this)

pub own_stays : (owners : List ℕ) (r p n : ℕ) → owns owners p n ≡ true → owns (owners ++ r ∷ []) p n ≡ true
own_stays owners r p n own = known_stays owners r p n (owned_known owners p n own) ∙ own

pub last_own : (owners : List ℕ) (p n : ℕ) → n ≡ suc (length owners) → owns (owners ++ p ∷ []) p n ≡ true
last_own owners p n e = grind (arith, owns_more, or_last, eq-eqb)

none_owned : (owners : List ℕ) (p q : ℕ) (ids : List ℕ) → AllByRecursion (λ n. owns owners p n ≡ true) ids → (p == q) ≡ false → list_any (owns owners q) ids ≡ false
none_owned owners p q [] all ne = refl
none_owned owners p q (n ∷ ids) all ne = grind (arith, eqb-true, none_owned owners p q ids all.1 ne)

own_unheard : (owners : List ℕ) (p q : ℕ) (ids : List ℕ) → AllByRecursion (λ n. owns owners p n ≡ true) ids → hears (owns owners q) q p ids ≡ false
own_unheard owners p q ids all = grind (arith, none_owned)

-- ---- what a change takes back

-- refusals take nothing back
unless_ids : (P : ℕ → Type 0) (fault : Option Refusal) (st : State) (served : Result (List ℕ) Refusal × State) → AllByRecursion P (undone_by (removed served.0)) → AllByRecursion P (undone_by (removed (unless fault st served).0))
unless_ids P fault st served all = grind arith

module _ (owners : List ℕ) (st : State) (own : AllByRecursion (λ s. owns owners s.role s.id ≡ true) st.history) where
  abbrev IsOwned : Step → Type 0
  IsOwned s = owns owners s.role s.id ≡ true

  abbrev IsKnown : ℕ → Type 0
  IsKnown n = n ≤ length owners

  pub undo_own : (types : List LocalType) (p n : ℕ) → AllByRecursion (λ m. owns owners p m ≡ true) (undone_by (serve types st p (Undo n)).0)
  undo_own types p n = grind (arith, found, eqb-true, cases_Bool, unless_ids)

  known_steps : AllByRecursion (λ s. IsKnown s.id) st.history
  known_steps = all_along IsOwned (λ s. IsKnown s.id) st.history (λ s is. owned_known owners s.role s.id is) own

  taken_ids : (n : ℕ) → AllByRecursion IsKnown (undone_by (removed (rolled_back_unless_final st n).0))
  taken_ids n =
      let gone = consequences st.history n in
      unless_ids IsKnown (final_fault st.history n) st (rolled_back st n)
      (all_reverse IsKnown (numbers (within st.history gone)) (all_numbers IsKnown (within st.history gone) (AllByRecursion-filter (λ s. IsKnown s.id) (λ s. gone s.id) st.history known_steps)))

  back_ids : (later : Option (List Step)) → AllByRecursion IsKnown (undone_by (removed (back_to later st).0))
  back_ids later = grind (arith, taken_ids)

  pub serve_ids : (types : List LocalType) (p : ℕ) (change : Change) → AllByRecursion IsKnown (undone_by (serve types st p change).0)
  serve_ids types p (Forward step) = grind arith
  serve_ids types p (Undo n) = all_along (λ m. owns owners p m ≡ true) IsKnown _ (λ m is. owned_known owners p m is) (undo_own types p n)
  serve_ids types p (Rollback n) = unless_ids IsKnown (owner_fault p (step_of st.history n)) st (rolled_back_unless_final st n) (taken_ids n)
  serve_ids types p (Back name) = back_ids (since_mark name (steps_of p st.history))

  -- only a rollback and a return to a mark take back steps of others
  pub unheard : (types : List LocalType) (p q : ℕ) (change : Change) → takes_others (command_of change) ≡ false → hears (owns owners q) q p (undone_by (serve types st p change).0) ≡ false
  unheard types p q (Forward step) e = grind (arith, none_owned)
  unheard types p q (Undo n) e = own_unheard owners p q (undone_by (serve types st p (Undo n)).0) (undo_own types p n)
  unheard types p q other e = absurd cc

-- ---- what survives

-- what holds of each step holds of each that survives
module _ (P : Step → Type 0) (st : State) (all : AllByRecursion P st.history) where
  pub serve_history : (types : List LocalType) (p : ℕ) (change : Change) (ids : List ℕ) → Undone ids ≡ (serve types st p change).0 → AllByRecursion P (serve types st p change).1.history
  serve_history types p change ids e = grind (arith, none_removed, AllByRecursion-filter)

-- a step joins the end of the history
pub step_joined : (types : List LocalType) (st : State) (p : ℕ) (act : Act) (done : Done) (fault : Option Violation) (full : Bool) → Stepped done ≡ stepped (step_served types st p act done fault full).0 → (step_served types st p act done fault full).1.history ≡ st.history ++ record { id = st.next; role = p; act = act } ∷ []
step_joined types st p act done fault full e = grind arith

pub serve_joined : (types : List LocalType) (st : State) (p : ℕ) (change : Change) (done : Done) → Stepped done ≡ (serve types st p change).0 → (act : Act) × ((serve types st p change).1.history ≡ st.history ++ record { id = st.next; role = p; act = act } ∷ [])
serve_joined types st p change done e = grind (arith, step_joined, none_stepped)
