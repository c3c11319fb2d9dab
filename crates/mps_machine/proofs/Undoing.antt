-- What a sound state promises of steps that are undone.
use mathlib.Core.Path.{ap₂}
use Rattle.std.proofs.Common.{◌≡◌, ◌≢◌, ℕ, ◌+◌, ◌≤◌, ◌⊎◌, Bool, true, List, [], ◌∷◌, ◌++◌, min, not, Option, Some, None, Result, Ok, Err, refl, sym, ap, ◌∙◌, subst, arith, inl, inr, eq-eqb}
use Rattle.std.specs.Prelude.{◌==◌, unwrap_or}
use Rattle.std.specs.List.{filter}
use Rattle.std.specs.Option.{option_map}
use Rattle.std.proofs.lemmas.Bool.{cases_Bool, cases_lt, cond-true, cond-false, ne_eqb, not_from_false}
use Rattle.mps_base.specs.declared.action.Act.{Act}
use Rattle.mps_base.specs.declared.action.Act.TheVariants.{Commit}
use Rattle.mps_base.specs.declared.action.Step.{Step}
use Rattle.mps_command.specs.declared.answer.Done.{Done}
use Rattle.mps_command.specs.declared.answer.Refusal.{Refusal}
use Rattle.mps_command.specs.declared.answer.Refusal.TheVariants.{NoStep, NotYours, Final, Needed}
use Rattle.mps_history.specs.Steps.{IsIn, IsRising, numbers, step_of, within}
use Rattle.mps_history.specs.Commits.{is_commit, commits_from}
use Rattle.mps_history.specs.Dependence.{DependsOn, consequences, dependents, least}
use Rattle.mps_history.proofs.Commits.{commit_is, no_commit_is, is_no_commit}
use Rattle.mps_history.proofs.Order.{IsIn-append_right, IsIn-filter, filter-IsIn, step_of_found, step_of_member}
use Rattle.mps_history.proofs.Reaching.{DependsOn-earlier, consequences_all, consequences_only, consequences_self}
use Rattle.mps_history.proofs.Removal.{last_alone, without_last}
use Rattle.mps_local.specs.Local.{LocalType}
use Rattle.mps_machine.specs.Machine.{State, view_of, accepted, unless, done_by, forward, owner_fault, commit_fault, undone, undo, rolled_back, rollback, IsSound}
use Rattle.mps_machine.specs.Rule.{replay}
use Rattle.mps_machine.specs.Undoing.{IsNewest, UndoesSteps, IsOwn, IsLeastDependent, IsUnneeded, RefusesNeeded, IsCommitFrom, IsLeastCommit, IsOpen, RefusesFinal, RemovedFuture, RemovesFutures}
use Rattle.mps_machine.specs.View.{opening}
use Rattle.mps_machine.proofs.Sound.{view_is, forward_sound, least_none, no_member}

pub is_replayed : (types : List LocalType) (st : State) → IsSound types st → replay (opening types) st.history ≡ Some (view_of types st.history)
is_replayed types st ok = ok.replayed ∙ ap Some (sym (view_is types st ok))

-- what is told where that is wrong with the owner, and then that with a commit, and then that depends on the step
abbrev answered : State → ℕ → Option Refusal → Option Refusal → Option ℕ → Result (List ℕ) Refusal × State
answered st n fault final by = unless fault st (unless final st (unless (option_map Needed by) st (undone st n)))

pub undo_is : (st : State) (p n : ℕ) (fault final : Option Refusal) (by : Option ℕ) → owner_fault p (step_of st.history n) ≡ fault → commit_fault (step_of st.history n) ≡ final → least (dependents st.history n) ≡ by → undo st p n ≡ answered st n fault final by
undo_is st p n fault final by owner commit needed = grind (arith, owner)

-- an undo of one's own commit is refused for that, and nothing changes
pub undo_final : (st : State) (p n : ℕ) (final : Refusal) → owner_fault p (step_of st.history n) ≡ None → commit_fault (step_of st.history n) ≡ Some final → undo st p n ≡ (Err final, st)
undo_final st p n final owner commit = undo_is st p n None (Some final) (least (dependents st.history n)) owner commit refl

-- what is told of a rollback where that is wrong with the owner, and then that commit is the least that would go
abbrev rolled : State → ℕ → Option Refusal → Option ℕ → Result (List ℕ) Refusal × State
rolled st n fault by = unless fault st (unless (option_map Final by) st (rolled_back st n))

pub rollback_is : (st : State) (p n : ℕ) (fault : Option Refusal) (by : Option ℕ) → owner_fault p (step_of st.history n) ≡ fault → least (commits_from st.history n) ≡ by → rollback st p n ≡ rolled st n fault by
rollback_is st p n fault by owner commit = ap₂ (rolled st n) owner commit

-- a commit is named, and another step isn't in the way
pub commit_named : (s : Step) → s.act ≡ Commit → commit_fault (Some s) ≡ Some (Final s.id)
commit_named s e = cond-true (is_commit s.act) (Some (Final s.id)) None (ap is_commit e)

pub no_commit_named : (s : Step) → s.act ≢ Commit → commit_fault (Some s) ≡ None
no_commit_named s other = cond-false (is_commit s.act) (Some (Final s.id)) None (no_commit_is s.act other)

-- a new step is answered with the next number
pub forward_ok : (types : List LocalType) (st : State) (p : ℕ) (act : Act) (done : Done) → Ok done ≡ (forward types st p act).0 → forward types st p act ≡ (Ok (done_by types st p act), accepted st p act)
forward_ok types st p act done e = grind arith

module _ (st : State) (p : ℕ) (act : Act) (rising : IsRising (accepted st p act).history) where
  abbrev s : Step
  s = record { id = st.next; role = p; act = act }

  abbrev h : List Step
  h = st.history ++ s ∷ []

  found : step_of h st.next ≡ Some s
  found = step_of_member h s rising (IsIn-append_right s st.history (s ∷ []) (inl refl))

  owner : owner_fault p (step_of h st.next) ≡ None
  owner = grind (arith, found, cond-true, eq-eqb)

  pub newest : IsNewest st.history h st.next
  newest = grind (arith, last_alone, rising, cond-false, eq-eqb, without_last)

  -- the newest step can be undone, where it is no commit
  pub undo_newest : act ≢ Commit → undo (accepted st p act) p st.next ≡ (Ok (st.next ∷ []), record st { next = st.next + 1 })
  undo_newest other =
      undo_is (accepted st p act) p st.next None None None owner (ap commit_fault found ∙ no_commit_named s other) (ap least newest.alone)
      ∙ ap (λ (l : List Step). let r : Result (List ℕ) Refusal × State = (Ok (st.next ∷ []), record { history = l; next = st.next + 1 }) in r) newest.others

  -- and else it is named
  pub undo_commit : act ≡ Commit → undo (accepted st p act) p st.next ≡ (Err (Final st.next), accepted st p act)
  undo_commit e = undo_final (accepted st p act) p st.next (Final st.next) owner (ap commit_fault found ∙ commit_named s e)

-- where a step was taken, it was the newest
module _ (types : List LocalType) (st next : State) (p : ℕ) (act : Act) (done : Done) (sound : IsSound types st) (answer : Ok done ≡ (forward types st p act).0) (moved : next ≡ (forward types st p act).1) where
  is : forward types st p act ≡ (Ok (done_by types st p act), accepted st p act)
  is = forward_ok types st p act done answer

  rising : IsRising (accepted st p act).history
  rising = subst (λ (r : Result Done Refusal × State). IsRising r.1.history) is (forward_sound types st p act sound).rising

  next_is : next ≡ accepted st p act
  next_is = moved ∙ ap (λ (r : Result Done Refusal × State). r.1) is

  number : done.id ≡ st.next
  number = cc (is)

  pub is_newest : IsNewest st.history next.history done.id
  is_newest = rw (next_is, number) (newest st p act rising)

  pub newest_undone : act ≢ Commit → undo next p done.id ≡ (Ok (done.id ∷ []), record st { next = st.next + 1 })
  newest_undone other = rw (next_is, number) (undo_newest st p act rising other)

  pub stays_final : act ≡ Commit → undo next p done.id ≡ (Err (Final done.id), next)
  stays_final e = rw (next_is, number) (undo_commit st p act rising e)

pub undoes_steps : (types : List LocalType) (st : State) → IsSound types st → UndoesSteps types st
undoes_steps types st ok = record {
  newest = λ p act done e. is_newest types st (forward types st p act).1 p act done ok (sym e) refl;
  undone = λ p act done other e. newest_undone types st (forward types st p act).1 p act done ok (sym e) refl other;
  final = λ p done e. stays_final types st (forward types st p Commit).1 p Commit done ok (sym e) refl refl;
}

-- the step has the number m, which no step of the list is below
abbrev IsLeastNumber : List Step → ℕ → Step → Type 0
IsLeastNumber l m t = IsIn t l × (t.id ≡ m) × ((u : Step) → IsIn u l → m ≤ u.id)

-- a step before others, none of which or one of which has the least of their numbers
least_alone : (x : Step) (l : List Step) (m : ℕ) → least (numbers l) ≡ None → x.id ≡ m → IsLeastNumber (x ∷ l) m x
least_alone x l m none same = grind (arith, no_member, least_none)

least_of_two : (x t : Step) (l : List Step) (k m : ℕ) → IsLeastNumber l k t → min x.id k ≡ m → (u : Step) × IsLeastNumber (x ∷ l) m u
least_of_two x t l k m rest same = grind (arith, cases_lt x.id k)

-- the least of some numbers is one of them
least_member : (l : List Step) (m : ℕ) → least (numbers l) ≡ Some m → (t : Step) × IsLeastNumber l m t
least_member [] m e = absurd cc
least_member (x ∷ l) m e = by_rest (least (numbers l)) refl (least_member l)
  where
    first_is : (o : Option ℕ) → least (numbers l) ≡ o → min x.id (unwrap_or o x.id) ≡ m
    first_is o r = (cc)

    by_rest : (o : Option ℕ) → least (numbers l) ≡ o → ((k : ℕ) → least (numbers l) ≡ Some k → (t : Step) × IsLeastNumber l k t) → (t : Step) × IsLeastNumber (x ∷ l) m t
    by_rest None r rest = let same = first_is None r in (x, least_alone x l m r (omega arith))
    by_rest (Some k) r rest = let t = rest k r in least_of_two x t.0 l k m t.1 (first_is (Some k) r)

own_commit : (h : List Step) (p n : ℕ) (s : Step) → IsRising h → IsOwn h p n s → s.act ≡ Commit → commit_fault (step_of h n) ≡ Some (Final n)
own_commit h p n s rising own e = grind (arith, rising, step_of_member, commit_named)

own_no_commit : (h : List Step) (p n : ℕ) (s : Step) → IsRising h → IsOwn h p n s → s.act ≢ Commit → commit_fault (step_of h n) ≡ None
own_no_commit h p n s rising own other = grind (arith, rising, step_of_member, no_commit_named)

-- what stands in the way of an undo of one's own step as a commit is that step
commit_found : (h : List Step) (p n : ℕ) (s : Step) (final : Option Refusal) → IsRising h → IsOwn h p n s → commit_fault (step_of h n) ≡ final → ((s.act ≡ Commit) × (final ≡ Some (Final n))) ⊎ ((s.act ≢ Commit) × (final ≡ None))
commit_found h p n s final rising own e = grind (arith, is, commit_is, rising, step_of_member, commit_named, is_no_commit, no_commit_named, cases_Bool)

-- a step is one's own exactly where nothing is wrong with its owner
pub own_allowed : (h : List Step) (p n : ℕ) (s : Step) → IsRising h → IsOwn h p n s → owner_fault p (step_of h n) ≡ None
own_allowed h p n s rising own = grind (arith, step_of_member, rising, cond-true, eq-eqb)

allowed_own : (h : List Step) (p n : ℕ) → owner_fault p (step_of h n) ≡ None → (s : Step) × IsOwn h p n s
allowed_own h p n e = by_found (step_of h n) refl e
  where
    by_found : (o : Option Step) → step_of h n ≡ o → owner_fault p o ≡ None → (s : Step) × IsOwn h p n s
    by_found None f e = absurd cc
    by_found (Some s) f e = grind (arith, step_of_found h n s f, number, cases_Bool (s.role == p))

module _ (h : List Step) (rising : IsRising h) (p n : ℕ) (s : Step) (own : IsOwn h p n s) where
  abbrev gone : ℕ → Bool
  gone = consequences h n

  in_future : (t : Step) → IsIn t h → gone t.id ≡ true → (t ≡ s) ⊎ DependsOn h t s
  in_future t i e = consequences_only h s t rising own.survives i (subst (λ (m : ℕ). consequences h m t.id ≡ true) (sym own.number) e)

  future_in : (t : Step) → IsIn t h → (t ≡ s) ⊎ DependsOn h t s → gone t.id ≡ true
  future_in t i h2 = grind (arith, consequences_self, consequences_all, rising)

  -- the steps whose numbers are the dependents
  abbrev others : List Step
  others = filter (λ t. not (t.id == n)) (within h gone)

  other_in : (t : Step) → IsIn t h → DependsOn h t s → IsIn t others
  other_in t i d = grind (arith, DependsOn-earlier, IsIn-filter, future_in, not_from_false, ne_eqb)

  in_other : (t : Step) → IsIn t others → IsIn t h × DependsOn h t s
  in_other t i = grind (arith, filter-IsIn, eq-eqb, in_future)

  least_dependent : (by : ℕ) → least (dependents h n) ≡ Some by → (t : Step) × IsLeastDependent h s t × (t.id ≡ by)
  least_dependent by e =
      let k = least_member others by e in
      let there = in_other k.0 k.1.0 in
      (k.0, record { survives = there.0; depends = there.1; least = λ u i d. let less = k.1.2 u (other_in u i d) in omega (arith, k.1.1) }, k.1.1)

  some_dependent : (t : Step) → IsIn t h → DependsOn h t s → (by : ℕ) × (least (dependents h n) ≡ Some by)
  some_dependent t i d = by_least (least (dependents h n)) refl
    where
      by_least : (o : Option ℕ) → least (dependents h n) ≡ o → (by : ℕ) × (least (dependents h n) ≡ Some by)
      by_least None e = absurd (no_member others (least_none (dependents h n) e) t (other_in t i d))
      by_least (Some by) e = (by, e)

  none_dependent : IsUnneeded h s → least (dependents h n) ≡ None
  none_dependent free = grind (arith, least_member, filter-IsIn, eq-eqb, in_future, DependsOn-earlier, IsIn-filter, future_in, not_from_false, ne_eqb)

  -- the commits among the step and all that depend on it
  abbrev commits : List Step
  commits = filter (λ t. is_commit t.act) (within h gone)

  commit_in : (t : Step) → IsCommitFrom h s t → IsIn t commits
  commit_in t c = IsIn-filter (λ x. is_commit x.act) t (within h gone) (IsIn-filter (λ x. gone x.id) t h c.survives (future_in t c.survives c.rests)) (ap is_commit c.commit)

  in_commit : (t : Step) → IsIn t commits → IsCommitFrom h s t
  in_commit t i = grind (arith, filter-IsIn, commit_is, in_future)

  least_commit : (by : ℕ) → least (commits_from h n) ≡ Some by → (t : Step) × IsLeastCommit h s t × (t.id ≡ by)
  least_commit by e =
      let k = least_member commits by e in
      (k.0, record { commit = in_commit k.0 k.1.0; least = λ u c. let less = k.1.2 u (commit_in u c) in omega (arith, k.1.1) }, k.1.1)

  some_commit : (t : Step) → IsCommitFrom h s t → (by : ℕ) × (least (commits_from h n) ≡ Some by)
  some_commit t c = by_least (least (commits_from h n)) refl
    where
      by_least : (o : Option ℕ) → least (commits_from h n) ≡ o → (by : ℕ) × (least (commits_from h n) ≡ Some by)
      by_least None e = absurd (no_member commits (least_none (commits_from h n) e) t (commit_in t c))
      by_least (Some by) e = (by, e)

  no_commit : IsOpen h s → least (commits_from h n) ≡ None
  no_commit open_step = grind (arith, least_member, filter-IsIn, commit_is, in_future, IsIn-filter, future_in)

-- why an undo or a rollback is refused before its step is looked at
abbrev IsOfOwner : Option Refusal → Type 0
IsOfOwner fault = (refusal : Refusal) → fault ≡ Some refusal → (refusal ≡ NoStep) ⊎ (refusal ≡ NotYours)

not_of_owner : (fault : Option Refusal) (refusal other : Refusal) → IsOfOwner fault → fault ≡ Some refusal → refusal ≡ other → other ≢ NoStep → other ≢ NotYours → ⊥
not_of_owner fault refusal other kind e is one two = grind (arith, is)

-- where an undo is refused as needed, nothing was wrong with its owner, and it is refused so for its commit or its dependents
needed_is : (st : State) (n by : ℕ) (fault final : Option Refusal) (o : Option ℕ) → IsOfOwner fault → (answered st n fault final o).0 ≡ Err (Needed by) → (fault ≡ None) × ((final ≡ Some (Needed by)) ⊎ ((final ≡ None) × (o ≡ Some by)))
needed_is st n by fault final o kind e = grind (arith, is, not_of_owner)

-- where it is refused as final, it is for its commit
final_is : (st : State) (n by : ℕ) (fault final : Option Refusal) (o : Option ℕ) → IsOfOwner fault → (answered st n fault final o).0 ≡ Err (Final by) → (fault ≡ None) × (final ≡ Some (Final by))
final_is st n by fault final o kind e = grind (arith, is, not_of_owner)

-- a rollback is refused as final for the least commit that would go
rolled_is : (st : State) (n by : ℕ) (fault : Option Refusal) (o : Option ℕ) → IsOfOwner fault → (rolled st n fault o).0 ≡ Err (Final by) → (fault ≡ None) × (o ≡ Some by)
rolled_is st n by fault o kind e = grind (arith, is, not_of_owner)

-- and it is accepted where there is none
rolled_ok : (st : State) (n : ℕ) (ids : List ℕ) (fault : Option Refusal) (o : Option ℕ) → (rolled st n fault o).0 ≡ Ok ids → (fault ≡ None) × (o ≡ None)
rolled_ok st n ids fault o e = grind arith

owner_kind : (p : ℕ) (o : Option Step) → IsOfOwner (owner_fault p o)
owner_kind p o = grind (arith, cond-true, is, cond-false, cases_Bool)

pub refuses_needed : (types : List LocalType) (st : State) → IsSound types st → RefusesNeeded st
refuses_needed types st ok =
    let h = st.history in
    record {
      needed = λ p n s t own other i d.
          grind (arith, some_dependent h ok.rising p n s own t i d, own_allowed h p n s ok.rising own, own_no_commit h p n s ok.rising own other);
      named = λ p n by e.
          let k = needed_is st n by (owner_fault p (step_of h n)) (commit_fault (step_of h n)) (least (dependents h n)) (owner_kind p (step_of h n)) e in
          let mine = allowed_own h p n k.0 in
          let kept = stays mine.0 by p n k.1 mine.1 in
          grind (arith, least_dependent h ok.rising p n mine.0 mine.1 by kept.1);
      free = λ p n s own other none. undo_is st p n None None None (own_allowed h p n s ok.rising own) (own_no_commit h p n s ok.rising own other) (none_dependent h ok.rising p n s own none);
    }
  where
    -- what is needed is no commit
    stays : (s : Step) (by p n : ℕ) → ((commit_fault (step_of st.history n) ≡ Some (Needed by)) ⊎ ((commit_fault (step_of st.history n) ≡ None) × (least (dependents st.history n) ≡ Some by))) → IsOwn st.history p n s → (s.act ≢ Commit) × (least (dependents st.history n) ≡ Some by)
    stays s by p n (inl e) own = grind (arith, commit_found)
    stays s by p n (inr k) own = grind (arith, commit_found st.history p n s None ok.rising own k.0)

pub refuses_final : (types : List LocalType) (st : State) → IsSound types st → RefusesFinal st
refuses_final types st ok =
    let h = st.history in
    record {
      undo_refused = λ p n s own commit. undo_final st p n (Final n) (own_allowed h p n s ok.rising own) (own_commit h p n s ok.rising own commit);
      undo_named = λ p n by e.
          let k = final_is st n by (owner_fault p (step_of h n)) (commit_fault (step_of h n)) (least (dependents h n)) (owner_kind p (step_of h n)) e in
          let mine = allowed_own h p n k.0 in
          let commit = own_named mine.0 by p n mine.1 k.1 in
          (mine.0, mine.1, commit.0, commit.1);
      rollback_refused = λ p n s t own c.
          grind (arith, some_commit h ok.rising p n s own t c, own_allowed h p n s ok.rising own);
      rollback_named = λ p n by e.
          let k = rolled_is st n by (owner_fault p (step_of h n)) (least (commits_from h n)) (owner_kind p (step_of h n)) e in
          let mine = allowed_own h p n k.0 in
          grind (arith, least_commit h ok.rising p n mine.0 mine.1 by k.1);
    }
  where
    own_named : (s : Step) (by p n : ℕ) → IsOwn st.history p n s → commit_fault (step_of st.history n) ≡ Some (Final by) → (s.act ≡ Commit) × (n ≡ by)
    own_named s by p n own e = grind (arith, commit_found)

pub removes_futures : (types : List LocalType) (st : State) → IsSound types st → RemovesFutures st
removes_futures types st ok =
    let h = st.history in
    record {
      accepted = λ p n s own open_step.
          (_, ap (λ (r : Result (List ℕ) Refusal × State). r.0) (rollback_is st p n None None (own_allowed h p n s ok.rising own) (no_commit h ok.rising p n s own open_step)));
      exactly = λ p n ids e.
          let k = rolled_ok st n ids (owner_fault p (step_of h n)) (least (commits_from h n)) e in
          let mine = allowed_own h p n k.0 in
          let is = rollback_is st p n None None k.0 k.1 in
          subst (λ (r : Result (List ℕ) Refusal × State). RemovedFuture p n ids st r.1) (sym is)
          (took p n ids mine.0 mine.1 (sym e ∙ ap (λ (r : Result (List ℕ) Refusal × State). r.0) is));
    }
  where
    took : (p n : ℕ) (ids : List ℕ) (s : Step) → IsOwn st.history p n s → Ok ids ≡ (rolled_back st n).0 → RemovedFuture p n ids st (rolled_back st n).1
    took p n ids s own e = record {
      step = s;
      own = own;
      gone = consequences st.history n;
      exactly = λ t i. (in_future st.history ok.rising p n s own t i, future_in st.history ok.rising p n s own t i);
      left = refl;
      told = cc;
      next = refl;
    }
