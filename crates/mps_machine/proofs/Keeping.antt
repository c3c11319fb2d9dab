-- Whatever is asked for, a commit stays, and so does what it depends on.
use Rattle.std.proofs.Common.{arith, ◌≡◌, ℕ, Bool, false, not, List, [], ◌∷◌, Option, None, Result}
use Rattle.std.specs.Prelude.{◌==◌}
use Rattle.std.specs.Option.{option_map}
use Rattle.std.proofs.lemmas.Bool.{not_from_false, false_from_ne_true}
use Rattle.mps_base.specs.declared.action.Act.{Act}
use Rattle.mps_base.specs.declared.action.Act.TheVariants.{Commit}
use Rattle.mps_base.specs.declared.action.Step.{Step}
use Rattle.mps_command.specs.declared.answer.Refusal.{Refusal}
use Rattle.mps_command.specs.declared.answer.Refusal.TheVariants.{Needed}
use Rattle.mps_command.specs.declared.command.Change.{Change}
use Rattle.mps_history.specs.Dependence.{DependsOn, IsClosed, consequences, dependents, least}
use Rattle.mps_history.specs.Steps.{IsIn, step_of, without}
use Rattle.mps_history.proofs.Commits.{DependsOn-join, DependsOn-without}
use Rattle.mps_history.proofs.Order.{at_member, IsIn-append_left, IsIn-filter, step_of_member}
use Rattle.mps_history.proofs.Reaching.{consequences_closed}
use Rattle.mps_local.specs.Local.{LocalType}
use Rattle.mps_machine.specs.Machine.{State, unless, forward, owner_fault, commit_fault, final_fault, undone, undo, rolled_back_unless_final, rollback, back_to, Request, serve, after, IsSound}
use Rattle.mps_machine.specs.Undoing.{KeepsCommits}
use Rattle.mps_machine.proofs.Sound.{none_under, least_none, no_member, alone_closed, serve_sound}
use Rattle.mps_machine.proofs.Undoing.{commit_named}

-- c is still there, and depends on what it depended on, which is there too
abbrev Keeps : List Step → List Step → Step → Type 0
Keeps h k c = IsIn c k × ((t : Step) → IsIn t h → DependsOn h c t → IsIn t k × DependsOn k c t)

module _ (types : List LocalType) (st : State) (ok : IsSound types st) (c : Step) (there : IsIn c st.history) (commit : c.act ≡ Commit) where
  abbrev h : List Step
  h = st.history

  all_kept : Keeps h h c
  all_kept = (there, λ t i d. (i, d))

  kept_unless : {A : Type 0} (fault : Option Refusal) (served : Result A Refusal × State) → (fault ≡ None → Keeps h served.1.history c) → Keeps h (unless fault st served).1.history c
  kept_unless fault served next = grind (arith, all_kept)

  forward_kept : (p : ℕ) (act : Act) → Keeps h (forward types st p act).1.history c
  forward_kept p act = grind (arith, kept_unless, at_member, IsIn-append_left, DependsOn-join)

  -- where a closed set goes that c isn't in
  without_kept : (set : ℕ → Bool) → IsClosed h set → set c.id ≡ false → Keeps h (without h set) c
  without_kept set closed stays =
      let in_rest : (t : Step) → IsIn t h → set t.id ≡ false → IsIn t (without h set) = λ t i f. IsIn-filter (λ x. not (set x.id)) t h i (not_from_false (set t.id) f) in (
        in_rest c there stays,
        λ t i d. let k = DependsOn-without h set closed there i stays d in (in_rest t i k.0, k.1),
      )

  -- no commit has the number of a step that an undo takes out
  pub other_number : (n : ℕ) → commit_fault (step_of h n) ≡ None → (c.id == n) ≡ false
  other_number n e = grind (arith, step_of_member h c ok.rising there, commit_named c commit)

  undo_kept : (p n : ℕ) → Keeps h (undo st p n).1.history c
  undo_kept p n =
      let by = least (dependents h n) in
      let last = unless (option_map Needed by) st (undone st n) in
      kept_unless (owner_fault p (step_of h n)) (unless (commit_fault (step_of h n)) st last)
      (λ _. kept_unless (commit_fault (step_of h n)) last
      (λ free. kept_unless (option_map Needed by) (undone st n)
      (λ e. without_kept (λ m. m == n) (alone_closed h n ok.rising (least_none (dependents h n) (none_under Needed by e))) (other_number n free))))

  -- no commit is among the steps that a rollback takes
  pub not_among : (n : ℕ) → final_fault h n ≡ None → consequences h n c.id ≡ false
  not_among n e = grind (arith, least_none, none_under, false_from_ne_true, no_member, IsIn-filter)

  rolled_back_kept : (n : ℕ) → Keeps h (rolled_back_unless_final st n).1.history c
  rolled_back_kept n = search (kept_unless, without_kept, consequences_closed, not_among, arith)

  rollback_kept : (p n : ℕ) → Keeps h (rollback st p n).1.history c
  rollback_kept p n = kept_unless (owner_fault p (step_of h n)) (rolled_back_unless_final st n) (λ _. rolled_back_kept n)

  back_kept : (found : Option (List Step)) → Keeps h (back_to found st).1.history c
  back_kept found = grind (arith, all_kept, rolled_back_kept)

  serve_recorded : (p : ℕ) (change : Change) → Keeps h (serve types st p change).1.history c
  serve_recorded p change = grind (arith, forward_kept, undo_kept, rollback_kept, back_kept)

after_kept : (types : List LocalType) (rs : List Request) (st : State) → IsSound types st → (c : Step) → IsIn c st.history → c.act ≡ Commit → Keeps st.history (after types st rs).history c
after_kept types [] st ok c there commit = all_kept types st ok c there commit
after_kept types (r ∷ rs) st ok c there commit =
    let next = (serve types st r.0 r.1).1 in
    let here = serve_recorded types st ok c there commit r.0 r.1 in
    grind (arith, after_kept types rs next (serve_sound types st r.0 r.1 ok) c here.0 commit)

pub keeps_commits : (types : List LocalType) (st : State) → IsSound types st → KeepsCommits types st
keeps_commits types st ok = record {
  commit = λ rs c there commit. (after_kept types rs st ok c there commit).0;
  rests = λ rs c t there commit i d. ((after_kept types rs st ok c there commit).1 t i d).0;
}
