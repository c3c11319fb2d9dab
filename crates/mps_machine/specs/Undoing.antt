-- What is promised of steps that are undone. A step may be undone only when its consequences are (Danos, Krivine,
-- CONCUR 2004). A commit is never undone, nor is what it depends on.
use Rattle.std.specs.Prelude.{◌≡◌, ◌≢◌, ◌↔◌, ◌⊎◌, ℕ, ◌+◌, ◌≤◌, ◌==◌, Bool, IsTrue, List, [], ◌∷◌, ◌++◌, reverse, Ok}
use Rattle.std.specs.Prelude.{Err, IsOk, not}
use Rattle.mps_base.specs.declared.action.Act.{Act}
use Rattle.mps_base.specs.declared.action.Act.TheVariants.{Mark, Commit}
use Rattle.mps_base.specs.declared.action.Step.{Step}
use Rattle.mps_local.specs.Local.{LocalType}
use Rattle.mps_history.specs.Steps.{IsIn, numbers, steps_of, within, without}
use Rattle.mps_history.specs.Dependence.{DependsOn, consequences, dependents}
use Rattle.mps_history.specs.Removals.{both_futures}
use Rattle.mps_command.specs.declared.answer.Done.{Done}
use Rattle.mps_command.specs.declared.answer.Refusal.TheVariants.{Final, Needed, NoMark, NoStep}
use Rattle.mps_machine.specs.Machine.{State, forward, undo, undone, rollback, back, Request, after}

-- no other step depends on step n, and without it the history is the old one
pub record IsNewest (old new : List Step) (n : ℕ) : Type 0 where
  pub alone : dependents new n ≡ []
  pub others : without new (λ m. m == n) ≡ old

-- what comes of a step that was just done and of its undo
pub record UndoesSteps (types : List LocalType) (st : State) : Type 0 where
  -- on a new step of any kind nothing depends
  pub newest : (p : ℕ) (act : Act) (done : Done) → (forward types st p act).0 ≡ Ok done
      → IsNewest st.history (forward types st p act).1.history done.id
  -- a step that is no commit and then its undo change nothing but the next number
  pub undone : (p : ℕ) (act : Act) (done : Done) → act ≢ Commit → (forward types st p act).0 ≡ Ok done
      → undo (forward types st p act).1 p done.id ≡ (Ok (done.id ∷ []), record st { next = st.next + 1 })
  -- an undo of a commit is refused, names the commit, and changes nothing
  pub final : (p : ℕ) (done : Done) → (forward types st p Commit).0 ≡ Ok done
      → undo (forward types st p Commit).1 p done.id ≡ (Err (Final done.id), (forward types st p Commit).1)

-- s survives, is role p's own and has number n
pub record IsOwn (h : List Step) (p n : ℕ) (s : Step) : Type 0 where
  pub survives : IsIn s h
  pub role : s.role ≡ p
  pub number : s.id ≡ n

-- t survives and depends on s, and no such step has a lesser number
pub record IsLeastDependent (h : List Step) (s t : Step) : Type 0 where
  pub survives : IsIn t h
  pub depends : DependsOn h t s
  pub least : (u : Step) → IsIn u h → DependsOn h u s → t.id ≤ u.id

-- no surviving step depends on s
abbrev pub IsUnneeded : List Step → Step → Type 0
IsUnneeded h s = (t : Step) → IsIn t h → ¬ DependsOn h t s

-- an undo is refused as needed exactly where another surviving step depends on the role's own surviving step, which is
-- no commit
pub record RefusesNeeded (st : State) : Type 0 where
  -- where one depends on it, the undo is refused so
  pub needed : (p n : ℕ) (s t : Step) → IsOwn st.history p n s → s.act ≢ Commit → IsIn t st.history
      → DependsOn st.history t s
      → (by : ℕ) × ((undo st p n).0 ≡ Err (Needed by))
  -- where it is refused so, one does, and the least of these is named
  pub named : (p n by : ℕ) → (undo st p n).0 ≡ Err (Needed by)
      → (s : Step) × (t : Step) × IsOwn st.history p n s × (s.act ≢ Commit) × IsLeastDependent st.history s t
      × (t.id ≡ by)
  -- where none does, the step is removed
  pub free : (p n : ℕ) (s : Step) → IsOwn st.history p n s → s.act ≢ Commit → IsUnneeded st.history s
      → undo st p n ≡ undone st n

-- t survives, is a commit, and is s or depends on s
pub record IsCommitFrom (h : List Step) (s t : Step) : Type 0 where
  pub survives : IsIn t h
  pub commit : t.act ≡ Commit
  pub rests : (t ≡ s) ⊎ DependsOn h t s

-- t is such a commit, and none has a lesser number
pub record IsLeastCommit (h : List Step) (s t : Step) : Type 0 where
  pub commit : IsCommitFrom h s t
  pub least : (u : Step) → IsCommitFrom h s u → t.id ≤ u.id

-- no surviving commit is s or depends on s
abbrev pub IsOpen : List Step → Step → Type 0
IsOpen h s = (t : Step) → ¬ IsCommitFrom h s t

-- an undo is refused as final exactly where the role's own surviving step is a commit, and a rollback exactly where
-- the step is one or a surviving commit depends on it
pub record RefusesFinal (st : State) : Type 0 where
  -- an undo of a commit is refused so, names the commit, and changes nothing
  pub undo_refused : (p n : ℕ) (s : Step) → IsOwn st.history p n s → s.act ≡ Commit → undo st p n ≡ (Err (Final n), st)
  -- where an undo is refused so, the step is a commit, and it is named
  pub undo_named : (p n by : ℕ) → (undo st p n).0 ≡ Err (Final by)
      → (s : Step) × IsOwn st.history p n s × (s.act ≡ Commit) × (n ≡ by)
  -- a rollback that a commit stands in the way of is refused so, and changes nothing
  pub rollback_refused : (p n : ℕ) (s t : Step) → IsOwn st.history p n s → IsCommitFrom st.history s t
      → (by : ℕ) × (rollback st p n ≡ (Err (Final by), st))
  -- where a rollback is refused so, one does, and the least of these is named
  pub rollback_named : (p n by : ℕ) → (rollback st p n).0 ≡ Err (Final by)
      → (s : Step) × (t : Step) × IsOwn st.history p n s × IsLeastCommit st.history s t × (t.id ≡ by)

-- role p's step n and all that depend on it are gone, and no other step; the others are left in order, and the numbers
-- of those that went are told, the newest first
pub record RemovedFuture (p n : ℕ) (ids : List ℕ) (old new : State) : Type 0 where
  pub step : Step
  pub own : IsOwn old.history p n step
  pub gone : ℕ → Bool
  pub exactly : (t : Step) → IsIn t old.history → (IsTrue (gone t.id) ↔ ((t ≡ step) ⊎ DependsOn old.history t step))
  pub left : new.history ≡ without old.history gone
  pub told : ids ≡ reverse (numbers (within old.history gone))
  pub next : new.next ≡ old.next

-- a rollback of a role's own surviving step is accepted where no commit stands in the way, and one that is accepted
-- removes its causal future
pub record RemovesFutures (st : State) : Type 0 where
  pub accepted : (p n : ℕ) (s : Step) → IsOwn st.history p n s → IsOpen st.history s
      → (ids : List ℕ) × ((rollback st p n).0 ≡ Ok ids)
  pub exactly : (p n : ℕ) (ids : List ℕ) → (rollback st p n).0 ≡ Ok ids → RemovedFuture p n ids st (rollback st p n).1

-- of two undos that are accepted, of p's step m and of q's step n, either may come first
pub record UndosCommute (st : State) : Type 0 where
  -- where the steps are different, the second is accepted after the first too
  pub accepted : (p q m n : ℕ) → IsOk (undo st p m).0 → IsOk (undo st q n).0 → m ≢ n
      → IsOk (undo (undo st p m).1 q n).0
  -- the same state is left in either order
  pub either_order : (p q m n : ℕ) → IsOk (undo st p m).0 → IsOk (undo st q n).0
      → (undo (undo st p m).1 q n).1 ≡ (undo (undo st q n).1 p m).1

-- of two rollbacks, of p's step m and of q's step n, either may come first
pub record RollbacksCommute (st : State) : Type 0 where
  -- where both are accepted, the same state is left in either order
  pub either_order : (p q m n : ℕ) → IsOk (rollback st p m).0 → IsOk (rollback st q n).0
      → (rollback (rollback st p m).1 q n).1 ≡ (rollback (rollback st q n).1 p m).1
  -- it has the steps that are neither m nor n and depend on neither, and the same next number
  pub both : (p q m n : ℕ) → IsOk (rollback st p m).0 → IsOk (rollback st q n).0
      → (rollback (rollback st p m).1 q n).1 ≡ record st { history = without st.history (both_futures st.history m n) }
  -- where n survives, its rollback is accepted after that of m exactly where it is before
  pub accepted : (p q m n : ℕ) → IsOk (rollback st p m).0 → IsTrue (not (consequences st.history m n))
      → (IsOk (rollback (rollback st p m).1 q n).0 ↔ IsOk (rollback st q n).0)
  -- where n is m or depends on it, it is gone, and nothing is left to do
  pub gone : (p q m n : ℕ) → IsOk (rollback st p m).0 → IsTrue (consequences st.history m n)
      → rollback (rollback st p m).1 q n ≡ (Err NoStep, (rollback st p m).1)

-- of role p's surviving steps this one is the last mark of the name, and those after it are these, in order
pub record IsLastMark (h : List Step) (p : ℕ) (name : List ℕ) (mark : Step) (behind : List Step) : Type 0 where
  pub before : List Step
  pub parts : steps_of p h ≡ before ++ mark ∷ behind
  pub marks : mark.act ≡ Mark name
  pub last : (t : Step) → IsIn t behind → t.act ≢ Mark name

-- a return to a mark is a rollback of the role's first step after its last mark of the name
pub record ReturnsToMarks (st : State) : Type 0 where
  -- it is refused as no mark exactly where no surviving step of the role marks the name
  pub refused : (p : ℕ) (name : List ℕ)
      → (((back st p name).0 ≡ Err NoMark) ↔ ((s : Step) → IsIn s st.history → s.role ≡ p → s.act ≢ Mark name))
  -- where a step comes first after the mark, it is the rollback of that step
  pub first : (p : ℕ) (name : List ℕ) (mark s : Step) (behind : List Step)
      → IsLastMark st.history p name mark (s ∷ behind)
      → back st p name ≡ rollback st p s.id
  -- where none does, nothing is undone
  pub nothing : (p : ℕ) (name : List ℕ) (mark : Step) → IsLastMark st.history p name mark []
      → back st p name ≡ (Ok [], st)

-- whatever is asked for later, a surviving commit is still there, and so is what it depends on
pub record KeepsCommits (types : List LocalType) (st : State) : Type 0 where
  pub commit : (requests : List Request) (c : Step) → IsIn c st.history → c.act ≡ Commit
      → IsIn c (after types st requests).history
  pub rests : (requests : List Request) (c t : Step) → IsIn c st.history → c.act ≡ Commit → IsIn t st.history
      → DependsOn st.history c t → IsIn t (after types st requests).history
