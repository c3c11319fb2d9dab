-- Logs without commits.
use Rattle.std.proofs.Common.{◌≡◌, Bool, true, false, List, [], ◌∷◌, ◌++◌, refl, ap, ◌∙◌, ⊎_elim}
use Rattle.std.specs.List.{filter}
use Rattle.std.proofs.lemmas.Bool.{cases_Bool, cond-false}
use Rattle.mps_history.specs.Commits.{is_commit}
use Rattle.mps_history.specs.Steps.{numbers}
use Rattle.mps_arena.specs.KeyedSteps.{KeyedStep}
use Rattle.mps_links.specs.Marks.{marked_steps, marked_commits}
use Rattle.mps_log.specs.Private.Logged.{HasNoCommit}

-- a step joins that is no commit
pub no_commit_joins : (es : List KeyedStep) (e : KeyedStep) → is_commit e.step.act ≡ false → HasNoCommit es → HasNoCommit (es ++ e ∷ [])
no_commit_joins [] e other all = (other, tt)
no_commit_joins (x ∷ es) e other all = (all.0, no_commit_joins es e other all.1)

-- some steps go
pub no_commit_left : (p : KeyedStep → Bool) (es : List KeyedStep) → HasNoCommit es → HasNoCommit (filter p es)
no_commit_left p [] all = tt
no_commit_left p (x ∷ es) all =
    ⊎_elim
    (λ (t : p x ≡ true). rw t (all.0, no_commit_left p es all.1))
    (λ (f : p x ≡ false). rw f (no_commit_left p es all.1))
    (cases_Bool (p x))

-- no marked step is a commit
pub none_marked : (es : List KeyedStep) → HasNoCommit es → marked_commits es ≡ []
none_marked [] all = refl
none_marked (x ∷ es) all =
    ⊎_elim
    (λ (t : x.marked ≡ true). rw t (ap numbers (cond-false (is_commit x.step.act) (x.step ∷ filter (λ s. is_commit s.act) (marked_steps es)) (filter (λ s. is_commit s.act) (marked_steps es)) all.0) ∙ none_marked es all.1))
    (λ (f : x.marked ≡ false). rw f (none_marked es all.1))
    (cases_Bool x.marked)
