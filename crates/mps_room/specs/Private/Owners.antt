-- Whose a step is, by its number.
use Rattle.std.specs.Prelude.{◌≡◌, ℕ, zero, suc, ◌+◌, ◌≤◌, Bool, true, false, ◌==◌, List, [], ◌∷◌, ◌++◌, length}
use Rattle.std.specs.Prelude.{slice_get, vec_len, vec_capacity}
use Rattle.std.specs.List.{AllByRecursion}
use Rattle.std.specs.Option.{option_map_or}
use Rattle.mps_base.specs.declared.action.Step.{Step}
use Rattle.mps_command.specs.declared.answer.Answer.{Answer}
use Rattle.mps_command.specs.declared.answer.Answer.TheVariants.{Done}
use Rattle.mps_command.specs.declared.command.Command.{Command}
use Rattle.mps_command.specs.declared.command.Command.TheVariants.{Forward}
use Rattle.mps_room.specs.Journal.{undone_by, is_own}
use Rattle.mps_room.specs.declared.entry.Entry.{Entry}
use Rattle.mps_room.specs.declared.steps.Steps.{Steps}

-- whether step n is role p's, by the owners of the steps in the order of their numbers
abbrev pub owns : (owners : List ℕ) → ℕ → ℕ → Bool
owns owners p zero = false
owns owners p (suc k) = option_map_or (λ owner. owner == p) (slice_get owners k) false

-- whether the command asks for a step, which gets an owner where it is accepted
abbrev pub is_step : Command → Bool
is_step (Forward step) = true
is_step command = false

-- the owners after an answer to role p; and so the places of the steps' entries, with that of the new entry
abbrev pub owners_after : (owners : List ℕ) → ℕ → Answer → List ℕ
owners_after owners p (Done done) = owners ++ p ∷ []
owners_after owners p answer = owners

-- there is memory for one step more
pub record HasSpace (steps : Steps) : Type 0 where
  pub owner : vec_len steps.owners + 1 ≤ vec_capacity steps.owners
  pub place : vec_len steps.places + 1 ≤ vec_capacity steps.places

-- the owners are those of all steps that a number was given to
pub record AreOwners (owners : List ℕ) (n : ℕ) (j : List Entry) : Type 0 where
  pub few : length owners ≤ length j
  pub next : n ≡ length owners + 1
  pub owned : (p n : ℕ) → is_own j p n ≡ owns owners p n

-- the surviving steps are their owners', and what was taken back had been given a number
pub record AreGiven (owners : List ℕ) (h : List Step) (j : List Entry) : Type 0 where
  pub surviving : AllByRecursion (λ s. owns owners s.role s.id ≡ true) h
  pub undone : AllByRecursion (λ e. AllByRecursion (λ n. n ≤ length owners) (undone_by e.answer)) j
