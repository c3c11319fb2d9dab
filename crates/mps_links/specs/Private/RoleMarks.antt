-- The marks of one role: a closed set has of each role the last steps.
use Rattle.std.specs.Prelude.{◌≡◌, ◌==◌, ℕ, true, false, List, [], ◌∷◌, if◌then◌else◌, ⊤}
use Rattle.std.specs.List.{AllByRecursion}
use Rattle.mps_arena.specs.KeyedSteps.{KeyedStep}

-- the keyed step, without a mark where it is of that role
abbrev pub unmarked_of : ℕ → KeyedStep → KeyedStep
unmarked_of p e = record e { marked = if e.step.role == p then false else e.marked }

-- after a marked step of the role each step of the role is marked
abbrev pub AreLastMarked : ℕ → List KeyedStep → Type 0
AreLastMarked p [] = ⊤
AreLastMarked p (e ∷ es) =
    (e.step.role ≡ p → e.marked ≡ true → AllByRecursion (λ f. f.step.role ≡ p → f.marked ≡ true) es)
    × AreLastMarked p es
