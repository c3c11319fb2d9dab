-- When one history becomes another by exchanging neighbours that have nothing to do with each other. Exchanges of
-- independent neighbours are Mazurkiewicz's traces (1977); for reversible computations Danos, Krivine (CONCUR 2004).
use Rattle.std.specs.Prelude.{◌≡◌, ◌≢◌, ℕ, Bool, false, ◌==◌, ◌&&◌, List, ◌∷◌, ◌++◌, length, map}
use Rattle.std.specs.List.{filter}
use Rattle.mps_base.specs.declared.action.Act.{Act}
use Rattle.mps_base.specs.declared.action.Step.{Step}
use Rattle.mps_history.specs.Steps.{sends, receives}

-- what was done, and by which role, numbers aside
abbrev pub deeds : List Step → List (ℕ × Act)
deeds h = map (λ s. (s.role, s.act)) h

-- right after these steps, t receives what s sends: nothing that was sent earlier still waits
abbrev pub is_matched_after : List Step → Step → Step → Bool
is_matched_after a s t =
    sends s.role t.role s && receives s.role t.role t
    && length (filter (sends s.role t.role) a) == length (filter (receives s.role t.role) a)

-- k becomes h, numbers aside, by exchanging neighbours of different roles of which the second doesn't receive what
-- the first sends, any number of times
pub data Swaps : List Step → List Step → Type 0 where
  Same : (k h : List Step) → deeds k ≡ deeds h → Swaps k h
  Exchange : (k h a b : List Step) (s t : Step) → k ≡ a ++ s ∷ t ∷ b → s.role ≢ t.role → is_matched_after a s t ≡ false
      → Swaps (a ++ t ∷ s ∷ b) h → Swaps k h
