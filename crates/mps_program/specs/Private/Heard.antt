-- What is heard while bytes come.
use Rattle.std.specs.Prelude.{◌≡◌, ℕ, List, ◌++◌}
use Rattle.mps_program.specs.declared.tally.Tally.{Tally}
use Rattle.mps_program.specs.Heard.{HasHeard}

-- of all these bytes the tally has heard those in front of the rest
pub record IsHearing (t : Tally) (rest all : List ℕ) : Type 0 where
  pub heard : List ℕ
  pub counted : HasHeard t heard
  pub whole : heard ++ rest ≡ all
