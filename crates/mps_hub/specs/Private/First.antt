-- The first line of a connection, while it comes.
use Rattle.std.specs.Prelude.{◌≡◌, ℕ, List}
use Rattle.mps_dev.specs.declared.traits.Source.{Ghosts}
use Rattle.mps_lines.specs.Lines.{HasNoBreak, front}
use Rattle.mps_hub.specs.First.{GaveBytes}

-- no byte that was given ends a line; of them the front is kept
pub record IsBegun {R : Type 0} (source : Ghosts R) (old new : R) (kept : List ℕ) : Type 0 where
  pub read : List ℕ
  pub gave : GaveBytes source old new read
  pub unbroken : HasNoBreak read
  pub front_kept : kept ≡ front read
