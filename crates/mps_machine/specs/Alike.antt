-- What a role can tell of a view: where its type is, and what waits for it. That each role is watched by itself is from
-- Bocchi, Chen, Demangeon, Honda, Yoshida (Monitoring networks through multiparty session types, FORTE 2013).
use Rattle.std.specs.Prelude.{◌≡◌, ℕ}
use Rattle.mps_local.specs.Unfolding.{unfolded}
use Rattle.mps_machine.specs.View.{View}

-- the views look alike to role p: its type is at the same place, and what waits for it from each role is the same
pub record LooksAlike (p : ℕ) (v w : View) : Type 0 where
  pub place : unfolded (v.participant p).to_come ≡ unfolded (w.participant p).to_come
  pub waiting : (q : ℕ) → v.queue q p ≡ w.queue q p
