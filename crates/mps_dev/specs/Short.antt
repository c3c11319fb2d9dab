-- What a sink over memory took, and how much it can still take.
use Rattle.std.specs.Prelude.{ℕ, List}

-- the bytes that a sink over memory took, how many more it takes, and how many writes failed
pub record Tray : Type 0 where
  pub bytes : List ℕ
  pub room : ℕ
  pub failed_calls : ℕ
