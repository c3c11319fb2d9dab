-- How a short word is kept in an array of 32 bytes.
use Rattle.std.specs.Prelude.{◌≡◌, ℕ, ◌-◌, ◌≤◌, ◌++◌, List, length, take, replicate}

-- the first len bytes are the word, and zeros fill the rest
pub record IsKept (len : ℕ) (bytes : List ℕ) : Type 0 where
  pub short : length (take len bytes) ≤ 32
  pub long : length (take len bytes) ≡ len
  pub padded : take len bytes ++ replicate (32 - len) 0 ≡ bytes
