-- A value is at most four times as long as its text, and its quotation marks.
use Rattle.std.proofs.Common.{◌≤◌, ◌+◌, ◌*◌, ℕ, List, [], ◌∷◌, ◌++◌, arith, length}
use Rattle.std.specs.List.{flat_map}
use Rattle.mps_watch.specs.Values.{escaped, quoted}

size_one : (b : ℕ) → length (escaped b) ≤ 4
size_one b = grind arith

size_rest : (bytes : List ℕ) → length (flat_map escaped bytes ++ 34 ∷ []) ≤ 4 * length bytes + 1
size_rest [] = grind arith
size_rest (b ∷ bs) = grind (arith, size_one b, size_rest bs)

pub quoted_size : (bytes : List ℕ) → length (quoted bytes) ≤ 4 * length bytes + 2
quoted_size bytes = grind (arith, size_rest bytes)
