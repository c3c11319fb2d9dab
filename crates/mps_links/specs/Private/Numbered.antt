-- A step's key with its number, where there is one.
use Rattle.std.specs.Prelude.{◌≡◌, ℕ, List, map, Option, Some, IfSome}
use Rattle.std.specs.List.{AllByRecursion}
use Rattle.std.specs.Option.{option_map}
use Rattle.mps_arena.specs.KeyedSteps.{KeyedStep}
use Rattle.mps_arena.specs.Neighbours.{id_in}
use Rattle.mps_links.specs.declared.order.NumberedKey.{NumberedKey}

-- the key alone
abbrev pub key_of : Option NumberedKey → Option ℕ
key_of o = option_map (λ n. n.key) o

-- the step of the key has that number
abbrev pub HasNumber : List KeyedStep → Option NumberedKey → Type 0
HasNumber es o = IfSome o (λ n. id_in es n.key ≡ Some n.id)

-- the keys alone
abbrev pub keys_alone : List (Option NumberedKey) → List (Option ℕ)
keys_alone firsts = map key_of firsts

-- each has its number
abbrev pub HaveNumbers : List KeyedStep → List (Option NumberedKey) → Type 0
HaveNumbers es firsts = AllByRecursion (HasNumber es) firsts
