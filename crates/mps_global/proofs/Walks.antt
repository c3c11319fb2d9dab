-- The first fault of two lists of tests, and of two lists of nodes.
use Rattle.std.proofs.Common.{arith, ◌≡◌, ℕ, Bool, cond, List, [], ◌∷◌, ◌++◌, Option, Some, refl}
use Rattle.std.specs.Option.{option_or}
use Rattle.std.proofs.lemmas.Grind.{flat_map-append}
use Rattle.mps_global.specs.Global.{GlobalType}
use Rattle.mps_global.specs.Path.{Place}
use Rattle.mps_global.specs.Faults.{first_true, first_fault}

one_more : {F : Type 0} (wrong : Bool) (fault : F) (a b c : Option F) → a ≡ option_or b c → cond wrong (Some fault) a ≡ option_or (cond wrong (Some fault) b) c
one_more wrong fault a b c h = grind arith

-- it is that of the first list, or else that of the second
pub first_of_tests : {F : Type 0} (a b : List (Bool × F)) → first_true (a ++ b) ≡ option_or (first_true a) (first_true b)
first_of_tests [] b = refl
first_of_tests (t ∷ ts) b = one_more t.0 t.1 (first_true (ts ++ b)) (first_true ts) (first_true b) (first_of_tests ts b)

-- the same of nodes
pub first_of_both : (roles : List (List ℕ)) (ps qs : List (Place GlobalType)) → first_fault roles (ps ++ qs) ≡ option_or (first_fault roles ps) (first_fault roles qs)
first_of_both roles ps qs = grind (arith, flat_map-append, first_of_tests)
