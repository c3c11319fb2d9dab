-- The first fault of two lists of nodes.
use Rattle.std.proofs.Common.{arith, ◌≡◌, List, ◌++◌}
use Rattle.std.specs.Option.{option_or}
use Rattle.std.proofs.lemmas.Grind.{flat_map-append}
use Rattle.mps_global.specs.Path.{Place}
use Rattle.mps_global.proofs.Walks.{first_of_tests}
use Rattle.mps_local.specs.Local.{LocalType}
use Rattle.mps_local.specs.LocalFaults.{fault_at}

-- it is that of the first list, or else that of the second
pub first_of_both : (ps qs : List (Place LocalType)) → fault_at (ps ++ qs) ≡ option_or (fault_at ps) (fault_at qs)
first_of_both ps qs = grind (arith, flat_map-append, first_of_tests)
