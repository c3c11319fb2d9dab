-- Which faults the tests of a type tell.
use Rattle.std.proofs.Common.{arith, ◌≢◌, Bool, cond, List, [], ◌∷◌, ◌++◌, Option, Some}
use Rattle.std.specs.List.{AllByRecursion}
use Rattle.mps_global.specs.Faults.{first_true}
use Rattle.mps_global.specs.Path.{Edge, Place}
use Rattle.mps_local.specs.Local.{LocalType}
use Rattle.mps_local.specs.LocalFaults.{places, size_tests, node_tests, tests_at, local_fault_of}
use Rattle.mps_local.specs.declared.faults.LocalFault.TheVariants as faults

one_more : {F : Type 0} (fault : F) (wrong : Bool) (told : F) (later : Option F) → told ≢ fault → later ≢ Some fault → cond wrong (Some told) later ≢ Some fault
one_more fault wrong told later p q = grind arith

-- where no test tells a fault, neither does the first that is true
never_first : {F : Type 0} (fault : F) (tests : List (Bool × F)) → AllByRecursion (λ test. test.1 ≢ fault) tests → first_true tests ≢ Some fault
never_first fault [] a h = cc
never_first fault (test ∷ tests) a h = one_more fault test.0 test.1 (first_true tests) a.0 (never_first fault tests a.1) h

-- what holds of each of two lists of tests holds of both together
all_of_both : {T : Type 0} (P : T → Type 0) (a b : List T) → AllByRecursion P a → AllByRecursion P b → AllByRecursion P (a ++ b)
all_of_both P [] b p q = q
all_of_both P (t ∷ ts) b p q = (p.0, all_of_both P ts b p.1 q)

-- no test of a node tells out of memory
at_node : (above : List Edge) (t : LocalType) → AllByRecursion (λ test. test.1 ≢ faults.Memory) (node_tests above t)
at_node above t = grind arith

at_nodes : (ps : List (Place LocalType)) → AllByRecursion (λ test. test.1 ≢ faults.Memory) (tests_at ps)
at_nodes [] = tt
at_nodes (p ∷ ps) = all_of_both (λ test. test.1 ≢ faults.Memory) (node_tests p.above p.node) (tests_at ps) (at_node p.above p.node) (at_nodes ps)

-- so no type has that fault
pub no_memory : (t : LocalType) → local_fault_of t ≢ Some faults.Memory
no_memory t =
    never_first faults.Memory (size_tests t ++ tests_at (places [] t))
    (all_of_both (λ test. test.1 ≢ faults.Memory) (size_tests t) (tests_at (places [] t)) (λ h. cc, (λ h. cc, tt)) (at_nodes (places [] t)))
