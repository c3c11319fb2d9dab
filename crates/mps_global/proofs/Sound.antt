-- What a protocol without faults is like.
use Rattle.std.proofs.Common.{◌≡◌, ◌≢◌, ℕ, ◌≤◌, Bool, true, false, ◌||◌, List, [], ◌∷◌, None, sym, arith}
use Rattle.std.proofs.lemmas.Bool.Decides.{nat_tests}
use Rattle.std.proofs.lemmas.Slice.Eq.{bytes_eq-Decides}
use Rattle.std.specs.List.{AllByRecursion, list_any}
use Rattle.std.specs.Str.{bytes_eq}
use Rattle.mps_base.specs.RoleLists.{AreDistinct, AreRoles}
use Rattle.mps_global.specs.Global.{GlobalType}
use Rattle.mps_global.specs.Faults.{has_double, places, node_count, depth, first_fault, fault_of}

-- the roles are those of a session, the tree is within its limits, and no node has a fault
pub record SoundProtocol (roles : List (List ℕ)) (tree : GlobalType) : Type 0 where
  pub session : AreRoles roles
  pub small : node_count tree ≤ 256
  pub shallow : depth tree ≤ 64
  pub nodes : first_fault roles (places [] tree) ≡ None

both_false : (a b : Bool) → (a || b) ≡ false → (a ≡ false) × (b ≡ false)
both_false a b h = grind arith

-- a name that is not among the names differs from each
others : (name : List ℕ) (names : List (List ℕ)) → list_any (bytes_eq name) names ≡ false → AllByRecursion (λ other. other ≢ name) names
others name [] h = tt
others name (n ∷ ns) h =
    let b = both_false (bytes_eq name n) (list_any (bytes_eq name) ns) h in
    ((λ e. let same : bytes_eq name n ≡ true = (bytes_eq-Decides name n).1 (sym e) in cc (b.0)), others name ns b.1)

-- names of which none stands twice are distinct
distinct : (names : List (List ℕ)) → has_double names ≡ false → AreDistinct names
distinct [] h = tt
distinct (n ∷ ns) h =
    let b = both_false (list_any (bytes_eq n) ns) (has_double ns) h in
    (others n ns b.0, distinct ns b.1)

pub sound_protocol : (roles : List (List ℕ)) (tree : GlobalType) → fault_of roles tree ≡ None → SoundProtocol roles tree
sound_protocol roles tree h = grind (arith, nat_tests, distinct)
