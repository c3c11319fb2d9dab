-- How many nodes a tree's tokens begin, and how deep.
use Rattle.std.proofs.Common.{◌≡◌, ℕ, ◌+◌, ◌≤◌, List, [], ◌∷◌, ◌++◌, Option, None, refl, ap, sym, subst, ◌∙◌, arith}
use Rattle.std.specs.List.{AllByRecursion}
use Rattle.std.proofs.lemmas.List.{append-nil}
use Rattle.mps_global.specs.Global.{GlobalType, Branches, End, Var, Rec, Message, Choice, NoMore, More}
use Rattle.mps_global.specs.Faults.{node_count, branch_nodes, depth, branch_depth}
use Rattle.mps_text.specs.Grammar.{IsSpellable}
use Rattle.mps_text.specs.Faults.{nodes_begun, IsShallow, AreWithin}
use Rattle.mps_text.specs.Grammar.{protocol_parts}
use Rattle.mps_text.proofs.Trees.{protocol_starts, node_starts, no_starts, protocol_starts_are, starts_before, branch_starts_before, starts_are}

mutual
  begun_by : (tree : GlobalType) (level : ℕ) (later : List (Option ℕ)) → nodes_begun (starts_before level tree later) ≡ node_count tree + nodes_begun later
  begun_by End level later = omega arith
  begun_by (Var name) level later = omega arith
  begun_by (Rec name body) level later = let e = begun_by body (level + 1) later in omega (arith, e)
  begun_by (Message sender receiver sort next) level later = let e = begun_by next (level + 1) later in omega (arith, e)
  begun_by (Choice sender receiver branches) level later = let e = begun_by_branches branches (level + 1) later in omega (arith, e)

  begun_by_branches : (branches : Branches) (level : ℕ) (later : List (Option ℕ)) → nodes_begun (branch_starts_before level branches later) ≡ branch_nodes branches + nodes_begun later
  begun_by_branches NoMore level later = omega arith
  begun_by_branches (More label next others) level later = grind (arith, begun_by next level (branch_starts_before level others later), begun_by_branches others level later)

mutual
  depth_within : (tree : GlobalType) (level : ℕ) (later : List (Option ℕ)) → AllByRecursion IsShallow (starts_before level tree later) → (level + depth tree ≤ 65) × AllByRecursion IsShallow later
  depth_within End level later h = let here = h.0 in (omega (arith, here), h.1)
  depth_within (Var name) level later h = let here = h.0 in (omega (arith, here), h.1)
  depth_within (Rec name body) level later h = grind (arith, depth_within body (level + 1) later h.1.1.1)
  depth_within (Message sender receiver sort next) level later h = grind (arith, depth_within next (level + 1) later h.1.1.1.1.1.1)
  depth_within (Choice sender receiver branches) level later h =
      let here = h.0 in
      grind (arith, branch_depth_within branches (level + 1) later (omega (arith, here)) h.1.1.1)

  branch_depth_within : (branches : Branches) (level : ℕ) (later : List (Option ℕ)) → level ≤ 65 → AllByRecursion IsShallow (branch_starts_before level branches later) → (level + branch_depth branches ≤ 65) × AllByRecursion IsShallow later
  branch_depth_within NoMore level later less h = (omega (arith, less), h.1)
  branch_depth_within (More label next others) level later less h =
      let m = depth_within next level (branch_starts_before level others later) h.1.1.1 in
      grind (arith, branch_depth_within others level later less m.1)

mutual
  within_depth : (tree : GlobalType) (level : ℕ) (later : List (Option ℕ)) → level + depth tree ≤ 65 → AllByRecursion IsShallow later → AllByRecursion IsShallow (starts_before level tree later)
  within_depth End level later less h = (omega (arith, less), h)
  within_depth (Var name) level later less h = (omega (arith, less), h)
  within_depth (Rec name body) level later less h = (omega (arith, less), (tt, (tt, within_depth body (level + 1) later (omega (arith, less)) h)))
  within_depth (Message sender receiver sort next) level later less h = (omega (arith, less), (tt, (tt, (tt, (tt, (tt, within_depth next (level + 1) later (omega (arith, less)) h))))))
  within_depth (Choice sender receiver branches) level later less h = grind (arith, branches_within_depth branches (level + 1) later (omega (arith, less)) h)

  branches_within_depth : (branches : Branches) (level : ℕ) (later : List (Option ℕ)) → level + branch_depth branches ≤ 65 → AllByRecursion IsShallow later → AllByRecursion IsShallow (branch_starts_before level branches later)
  branches_within_depth NoMore level later less h = (tt, h)
  branches_within_depth (More label next others) level later less h = grind (arith, within_depth next level (branch_starts_before level others later) (omega (arith, less)) (branches_within_depth others level later (omega (arith, less)) h))

role_begun : (roles : List (List ℕ)) (starts : List (Option ℕ)) → nodes_begun (no_starts roles ++ starts) ≡ nodes_begun starts
role_begun [] starts = refl
role_begun (role ∷ roles) starts = role_begun roles starts

role_shallow : (roles : List (List ℕ)) (starts : List (Option ℕ)) → AllByRecursion IsShallow starts → AllByRecursion IsShallow (no_starts roles ++ starts)
role_shallow [] starts h = h
role_shallow (role ∷ roles) starts h = (tt, role_shallow roles starts h)

behind_roles : (roles : List (List ℕ)) (starts : List (Option ℕ)) → AllByRecursion IsShallow (no_starts roles ++ starts) → AllByRecursion IsShallow starts
behind_roles [] starts h = h
behind_roles (role ∷ roles) starts h = behind_roles roles starts h.1

alone : (tree : GlobalType) → IsSpellable tree → starts_before 1 tree [] ≡ node_starts 1 tree
alone tree s = starts_are tree 1 [] s ∙ append-nil (node_starts 1 tree)

-- the same of the depths alone
record StartsWithin (starts : List (Option ℕ)) : Type 0 where
  shallow : AllByRecursion IsShallow starts
  few : nodes_begun starts ≤ 256

-- the nodes that a protocol's tokens begin are those of its tree
pub protocol_within : (roles : List (List ℕ)) (tree : GlobalType) → IsSpellable tree → node_count tree ≤ 256 → depth tree ≤ 64 → AreWithin (protocol_parts roles tree)
protocol_within roles tree s small shallow =
    let nodes : nodes_begun (node_starts 1 tree) ≡ node_count tree + 0 = ap nodes_begun (sym (alone tree s)) ∙ begun_by tree 1 [] in
    let all : AllByRecursion IsShallow (node_starts 1 tree) = subst (AllByRecursion IsShallow) (alone tree s) (within_depth tree 1 [] (omega (arith, shallow)) tt) in
    grind (arith, no_starts, node_starts, role_shallow, role_begun, protocol_starts_are)

pub within_protocol : (roles : List (List ℕ)) (tree : GlobalType) → IsSpellable tree → AreWithin (protocol_parts roles tree) → (node_count tree ≤ 256) × (depth tree ≤ 64)
within_protocol roles tree s within =
    let v : StartsWithin (protocol_starts roles tree) = record { shallow = within.shallow; few = within.few } in
    let w : StartsWithin (None ∷ no_starts roles ++ None ∷ node_starts 1 tree) = subst StartsWithin (protocol_starts_are roles tree) v in
    let nodes : nodes_begun (node_starts 1 tree) ≡ node_count tree + 0 = ap nodes_begun (sym (alone tree s)) ∙ begun_by tree 1 [] in
    let all = behind_roles roles (None ∷ node_starts 1 tree) w.shallow.1 in
    grind (arith, depth_within tree 1 [] (subst (AllByRecursion IsShallow) (sym (alone tree s)) all.1), role_begun roles (None ∷ node_starts 1 tree))
