-- How large a local type is, and with whom it speaks.
use Rattle.std.specs.Prelude.{ℕ, ◌+◌, ◌<◌, ◌≢◌, max, ⊤}
use Rattle.mps_local.specs.Local.{LocalType, Branches, End, Var, Rec, Send, Recv, Select, Branch, NoMore, More}

abbrev mutual
  -- how many nodes a local type has
  pub node_count : LocalType → ℕ
  node_count End = 1
  node_count (Var name) = 1
  node_count (Rec name body) = node_count body + 1
  node_count (Send peer sort next) = node_count next + 1
  node_count (Recv peer sort next) = node_count next + 1
  node_count (Select peer branches) = branch_nodes branches + 1
  node_count (Branch peer branches) = branch_nodes branches + 1

  -- how many nodes the branches have
  pub branch_nodes : Branches → ℕ
  branch_nodes NoMore = 0
  branch_nodes (More label next others) = node_count next + branch_nodes others

abbrev mutual
  -- how many nodes stand on the longest path from the root
  pub depth : LocalType → ℕ
  depth End = 1
  depth (Var name) = 1
  depth (Rec name body) = depth body + 1
  depth (Send peer sort next) = depth next + 1
  depth (Recv peer sort next) = depth next + 1
  depth (Select peer branches) = branch_depth branches + 1
  depth (Branch peer branches) = branch_depth branches + 1

  -- how many nodes stand on the longest path in a branch
  pub branch_depth : Branches → ℕ
  branch_depth NoMore = 0
  branch_depth (More label next others) = max (depth next) (branch_depth others)

abbrev mutual
  -- each peer of a local type's acts is such a role
  pub AllPeers : (IsSuch : ℕ → Type 0) → LocalType → Type 0
  AllPeers IsSuch End = ⊤
  AllPeers IsSuch (Var name) = ⊤
  AllPeers IsSuch (Rec name body) = AllPeers IsSuch body
  AllPeers IsSuch (Send peer sort next) = IsSuch peer × AllPeers IsSuch next
  AllPeers IsSuch (Recv peer sort next) = IsSuch peer × AllPeers IsSuch next
  AllPeers IsSuch (Select peer branches) = IsSuch peer × AllBranchPeers IsSuch branches
  AllPeers IsSuch (Branch peer branches) = IsSuch peer × AllBranchPeers IsSuch branches

  -- the same of the branches
  pub AllBranchPeers : (IsSuch : ℕ → Type 0) → Branches → Type 0
  AllBranchPeers IsSuch NoMore = ⊤
  AllBranchPeers IsSuch (More label next others) = AllPeers IsSuch next × AllBranchPeers IsSuch others

-- a role of so many, but not that one
abbrev pub IsOtherRole : (count role : ℕ) → ℕ → Type 0
IsOtherRole count role peer = (peer < count) × (peer ≢ role)
