-- How large the local types of a protocol without faults are, and with whom they speak.
use Rattle.std.proofs.Common.{◌≡◌, ℕ, ◌+◌, ◌<◌, ◌≤◌, Bool, true, false, cond, List, [], ◌∷◌, length, Option, None, Some, subst, arith}
use Rattle.std.specs.Prelude.{⊤, max}
use Rattle.std.specs.Option.{option_map}
use Rattle.std.specs.Str.{bytes_eq}
use Rattle.mps_base.specs.declared.value.Sort.{Sort}
use Rattle.mps_global.specs.Global as global
use Rattle.mps_global.specs.Global.{GlobalType}
use Rattle.mps_global.specs.Faults.{node_count as global_nodes, branch_nodes as global_branch_nodes, depth as global_depth, branch_depth as global_branch_depth, fault_of}
use Rattle.mps_local.specs.Actions.{branch_at}
use Rattle.mps_local.specs.Local.{LocalType, Branches, End, Var, Rec, Send, Recv, Select, Branch, NoMore, More}
use Rattle.mps_local.specs.Merged.{◌>>=◌, without, same, merge, merge_each, merge_picks, merge_by, merge_all, merged}
use Rattle.mps_local.specs.Projection.{place_of, is_idle, with_message, with_choice, projection, projections}
use Rattle.mps_local.specs.Shape.{node_count, branch_nodes, depth, branch_depth, AllPeers, AllBranchPeers, IsOtherRole}
use Rattle.mps_local.specs.declared.merging.Merging.{Merging}
use Rattle.mps_local.specs.declared.merging.Merging.TheVariants.{Plain, Full}
use Rattle.mps_local.proofs.Formed.{IsFormed, AreFormed}
use Rattle.mps_local.proofs.Looping.{faultless_formed}
use Rattle.mps_local.proofs.Merged.{if_some, rec_merged, send_merged, recv_merged, select_merged, pick_merged, each_merged, picks_merged, Met, alone, both}
use Rattle.mps_local.proofs.Unmerged.{and_then_some}

-- no more nodes and levels than these
record IsWithin (nodes levels : ℕ) (t : LocalType) : Type 0 where
  nodes_fit : node_count t ≤ nodes
  levels_fit : depth t ≤ levels

record AreWithin (nodes levels : ℕ) (ts : Branches) : Type 0 where
  nodes_fit : branch_nodes ts ≤ nodes
  levels_fit : branch_depth ts ≤ levels

-- what follows a label, and the branches without it
without_within : (l : List ℕ) (c : Branches) → AreWithin (branch_nodes c) (branch_depth c) (without l c)
without_within l NoMore = record { nodes_fit = omega arith; levels_fit = omega arith }
without_within l (More m t c) = by_test (bytes_eq m l) (without_within l c)
  where
    by_test : (b : Bool) → AreWithin (branch_nodes c) (branch_depth c) (without l c) → AreWithin (branch_nodes (More m t c)) (branch_depth (More m t c)) (cond b c (More m t (without l c)))
    by_test true k = record { nodes_fit = omega arith; levels_fit = omega arith }
    by_test false k =
        let n = k.nodes_fit in let d = k.levels_fit in
        record { nodes_fit = omega (arith, n); levels_fit = omega (arith, d) }

found_within : (l : List ℕ) (c : Branches) (u : LocalType) → branch_at l c ≡ Some u → (node_count u + branch_nodes (without l c) ≤ branch_nodes c) × (depth u ≤ branch_depth c)
found_within l NoMore u e = absurd cc
found_within l (More m t c) u e = by_test (bytes_eq m l) e (λ f. found_within l c u f)
  where
    by_test : (b : Bool) → cond b (Some t) (branch_at l c) ≡ Some u → (branch_at l c ≡ Some u → (node_count u + branch_nodes (without l c) ≤ branch_nodes c) × (depth u ≤ branch_depth c)) → (node_count u + branch_nodes (cond b c (More m t (without l c))) ≤ branch_nodes (More m t c)) × (depth u ≤ branch_depth (More m t c))
    by_test true f again = let i : t ≡ u = cc in subst (λ (z : LocalType). (node_count z + branch_nodes c ≤ node_count t + branch_nodes c) × (depth z ≤ max (depth t) (branch_depth c))) i (omega arith, omega arith)
    by_test false f again = let k = again f in let n = k.0 in let d = k.1 in (omega (arith, n), omega (arith, d))

-- the type that followed a label, with the branches that are left
record IsMet (l : List ℕ) (t : LocalType) (c : Branches) (w : LocalType) : Type 0 where
  nodes_fit : node_count w + branch_nodes (without l c) ≤ node_count t + branch_nodes c
  levels_fit : depth w ≤ max (depth t) (branch_depth c)

met_within : (l : List ℕ) (t : LocalType) (c : Branches) (w : LocalType) → Met t (branch_at l c) w → ((u : LocalType) → merge t u ≡ Some w → IsWithin (node_count t + node_count u) (max (depth t) (depth u)) w) → IsMet l t c w
met_within l t c w (alone e f) again =
    let k = without_within l c in let n = k.nodes_fit in
    subst (IsMet l t c) f (record { nodes_fit = omega (arith, n); levels_fit = omega arith })
met_within l t c w (both u e f) again =
    let k = found_within l c u e in let h = again u f in
    let n = k.0 in let d = k.1 in let m = h.nodes_fit in let x = h.levels_fit in
    record { nodes_fit = omega (arith, n, m); levels_fit = omega (arith, d, x) }

mutual
  -- merging adds up nodes, and takes the deeper levels
  merge_within : (t u v : LocalType) → merge t u ≡ Some v → IsWithin (node_count t + node_count u) (max (depth t) (depth u)) v
  merge_within End End v e = let i : End ≡ v = cc in subst (IsWithin 2 1) i (record { nodes_fit = omega arith; levels_fit = omega arith })
  merge_within (Var x) (Var y) v e = grind arith
  merge_within (Rec x t) (Rec y u) v e =
      let m = rec_merged x y t u v e in let k = merge_within t u m.0 m.2 in let n = k.nodes_fit in let d = k.levels_fit in
      subst (IsWithin (node_count (Rec x t) + node_count (Rec y u)) (max (depth (Rec x t)) (depth (Rec y u)))) m.3
      (record { nodes_fit = omega (arith, n); levels_fit = omega (arith, d) })
  merge_within (Send p s t) (Send q r u) v e =
      let m = send_merged p q s r t u v e in let k = merge_within t u m.0 m.3 in let n = k.nodes_fit in let d = k.levels_fit in
      subst (IsWithin (node_count (Send p s t) + node_count (Send q r u)) (max (depth (Send p s t)) (depth (Send q r u)))) m.4
      (record { nodes_fit = omega (arith, n); levels_fit = omega (arith, d) })
  merge_within (Recv p s t) (Recv q r u) v e =
      let m = recv_merged p q s r t u v e in let k = merge_within t u m.0 m.3 in let n = k.nodes_fit in let d = k.levels_fit in
      subst (IsWithin (node_count (Recv p s t) + node_count (Recv q r u)) (max (depth (Recv p s t)) (depth (Recv q r u)))) m.4
      (record { nodes_fit = omega (arith, n); levels_fit = omega (arith, d) })
  merge_within (Select p b) (Select q c) v e =
      let m = select_merged p q b c v e in let k = each_within b c m.0 m.2 in let n = k.nodes_fit in let d = k.levels_fit in
      subst (IsWithin (node_count (Select p b) + node_count (Select q c)) (max (depth (Select p b)) (depth (Select q c)))) m.3
      (record { nodes_fit = omega (arith, n); levels_fit = omega (arith, d) })
  merge_within (Branch p b) (Branch q c) v e =
      let m = pick_merged p q b c v e in let k = picks_within b c m.0 m.2 in let n = k.nodes_fit in let d = k.levels_fit in
      subst (IsWithin (node_count (Branch p b) + node_count (Branch q c)) (max (depth (Branch p b)) (depth (Branch q c)))) m.4
      (record { nodes_fit = omega (arith, n); levels_fit = omega (arith, d) })
  merge_within t u v e = absurd cc

  each_within : (b c d : Branches) → merge_each b c ≡ Some d → AreWithin (branch_nodes b + branch_nodes c) (max (branch_depth b) (branch_depth c)) d
  each_within NoMore NoMore d e = let i : NoMore ≡ d = cc in subst (AreWithin 0 0) i (record { nodes_fit = omega arith; levels_fit = omega arith })
  each_within (More l t b) (More m u c) d e =
      let n = each_merged l m t u b c d e in
      let h = merge_within t u n.0 n.3 in let k = each_within b c n.1 n.4 in
      let f = h.nodes_fit in let g = k.nodes_fit in let i = h.levels_fit in let j = k.levels_fit in
      subst (AreWithin (branch_nodes (More l t b) + branch_nodes (More m u c)) (max (branch_depth (More l t b)) (branch_depth (More m u c)))) n.5
      (record { nodes_fit = omega (arith, f, g); levels_fit = omega (arith, i, j) })
  each_within b c d e = absurd cc

  picks_within : (b c d : Branches) → merge_picks b c ≡ Some d → AreWithin (branch_nodes b + branch_nodes c) (max (branch_depth b) (branch_depth c)) d
  picks_within NoMore c d e =
      let i : c ≡ d = cc in
      subst (AreWithin (0 + branch_nodes c) (max 0 (branch_depth c))) i (record { nodes_fit = omega arith; levels_fit = omega arith })
  picks_within (More l t b) c d e =
      let n = picks_merged l t b c d e in
      let h = met_within l t c n.0 n.2 (λ u f. merge_within t u n.0 f) in let k = picks_within b (without l c) n.1 n.3 in let w = without_within l c in
      let f = h.nodes_fit in let g = k.nodes_fit in let i = h.levels_fit in let j = k.levels_fit in let x = w.levels_fit in
      subst (AreWithin (branch_nodes (More l t b) + branch_nodes c) (max (branch_depth (More l t b)) (branch_depth c))) n.4
      (record { nodes_fit = omega (arith, f, g); levels_fit = omega (arith, i, j, x) })

merge_by_within : (merging : Merging) (t u v : LocalType) → merge_by merging t u ≡ Some v → IsWithin (node_count t + node_count u) (max (depth t) (depth u)) v
merge_by_within Plain t u v e =
    let i = if_some (same t u) (Some t) v e in let f = i.1 in let j : t ≡ v = cc in
    subst (IsWithin (node_count t + node_count u) (max (depth t) (depth u))) j (record { nodes_fit = omega arith; levels_fit = omega arith })
merge_by_within Full t u v e = merge_within t u v e

all_within : (merging : Merging) (first t : LocalType) (b : Branches) → merge_all merging first b ≡ Some t → IsWithin (node_count first + branch_nodes b) (max (depth first) (branch_depth b)) t
all_within merging first t NoMore e =
    let j : first ≡ t = cc in
    subst (IsWithin (node_count first + 0) (max (depth first) 0)) j (record { nodes_fit = omega arith; levels_fit = omega arith })
all_within merging first t (More l u others) e =
    let k = and_then_some (λ both. merge_all merging both others) (merge_by merging first u) t e in
    let h = merge_by_within merging first u k.0 k.1 in let r = all_within merging k.0 t others k.2 in
    let n = h.nodes_fit in let m = r.nodes_fit in let d = h.levels_fit in let x = r.levels_fit in
    record { nodes_fit = omega (arith, n, m); levels_fit = omega (arith, d, x) }

merged_within : (merging : Merging) (b : Branches) (t : LocalType) → merged merging b ≡ Some t → IsWithin (branch_nodes b) (branch_depth b) t
merged_within merging NoMore t e = absurd cc
merged_within merging (More l u others) t e = all_within merging u t others e

-- the same where there is one
abbrev Fits : (nodes levels : ℕ) → Option LocalType → Type 0
Fits nodes levels None = ⊤
Fits nodes levels (Some t) = IsWithin nodes levels t

abbrev AllFit : (nodes levels : ℕ) → Option Branches → Type 0
AllFit nodes levels None = ⊤
AllFit nodes levels (Some ts) = AreWithin nodes levels ts

rec_fits : (nodes levels : ℕ) (name : List ℕ) (idle : Bool) (o : Option LocalType) → Fits nodes levels o → Fits (nodes + 1) (levels + 1) (cond idle (Some End) (option_map (Rec name) o))
rec_fits nodes levels name idle o h = grind arith

message_fits : (role from to nodes levels : ℕ) (sort : Sort) (o : Option LocalType) → Fits nodes levels o → Fits (nodes + 1) (levels + 1) (option_map (with_message role from to sort) o)
message_fits role from to nodes levels sort o h = grind arith

choice_fits : (merging : Merging) (role from to nodes levels : ℕ) (o : Option Branches) → AllFit nodes levels o → Fits (nodes + 1) (levels + 1) (o >>= with_choice merging role from to)
choice_fits merging role from to nodes levels o h = grind (arith, merged_within)

more_fit : (nodes more levels deeper : ℕ) (label : List ℕ) (o : Option LocalType) (os : Option Branches) → Fits nodes levels o → AllFit more deeper os → AllFit (nodes + more) (max levels deeper) (o >>= λ t. os >>= λ ts. Some (More label t ts))
more_fit nodes more levels deeper label o os h k = grind arith

mutual
  tree_fits : (merging : Merging) (roles : List (List ℕ)) (role : ℕ) (tree : GlobalType) → Fits (global_nodes tree) (global_depth tree) (projection merging roles role tree)
  tree_fits merging roles role global.End = record { nodes_fit = omega arith; levels_fit = omega arith }
  tree_fits merging roles role (global.Var name) = record { nodes_fit = omega arith; levels_fit = omega arith }
  tree_fits merging roles role (global.Rec name body) =
      rec_fits (global_nodes body) (global_depth body) name (is_idle roles role name body) (projection merging roles role body) (tree_fits merging roles role body)
  tree_fits merging roles role (global.Message sender receiver sort next) =
      message_fits role (place_of roles sender) (place_of roles receiver) (global_nodes next) (global_depth next) sort (projection merging roles role next) (tree_fits merging roles role next)
  tree_fits merging roles role (global.Choice sender receiver branches) =
      choice_fits merging role (place_of roles sender) (place_of roles receiver) (global_branch_nodes branches) (global_branch_depth branches) (projections merging roles role branches) (branches_fit merging roles role branches)

  branches_fit : (merging : Merging) (roles : List (List ℕ)) (role : ℕ) (branches : global.Branches) → AllFit (global_branch_nodes branches) (global_branch_depth branches) (projections merging roles role branches)
  branches_fit merging roles role global.NoMore = record { nodes_fit = omega arith; levels_fit = omega arith }
  branches_fit merging roles role (global.More label next others) =
      more_fit (global_nodes next) (global_branch_nodes others) (global_depth next) (global_branch_depth others) label (projection merging roles role next) (projections merging roles role others) (tree_fits merging roles role next) (branches_fit merging roles role others)

mutual
  peers_of : (IsPeer : ℕ → Type 0) (bound : List (List ℕ)) (t : LocalType) → IsFormed IsPeer bound t → AllPeers IsPeer t
  peers_of IsPeer bound End h = tt
  peers_of IsPeer bound (Var name) h = tt
  peers_of IsPeer bound (Rec name body) h = peers_of IsPeer (name ∷ bound) body h.2
  peers_of IsPeer bound (Send peer sort next) h = (h.0, peers_of IsPeer bound next h.1)
  peers_of IsPeer bound (Recv peer sort next) h = (h.0, peers_of IsPeer bound next h.1)
  peers_of IsPeer bound (Select peer branches) h = (h.0, all_peers_of IsPeer bound branches h.2)
  peers_of IsPeer bound (Branch peer branches) h = (h.0, all_peers_of IsPeer bound branches h.2)

  all_peers_of : (IsPeer : ℕ → Type 0) (bound : List (List ℕ)) (ts : Branches) → AreFormed IsPeer bound ts → AllBranchPeers IsPeer ts
  all_peers_of IsPeer bound NoMore h = tt
  all_peers_of IsPeer bound (More label t others) h = (peers_of IsPeer bound t h.0, all_peers_of IsPeer bound others h.1)

-- peers that are other roles, and no more nodes and levels than these
pub record IsFitting (count role nodes levels : ℕ) (t : LocalType) : Type 0 where
  pub others : AllPeers (IsOtherRole count role) t
  pub nodes_fit : node_count t ≤ nodes
  pub levels_fit : depth t ≤ levels

within_where : (nodes levels : ℕ) (o : Option LocalType) (t : LocalType) → o ≡ Some t → Fits nodes levels o → IsWithin nodes levels t
within_where nodes levels o t e h = subst (Fits nodes levels) e h

-- the projection fits
pub fitting : (merging : Merging) (roles : List (List ℕ)) (role : ℕ) (tree : GlobalType) (t : LocalType) → fault_of roles tree ≡ None → projection merging roles role tree ≡ Some t → IsFitting (length roles) role (global_nodes tree) (global_depth tree) t
fitting merging roles role tree t h e =
    let k = within_where (global_nodes tree) (global_depth tree) (projection merging roles role tree) t e (tree_fits merging roles role tree) in record {
      others = peers_of (IsOtherRole (length roles) role) [] t (faultless_formed merging roles role tree t h e);
      nodes_fit = k.nodes_fit;
      levels_fit = k.levels_fit;
    }

mutual
  weaker : (count role : ℕ) (t : LocalType) → AllPeers (IsOtherRole count role) t → AllPeers (λ peer. peer < count) t
  weaker count role End a = tt
  weaker count role (Var name) a = tt
  weaker count role (Rec name body) a = weaker count role body a
  weaker count role (Send peer sort next) a = (a.0.0, weaker count role next a.1)
  weaker count role (Recv peer sort next) a = (a.0.0, weaker count role next a.1)
  weaker count role (Select peer branches) a = (a.0.0, weaker_all count role branches a.1)
  weaker count role (Branch peer branches) a = (a.0.0, weaker_all count role branches a.1)

  weaker_all : (count role : ℕ) (ts : Branches) → AllBranchPeers (IsOtherRole count role) ts → AllBranchPeers (λ peer. peer < count) ts
  weaker_all count role NoMore a = tt
  weaker_all count role (More label t others) a = (weaker count role t a.0, weaker_all count role others a.1)

-- its peers are roles
pub known_peers : (merging : Merging) (roles : List (List ℕ)) (role : ℕ) (tree : GlobalType) (t : LocalType) → fault_of roles tree ≡ None → projection merging roles role tree ≡ Some t → AllPeers (λ peer. peer < length roles) t
known_peers merging roles role tree t h e = weaker (length roles) role t (fitting merging roles role tree t h e).others
