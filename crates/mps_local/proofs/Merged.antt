-- Which branches merge, and what a merged type has in common with those that it stands for.
use Rattle.std.proofs.Common.{arith, ◌≡◌, ◌≢◌, ℕ, Bool, true, false, cond, List, [], Option, None, Some, refl, sym, ap, ◌∙◌, subst}
use Rattle.std.specs.Prelude.{◌&&◌, ◌==◌, nat_lt, length, option_and_then}
use Rattle.std.specs.List.{AllByRecursion}
use Rattle.std.specs.Option.{option_map}
use Rattle.std.specs.Str.{bytes_eq}
use Rattle.std.proofs.lemmas.Bool.{and_parts, eqb-true}
use Rattle.mps_base.specs.Sorts.{same_sort}
use Rattle.mps_base.specs.declared.value.Sort.{Sort}
use Rattle.mps_local.specs.Actions.{branch_at, labels, nexts}
use Rattle.mps_local.specs.Local.{LocalType, Branches, End, Var, Rec, Send, Recv, Select, Branch, NoMore, More}
use Rattle.mps_local.specs.Loops.{ends_in}
use Rattle.mps_local.specs.Merged.{same, without, or_itself, merge, merge_each, merge_picks, few_picks, merge_by, merge_all, merged}
use Rattle.mps_local.specs.declared.merging.Merging.{Merging}
use Rattle.mps_local.specs.declared.merging.Merging.TheVariants.{Plain, Full}
use Rattle.mps_local.proofs.Equal.{name_is, same_is, same_sort_is, same_of_equal}
use Rattle.mps_local.proofs.Unmerged.{map_some, and_then_some}

-- each of the types is that one
abbrev pub AllAre : LocalType → List LocalType → Type 0
AllAre t ts = AllByRecursion (λ u. u ≡ t) ts

pub if_some : {A : Type 0} (b : Bool) (o : Option A) (x : A) → cond b o None ≡ Some x → (b ≡ true) × (o ≡ Some x)
if_some b o x e = grind arith

all_are : (first t : LocalType) (b : Branches) → merge_all Plain first b ≡ Some t → (first ≡ t) × AllAre t (nexts b)
all_are first t NoMore e = (let k : first ≡ t = cc in k, tt)
all_are first t (More label u others) e =
    let k = and_then_some (λ both. merge_all Plain both others) (merge_by Plain first u) t e in
    let i = if_some (same first u) (Some first) k.0 k.1 in
    let f = i.1 in let j : first ≡ k.0 = cc in
    let l = all_are k.0 t others k.2 in
    (j ∙ l.0, (sym (same_is first u i.0) ∙ j ∙ l.0, l.1))

go_on : (t : LocalType) (b : Branches) → AllAre t (nexts b) → merge_all Plain t b ≡ Some t
go_on t NoMore h = refl
go_on t (More label u others) h = rw (same_of_equal t u (sym h.0)) (go_on t others h.1)

pub merged_are : (b : Branches) (t : LocalType) → merged Plain b ≡ Some t → (nexts b ≢ []) × AllAre t (nexts b)
merged_are b t e = grind (arith, all_are)

pub are_merged : (b : Branches) (t : LocalType) → (nexts b ≢ []) × AllAre t (nexts b) → merged Plain b ≡ Some t
are_merged b t h = grind (arith, go_on)

-- what merging two types keeps is kept by merging branches, by either kind
pub merge_by_keeps : (P : LocalType → Type 0) → ((t u v : LocalType) → merge t u ≡ Some v → P t → P u → P v) → (merging : Merging) (t u v : LocalType) → merge_by merging t u ≡ Some v → P t → P u → P v
merge_by_keeps P keeps Plain t u v e h k =
    let i = if_some (same t u) (Some t) v e in let f = i.1 in let j : t ≡ v = cc in
    subst P j h
merge_by_keeps P keeps Full t u v e h k = keeps t u v e h k

merge_all_keeps : (P : LocalType → Type 0) → ((t u v : LocalType) → merge t u ≡ Some v → P t → P u → P v) → (merging : Merging) (first t : LocalType) (b : Branches) → merge_all merging first b ≡ Some t → P first → AllByRecursion P (nexts b) → P t
merge_all_keeps P keeps merging first t NoMore e h hs = let j : first ≡ t = cc in subst P j h
merge_all_keeps P keeps merging first t (More label u others) e h hs =
    let k = and_then_some (λ both. merge_all merging both others) (merge_by merging first u) t e in
    merge_all_keeps P keeps merging k.0 t others k.2 (merge_by_keeps P keeps merging first u k.0 k.1 h hs.0) hs.1

pub merged_keeps : (P : LocalType → Type 0) → ((t u v : LocalType) → merge t u ≡ Some v → P t → P u → P v) → (merging : Merging) (b : Branches) (t : LocalType) → merged merging b ≡ Some t → AllByRecursion P (nexts b) → P t
merged_keeps P keeps merging NoMore t e h = absurd cc
merged_keeps P keeps merging (More label u others) t e h = merge_all_keeps P keeps merging u t others e h.0 h.1

-- the parts of a merged type: both began alike
pub rec_merged : (x y : List ℕ) (t u v : LocalType) → merge (Rec x t) (Rec y u) ≡ Some v → (w : LocalType) × (x ≡ y) × (merge t u ≡ Some w) × (Rec x w ≡ v)
rec_merged x y t u v e =
    let i = if_some (bytes_eq x y) (option_map (Rec x) (merge t u)) v e in
    let m = map_some (Rec x) (merge t u) v i.1 in
    (m.0, name_is x y i.0, m.1, m.2)

alike : (p q : ℕ) (s r : Sort) → (p == q && same_sort s r) ≡ true → (p ≡ q) × (s ≡ r)
alike p q s r e = let k = and_parts (p == q) (same_sort s r) e in (eqb-true p q k.0, same_sort_is s r k.1)

pub send_merged : (p q : ℕ) (s r : Sort) (t u v : LocalType) → merge (Send p s t) (Send q r u) ≡ Some v → (w : LocalType) × (p ≡ q) × (s ≡ r) × (merge t u ≡ Some w) × (Send p s w ≡ v)
send_merged p q s r t u v e =
    let i = if_some (p == q && same_sort s r) (option_map (Send p s) (merge t u)) v e in
    let a = alike p q s r i.0 in
    let m = map_some (Send p s) (merge t u) v i.1 in
    (m.0, a.0, a.1, m.1, m.2)

pub recv_merged : (p q : ℕ) (s r : Sort) (t u v : LocalType) → merge (Recv p s t) (Recv q r u) ≡ Some v → (w : LocalType) × (p ≡ q) × (s ≡ r) × (merge t u ≡ Some w) × (Recv p s w ≡ v)
recv_merged p q s r t u v e =
    let i = if_some (p == q && same_sort s r) (option_map (Recv p s) (merge t u)) v e in
    let a = alike p q s r i.0 in
    let m = map_some (Recv p s) (merge t u) v i.1 in
    (m.0, a.0, a.1, m.1, m.2)

pub select_merged : (p q : ℕ) (b c : Branches) (v : LocalType) → merge (Select p b) (Select q c) ≡ Some v → (d : Branches) × (p ≡ q) × (merge_each b c ≡ Some d) × (Select p d ≡ v)
select_merged p q b c v e =
    let i = if_some (p == q) (option_map (Select p) (merge_each b c)) v e in
    let m = map_some (Select p) (merge_each b c) v i.1 in
    (m.0, eqb-true p q i.0, m.1, m.2)

few_merged : (b c d : Branches) → few_picks b c ≡ Some d → (merge_picks b c ≡ Some d) × (nat_lt 16 (length (labels d)) ≡ false)
few_merged b c d e = grind (arith, and_then_some)

pub pick_merged : (p q : ℕ) (b c : Branches) (v : LocalType) → merge (Branch p b) (Branch q c) ≡ Some v → (d : Branches) × (p ≡ q) × (merge_picks b c ≡ Some d) × (nat_lt 16 (length (labels d)) ≡ false) × (Branch p d ≡ v)
pick_merged p q b c v e =
    let i = if_some (p == q) (option_map (Branch p) (few_picks b c)) v e in
    let m = map_some (Branch p) (few_picks b c) v i.1 in
    let f = few_merged b c m.0 m.1 in
    (m.0, eqb-true p q i.0, f.0, f.1, m.2)

pair_merged : (l : List ℕ) (o : Option LocalType) (os : Option Branches) (d : Branches) → option_and_then (λ w. option_and_then (λ ws. Some (More l w ws)) os) o ≡ Some d → (w : LocalType) × (ws : Branches) × (o ≡ Some w) × (os ≡ Some ws) × (More l w ws ≡ d)
pair_merged l o os d e =
    let k = and_then_some (λ w. option_and_then (λ ws. Some (More l w ws)) os) o d e in
    let m = and_then_some (λ ws. Some (More l k.0 ws)) os d k.2 in
    let f = m.2 in let n : More l k.0 m.0 ≡ d = cc in
    (k.0, m.0, k.1, m.1, n)

pub each_merged : (l m : List ℕ) (t u : LocalType) (b c d : Branches) → merge_each (More l t b) (More m u c) ≡ Some d → (w : LocalType) × (ws : Branches) × (l ≡ m) × (merge t u ≡ Some w) × (merge_each b c ≡ Some ws) × (More l w ws ≡ d)
each_merged l m t u b c d e =
    let i = if_some (bytes_eq l m) (option_and_then (λ w. option_and_then (λ ws. Some (More l w ws)) (merge_each b c)) (merge t u)) d e in
    let p = pair_merged l (merge t u) (merge_each b c) d i.1 in
    (p.0, p.1, name_is l m i.0, p.2, p.3, p.4)

-- what follows a label of both is merged, and what follows a label of the first alone stays
pub data Met (t : LocalType) (o : Option LocalType) (w : LocalType) : Type 0 where
  alone : o ≡ None → t ≡ w → Met t o w
  both : (u : LocalType) → o ≡ Some u → merge t u ≡ Some w → Met t o w

met : (t w : LocalType) (o : Option LocalType) → or_itself t (option_map (λ u. merge t u) o) ≡ Some w → Met t o w
met t w None e = alone refl (let k : t ≡ w = cc in k)
met t w (Some u) e = both u refl e

pub picks_merged : (l : List ℕ) (t : LocalType) (b c d : Branches) → merge_picks (More l t b) c ≡ Some d → (w : LocalType) × (ws : Branches) × Met t (branch_at l c) w × (merge_picks b (without l c) ≡ Some ws) × (More l w ws ≡ d)
picks_merged l t b c d e =
    let p = pair_merged l (or_itself t (option_map (λ u. merge t u) (branch_at l c))) (merge_picks b (without l c)) d e in
    (p.0, p.1, met t p.0 (branch_at l c) p.2, p.3, p.4)

-- a merged type comes to the variables that each type comes to before an action
pub merge_ends : (x : List ℕ) (t u v : LocalType) → merge t u ≡ Some v → (ends_in x v ≡ ends_in x t) × (ends_in x v ≡ ends_in x u)
merge_ends x End End v e = let i : v ≡ End = cc in (ap (ends_in x) i, ap (ends_in x) i)
merge_ends x (Var y) (Var z) v e =
    let i = if_some (bytes_eq y z) (Some (Var y)) v e in let f = i.1 in let j : v ≡ Var y = cc in
    let k = ap (ends_in x) j in (k, k ∙ ap (λ (w : List ℕ). bytes_eq w x) (name_is y z i.0))
merge_ends x (Rec y t) (Rec z u) v e =
    let m = rec_merged y z t u v e in
    let k = merge_ends x t u m.0 m.2 in
    let j = ap (ends_in x) (sym m.3) in
    (j ∙ ap (λ (b : Bool). cond (bytes_eq y x) false b) k.0, j ∙ ap (λ (b : Bool). cond (bytes_eq y x) false b) k.1 ∙ ap (λ (w : List ℕ). cond (bytes_eq w x) false (ends_in x u)) m.1)
merge_ends x (Send p s t) (Send q r u) v e = let m = send_merged p q s r t u v e in let j = ap (ends_in x) (sym m.4) in (j, j)
merge_ends x (Recv p s t) (Recv q r u) v e = let m = recv_merged p q s r t u v e in let j = ap (ends_in x) (sym m.4) in (j, j)
merge_ends x (Select p b) (Select q c) v e = let m = select_merged p q b c v e in let j = ap (ends_in x) (sym m.3) in (j, j)
merge_ends x (Branch p b) (Branch q c) v e = let m = pick_merged p q b c v e in let j = ap (ends_in x) (sym m.4) in (j, j)
merge_ends x t u v e = absurd cc

merge_by_ends : (x : List ℕ) (merging : Merging) (t u v : LocalType) → merge_by merging t u ≡ Some v → (ends_in x v ≡ ends_in x t) × (ends_in x v ≡ ends_in x u)
merge_by_ends x Plain t u v e = let i = if_some (same t u) (Some t) v e in let j = same_is t u i.0 in grind arith
merge_by_ends x Full t u v e = merge_ends x t u v e

-- a type that stands for branches comes to the variables that each of them comes to before an action
all_end : (x : List ℕ) (merging : Merging) (first t : LocalType) (b : Branches) → merge_all merging first b ≡ Some t → (ends_in x t ≡ ends_in x first) × AllByRecursion (λ u. ends_in x t ≡ ends_in x u) (nexts b)
all_end x merging first t NoMore e = (let j : t ≡ first = cc in ap (ends_in x) j, tt)
all_end x merging first t (More label u others) e =
    let k = and_then_some (λ both. merge_all merging both others) (merge_by merging first u) t e in
    let m = merge_by_ends x merging first u k.0 k.1 in
    let r = all_end x merging k.0 t others k.2 in
    (r.0 ∙ m.0, (r.0 ∙ m.1, r.1))

pub merged_ends : (x : List ℕ) (merging : Merging) (b : Branches) (t : LocalType) → merged merging b ≡ Some t → AllByRecursion (λ u. ends_in x t ≡ ends_in x u) (nexts b)
merged_ends x merging NoMore t e = tt
merged_ends x merging (More label u others) t e = all_end x merging u t others e
