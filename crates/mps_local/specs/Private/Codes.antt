-- A local type has a code, by which proofs tell its values apart. So it may stand in the value of a struct.
use Rattle.std.specs.Prelude.{◌≡◌, ℕ, List}
use Rattle.std.specs.Coded.{Coded, coded_ℕ, coded_list}
use Rattle.std.proofs.Common.{refl, ap, arith}
use base.Stored.{Gv, gnil, gnum, gcons}
use mathlib.Core.Path.{ap₂}
use Rattle.mps_base.specs.declared.value.Sort.{Sort}
use Rattle.mps_base.specs.declared.value.Sort.TheVariants.{Int, Bool as Truth, Text}
use Rattle.mps_local.specs.Local.{LocalType, Branches, End, Var, Rec, Send, Recv, Select, Branch, NoMore, More}

-- the kind of a code, and its parts
abbrev kind : Gv → ℕ
kind gnil = 0
kind (gnum n) = n
kind (gcons a b) = kind a

abbrev front : Gv → Gv
front gnil = gnil
front (gnum n) = gnil
front (gcons a b) = a

abbrev rest : Gv → Gv
rest gnil = gnil
rest (gnum n) = gnil
rest (gcons a b) = b

-- a code of that kind, of two parts
abbrev node : ℕ → Gv → Gv → Gv
node n a b = gcons (gnum n) (gcons a b)

abbrev name_code : List ℕ → Gv
name_code name = (coded_list coded_ℕ).code name

abbrev sort_code : Sort → Gv
sort_code Int = gnum 0
sort_code Truth = gnum 1
sort_code Text = gnum 2

pub sort_inj : (s t : Sort) → sort_code s ≡ sort_code t → s ≡ t
sort_inj Int Int p = refl
sort_inj Truth Truth p = refl
sort_inj Text Text p = refl
sort_inj s t p = absurd (let e = ap kind p in omega arith)

abbrev mutual
  pub type_code : LocalType → Gv
  type_code End = gnum 0
  type_code (Var name) = node 1 (name_code name) gnil
  type_code (Rec name body) = node 2 (name_code name) (type_code body)
  type_code (Send peer sort next) = node 3 (gcons (gnum peer) (sort_code sort)) (type_code next)
  type_code (Recv peer sort next) = node 4 (gcons (gnum peer) (sort_code sort)) (type_code next)
  type_code (Select peer branches) = node 5 (gnum peer) (branches_code branches)
  type_code (Branch peer branches) = node 6 (gnum peer) (branches_code branches)

  pub branches_code : Branches → Gv
  branches_code NoMore = gnum 0
  branches_code (More label next others) = node 1 (gcons (name_code label) (type_code next)) (branches_code others)

mutual
  pub type_inj : (t u : LocalType) → type_code t ≡ type_code u → t ≡ u
  type_inj End End p = refl
  type_inj (Var x) (Var y) p = ap Var ((coded_list coded_ℕ).inj x y (ap (λ g. front (rest g)) p))
  type_inj (Rec x t) (Rec y u) p =
      ap₂ Rec ((coded_list coded_ℕ).inj x y (ap (λ g. front (rest g)) p)) (type_inj t u (ap (λ g. rest (rest g)) p))
  type_inj (Send a s t) (Send b r u) p =
      λ i. Send (ap (λ g. kind (front (front (rest g)))) p i) (sort_inj s r (ap (λ g. rest (front (rest g))) p) i)
      (type_inj t u (ap (λ g. rest (rest g)) p) i)
  type_inj (Recv a s t) (Recv b r u) p =
      λ i. Recv (ap (λ g. kind (front (front (rest g)))) p i) (sort_inj s r (ap (λ g. rest (front (rest g))) p) i)
      (type_inj t u (ap (λ g. rest (rest g)) p) i)
  type_inj (Select a b) (Select c d) p =
      ap₂ Select (ap (λ g. kind (front (rest g))) p) (branches_inj b d (ap (λ g. rest (rest g)) p))
  type_inj (Branch a b) (Branch c d) p =
      ap₂ Branch (ap (λ g. kind (front (rest g))) p) (branches_inj b d (ap (λ g. rest (rest g)) p))
  type_inj t u p = absurd (let e = ap kind p in omega arith)

  pub branches_inj : (b c : Branches) → branches_code b ≡ branches_code c → b ≡ c
  branches_inj NoMore NoMore p = refl
  branches_inj (More x t b) (More y u c) p =
      λ i. More ((coded_list coded_ℕ).inj x y (ap (λ g. front (front (rest g))) p) i)
      (type_inj t u (ap (λ g. rest (front (rest g))) p) i) (branches_inj b c (ap (λ g. rest (rest g)) p) i)
  branches_inj b c p = absurd (let e = ap kind p in omega arith)

abbrev pub coded_local : Coded LocalType
coded_local = record { code = type_code; inj = type_inj }
