-- What a row says of the types that its node stands for.
use Rattle.std.proofs.Common.{◌≡◌, ℕ, zero, suc, ◌+◌, List, [], ◌∷◌, length, length-take, take, drop, Option, Some, refl, sym, subst, arith, add-zero}
use Rattle.std.specs.Prelude.{slice_get}
use Rattle.std.specs.List.{AllByRecursion}
use Rattle.mps_local.specs.Local.{LocalType}
use Rattle.mps_local.specs.Actions.{Head, Begins, first_action, type_left, continuation}
use Rattle.mps_local.proofs.Leading.{paired}
use Rattle.std.proofs.lemmas.Option.{slice_get_within}
use Rattle.mps_local.specs.Unfolding.{unfolded}
use Rattle.mps_table.specs.declared.row.TableRow.{TableRow}
use Rattle.mps_table.specs.Expects.{Allows}
use Rattle.mps_table.specs.Graph.{Graph, IsNode, HasNext, shown, next_of}
use Rattle.mps_table.specs.Standing.{HasFrom, StandsIn, StandFrom, IsRowOf, AreRowsOf, StandsFor}

-- what all are, the one at that place is
pub all_at : {A : Type 0} (P : A → Type 0) (xs : List A) (n : ℕ) (x : A) → AllByRecursion P xs → slice_get xs n ≡ Some x → P x
all_at P [] n x a e = absurd cc
all_at P (y ∷ xs) zero x a e = subst P (let k : y ≡ x = cc in k) a.0
all_at P (y ∷ xs) (suc n) x a e = all_at P xs n x a.1 e

-- the row of a node is that of its type
pub row_at : (g : Graph) (types : List LocalType) (rows : List TableRow) (ts : List LocalType) (n : ℕ) (row : TableRow) (t : LocalType) → AreRowsOf g types rows ts → slice_get rows n ≡ Some row → slice_get ts n ≡ Some t → IsRowOf g types row t
row_at g types (x ∷ xs) (u ∷ us) zero row t a e f = grind arith
row_at g types (x ∷ xs) (u ∷ us) (suc n) row t a e f = row_at g types xs us n row t a.1 e f
row_at g types other others n row t a e f = absurd cc

has_behind : {A : Type 0} (y : A) (ys : List A) (from : ℕ) (xs : List A) → HasFrom (y ∷ ys) (suc from) xs → HasFrom ys from xs
has_behind y ys from [] h = tt
has_behind y ys from (x ∷ xs) h = (h.0, has_behind y ys (suc from) xs h.1)

-- what the list has from a place on is that part of it
pub from_is : {A : Type 0} (list : List A) (from : ℕ) (xs : List A) → HasFrom list from xs → take (length xs) (drop from list) ≡ xs
from_is list from [] h = refl
from_is [] from (x ∷ xs) h = absurd (cc)
from_is (y ∷ ys) zero (x ∷ xs) h = cc (from_is ys zero xs (has_behind y ys zero xs h.1))
from_is (y ∷ ys) (suc from) (x ∷ xs) h = from_is ys from (x ∷ xs) (has_behind y ys from (x ∷ xs) h)

-- what a row shows is how its type begins
row_begins : (g : Graph) (types : List LocalType) (row : TableRow) (t : LocalType) → IsRowOf g types row t → Begins (shown g row) t
row_begins g types row t h = grind (arith, from_is)

-- what a node's row shows is how each type begins for which it stands
pub begins : (g : Graph) (node : ℕ) (row : TableRow) (t : LocalType) → slice_get g.rows node ≡ Some row → StandsFor g node t → Begins (shown g row) (unfolded t)
begins g node row t e s = grind (arith, row_begins g s.0 row (unfolded t) (row_at g s.0 g.rows s.0 node row (unfolded t) s.1 e s.2))

-- the node after the label of a place has the type after it
target_at : (types : List LocalType) (targets : List ℕ) (first : ℕ) (ts : List LocalType) (place node : ℕ) (u : LocalType) → StandFrom types targets first ts → slice_get ts place ≡ Some u → slice_get targets (first + place) ≡ Some node → StandsIn types node u
target_at types targets first [] place node u s e f = absurd cc
target_at types targets first (t ∷ ts) zero node u s e f = grind (arith, add-zero)
target_at types targets first (t ∷ ts) (suc place) node u s e f =
    target_at types targets (suc first) ts place node u s.1 e (let k : first + suc place ≡ suc first + place = omega arith in rw k at f)

-- the node that follows a row has the type that follows
row_follows : (g : Graph) (types : List LocalType) (choice : Option ℕ) (row : TableRow) (t u : LocalType) (node : ℕ) → IsRowOf g types row t → continuation t choice ≡ Some u → next_of g choice row ≡ Some node → StandsIn types node u
row_follows g types choice row t u node h e f = grind (arith, target_at)

-- the node that follows stands for what is left of each type for which the node stands
pub follows : (g : Graph) (node after : ℕ) (choice : Option ℕ) (row : TableRow) (t u : LocalType) → slice_get g.rows node ≡ Some row → next_of g choice row ≡ Some after → StandsFor g node t → type_left t choice ≡ Some u → StandsFor g after u
follows g node after choice row t u e f s left = grind (arith, row_follows g s.0 choice row (unfolded t) u after (row_at g s.0 g.rows s.0 node row (unfolded t) s.1 e s.2) left f)

-- the same, of what is shown
pub shown_begins : (g : Graph) (node : ℕ) (row : TableRow) (h : Head) (t : LocalType) → slice_get g.rows node ≡ Some row → h ≡ shown g row → StandsFor g node t → Begins h (unfolded t)
shown_begins g node row h t e f s = subst (λ (x : Head). Begins x (unfolded t)) (sym f) (begins g node row t e s)

-- each type has its row
row_of : (g : Graph) (types : List LocalType) (rows : List TableRow) (ts : List LocalType) (n : ℕ) (t : LocalType) → AreRowsOf g types rows ts → slice_get ts n ≡ Some t → (row : TableRow) × (slice_get rows n ≡ Some row) × IsRowOf g types row t
row_of g types [] [] n t a e = absurd cc
row_of g types (x ∷ xs) (u ∷ us) zero t a e = (x, refl, subst (λ (y : LocalType). IsRowOf g types x y) (let k : u ≡ t = cc in k) a.0)
row_of g types (x ∷ xs) (u ∷ us) (suc n) t a e = row_of g types xs us n t a.1 e
row_of g types other others n t a e = absurd a

-- a node that stands for a type is one of the table
pub node_stands : (g : Graph) (node : ℕ) (t : LocalType) → StandsFor g node t → IsNode g node
node_stands g node t s = grind (arith, row_of, slice_get_within)

-- where something is left of the type, the node has a next one
pub next_stands : (g : Graph) (node : ℕ) (choice : Option ℕ) (t u : LocalType) → StandsFor g node t → type_left t choice ≡ Some u → HasNext g node choice
next_stands g node choice t u s e = grind (arith, row_of, follows, slice_get_within, paired)

-- a type begins in one way only
pub head_begins : (h : Head) (t : LocalType) → Begins h t → first_action t ≡ h
head_begins h t b = grind arith

pub next_allowed : (g : Graph) (node : ℕ) (row : TableRow) (h : Head) (choice : Option ℕ) → slice_get g.rows node ≡ Some row → h ≡ shown g row → Allows choice h → HasNext g node choice
next_allowed g node row h choice e f a = grind (arith, follows, length-take)
