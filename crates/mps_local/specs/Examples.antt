-- Worked projections: trees whose local types were worked out by hand, and choices that a third role can't merge.
use Rattle.std.specs.Prelude.{◌≡◌, ℕ, zero, suc, List, [], ◌∷◌, Some, None, codes}
use Rattle.mps_base.specs.declared.value.Sort.TheVariants.{Int, Bool as Truth, Text}
use Rattle.mps_global.specs.Global as global
use Rattle.mps_global.specs.Global.{GlobalType, Message, Choice}
use Rattle.mps_local.specs.Local.{LocalType, Branches, End, Var, Rec, Send, Recv, Select, Branch, NoMore, More}
use Rattle.mps_local.specs.Projection.{projection, examined, first_unmerged}
use Rattle.mps_local.specs.declared.merging.Merging.{Merging}
use Rattle.mps_local.specs.declared.merging.Merging.TheVariants.{Plain, Full}

-- three roles, by their names and by their places
abbrev pub a : List ℕ
a = codes "a"

abbrev pub b : List ℕ
b = codes "b"

abbrev pub c : List ℕ
c = codes "c"

abbrev pub three : List (List ℕ)
three = a ∷ b ∷ c ∷ []

abbrev pub at_a : ℕ
at_a = 0

abbrev pub at_b : ℕ
at_b = 1

abbrev pub at_c : ℕ
at_c = 2

-- with that kind of merging the role at that place does that in the tree, and no choice is named
abbrev pub DoesWith : Merging → ℕ → GlobalType → LocalType → Type 0
DoesWith merging role tree t =
    (projection merging three role tree ≡ Some t)
    × (first_unmerged merging three role (examined three role 0 tree) ≡ None)

-- the role does that in the tree with either kind
abbrev pub Does : ℕ → GlobalType → LocalType → Type 0
Does role tree t = DoesWith Plain role tree t × DoesWith Full role tree t

-- with that kind of merging c has no projection, and the first choice of the tree is named
abbrev pub CantMergeWith : Merging → GlobalType → Type 0
CantMergeWith merging tree =
    (projection merging three at_c tree ≡ None)
    × (first_unmerged merging three at_c (examined three at_c 0 tree) ≡ Some 0)

-- so it is with either kind
abbrev pub CantMergeFirst : GlobalType → Type 0
CantMergeFirst tree = CantMergeWith Plain tree × CantMergeWith Full tree

-- c has that type with full merging, and none with plain merging
abbrev pub MergesFully : GlobalType → LocalType → Type 0
MergesFully tree t = CantMergeWith Plain tree × DoesWith Full at_c tree t

-- a chooses between two labels, and b takes the choice
abbrev pub chosen : GlobalType → GlobalType → GlobalType
chosen left right = Choice a b (global.More (codes "l") left (global.More (codes "r") right global.NoMore))

-- an integer from the one role to the other
abbrev pub int_to : List ℕ → List ℕ → GlobalType → GlobalType
int_to sender receiver next = Message sender receiver Int next

abbrev pub bool_to : List ℕ → List ℕ → GlobalType → GlobalType
bool_to sender receiver next = Message sender receiver Truth next

-- a choice of one label, and then the end
abbrev pub only : List ℕ → List ℕ → List ℕ → GlobalType
only sender receiver label = Choice sender receiver (global.More label global.End global.NoMore)

-- the same, and then that
abbrev pub told : List ℕ → List ℕ → List ℕ → GlobalType → GlobalType
told sender receiver label next = Choice sender receiver (global.More label next global.NoMore)

-- a chooses among three labels, and b takes the choice
abbrev pub chosen_of_three : GlobalType → GlobalType → GlobalType → GlobalType
chosen_of_three left middle right =
    Choice a b
    (global.More (codes "l") left (global.More (codes "m") middle (global.More (codes "r") right global.NoMore)))

-- a choice of two labels, and then the end
abbrev pub one_of : List ℕ → List ℕ → List ℕ → List ℕ → GlobalType
one_of sender receiver label other =
    Choice sender receiver (global.More label global.End (global.More other global.End global.NoMore))

-- so many labels, with these numbers as their codes, and then the end
abbrev pub counted : ℕ → ℕ → global.Branches
counted zero first = global.NoMore
counted (suc n) first = global.More (first ∷ []) global.End (counted n (suc first))

-- the same, as branches of a local type
abbrev pub counted_labels : ℕ → ℕ → Branches
counted_labels zero first = NoMore
counted_labels (suc n) first = More (first ∷ []) End (counted_labels n (suc first))

-- a loop that three roles leave together: c hears from a whether there is another round
abbrev pub rounds : GlobalType
rounds =
    global.Rec (codes "X")
    (chosen (told a c (codes "more") (int_to c a (global.Var (codes "X")))) (told a c (codes "stop") global.End))

-- both in a loop in a loop
abbrev pub in_loops : GlobalType → GlobalType
in_loops tree = global.Rec (codes "X") (global.Rec (codes "Y") tree)

-- back to the outer loop, and to the inner one
abbrev pub outer : GlobalType
outer = global.Var (codes "X")

abbrev pub inner : GlobalType
inner = global.Var (codes "Y")

-- an integer goes from a to b and on to c, who tells a whether it will do
abbrev pub relay : GlobalType
relay =
    int_to a b (int_to b c
    (Choice c a (global.More (codes "ok") global.End (global.More (codes "no") global.End global.NoMore))))

-- the branches of two labels after which all ends
abbrev pub ok_or_no : Branches
ok_or_no = More (codes "ok") End (More (codes "no") End NoMore)

-- a loop in which b takes part, in a loop in which c does too
abbrev pub loops : GlobalType
loops = global.Rec (codes "X") (int_to a c (global.Rec (codes "Y") (int_to a b outer)))

-- one integer after the other to b
abbrev pub ping : LocalType
ping = Rec (codes "X") (Send at_b Int (Var (codes "X")))

-- an integer from c, and then a loop of the same name
abbrev pub ping_pong : LocalType
ping_pong = Rec (codes "X") (Recv at_c Int ping)

-- the choice to go on or to stop, where a text comes back before the type goes on so
abbrev pub go_or_stop : LocalType → Branches
go_or_stop next = More (codes "go") (Recv at_b Text next) (More (codes "stop") End NoMore)

-- b is told to go or to stop, again and again
abbrev pub asking : LocalType
asking = Rec (codes "X") (Select at_b (go_or_stop (Var (codes "X"))))

-- b tells to go or to stop, again and again
abbrev pub asked : LocalType
asked = Rec (codes "X") (Branch at_b (go_or_stop (Var (codes "X"))))

-- an int to c, and then in a loop of its own one to b, which leads back to the outer loop
abbrev pub turns : LocalType
turns = Rec (codes "X") (Send at_c Int (Rec (codes "Y") (Send at_b Int (Var (codes "X")))))

-- the inner loop of these, in which the outer one is opened
abbrev pub inner_turn : LocalType
inner_turn = Rec (codes "Y") (Send at_b Int turns)
