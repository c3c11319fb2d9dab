-- Local types as trees, apart from where they lie in memory (Honda, Yoshida, Carbone, POPL 2008).
use Rattle.std.specs.Prelude.{ℕ, List}
use Rattle.mps_base.specs.declared.value.Sort.{Sort}
use Rattle.mps_local.specs.declared.Local.{Local, End as End', Var as Var', Rec', Send', Recv', Select as Select'}
use Rattle.mps_local.specs.declared.Local.{Branch as Branch'}
use Rattle.mps_local.specs.declared.Branches.{Branches as Branches', NoMore as NoMore', More'}

mutual
  -- what one role may do, from here on. Peers are places in the list of roles, names are their bytes
  pub data LocalType : Type 0 where
    End : LocalType
    Var : (name : List ℕ) → LocalType
    Rec : (name : List ℕ) (body : LocalType) → LocalType
    Send : (peer : ℕ) (sort : Sort) (next : LocalType) → LocalType
    Recv : (peer : ℕ) (sort : Sort) (next : LocalType) → LocalType
    Select : (peer : ℕ) (branches : Branches) → LocalType
    Branch : (peer : ℕ) (branches : Branches) → LocalType

  -- the branches of a choice, each a label and what follows it
  pub data Branches : Type 0 where
    NoMore : Branches
    More : (label : List ℕ) (next : LocalType) (others : Branches) → Branches

abbrev mutual
  -- a tree of the program as a tree
  pub plain : Local → LocalType
  plain End' = End
  plain (Var' name) = Var name
  plain (Rec' name p body) = Rec name (plain body)
  plain (Send' peer sort p next) = Send peer sort (plain next)
  plain (Recv' peer sort p next) = Recv peer sort (plain next)
  plain (Select' peer branches) = Select peer (plain_branches branches)
  plain (Branch' peer branches) = Branch peer (plain_branches branches)

  -- its branches as branches
  pub plain_branches : Branches' → Branches
  plain_branches NoMore' = NoMore
  plain_branches (More' label p next q others) = More label (plain next) (plain_branches others)

-- what comes after the first act that gives or takes a value
abbrev pub rest_of : LocalType → LocalType
rest_of (Send peer sort next) = next
rest_of (Recv peer sort next) = next
rest_of t = t
