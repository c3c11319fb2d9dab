-- Global types as trees, apart from where they lie in memory. Global types are those of Honda, Yoshida, Carbone
-- (Multiparty asynchronous session types, POPL 2008), without channels and parallel composition; limits and the order
-- of faults are this project's.
use Rattle.std.specs.Prelude.{ℕ, List}
use Rattle.mps_base.specs.declared.value.Sort.{Sort}
use Rattle.mps_global.specs.declared.Global.{Global, End as End', Var as Var', Rec', Message', Choice as Choice'}
use Rattle.mps_global.specs.declared.Branches.{Branches as Branches', NoMore as NoMore', More'}

mutual
  -- what a whole session may say, from here on. Roles, labels and variables are their bytes
  pub data GlobalType : Type 0 where
    End : GlobalType
    Var : (name : List ℕ) → GlobalType
    Rec : (name : List ℕ) (body : GlobalType) → GlobalType
    Message : (sender receiver : List ℕ) (sort : Sort) (next : GlobalType) → GlobalType
    Choice : (sender receiver : List ℕ) (branches : Branches) → GlobalType

  -- the branches of a choice, each a label and what follows it
  pub data Branches : Type 0 where
    NoMore : Branches
    More : (label : List ℕ) (next : GlobalType) (others : Branches) → Branches

abbrev mutual
  -- a tree of the program as a tree
  pub plain : Global → GlobalType
  plain End' = End
  plain (Var' name) = Var name
  plain (Rec' name p body) = Rec name (plain body)
  plain (Message' sender receiver sort p next) = Message sender receiver sort (plain next)
  plain (Choice' sender receiver branches) = Choice sender receiver (plain_branches branches)

  -- its branches as branches
  pub plain_branches : Branches' → Branches
  plain_branches NoMore' = NoMore
  plain_branches (More' label p next q others) = More label (plain next) (plain_branches others)
