-- Which tokens spell a protocol.
use Rattle.std.specs.Prelude.{◌≡◌, ℕ, ◌+◌, ◌≤◌, ⊤, List, [], ◌∷◌, ◌++◌, length, map, codes, Option, Some, None, Result}
use Rattle.std.specs.Prelude.{Ok, Err}
use Rattle.std.specs.List.{AllByRecursion}
use Rattle.std.specs.Option.{option_map}
use Rattle.mps_base.specs.Names.{IsName, IsVariable}
use Rattle.mps_base.specs.RoleLists.{HasRoleCount}
use Rattle.mps_base.specs.Sorts.{sort_word}
use Rattle.mps_base.specs.Spaced.{spaced}
use Rattle.mps_global.specs.Global.{GlobalType, Branches, End, Var, Rec, Message, Choice, NoMore, More, plain}
use Rattle.mps_global.specs.Faults.{node_count, depth}
use Rattle.mps_global.specs.declared.Protocol.{Protocol}
use Rattle.mps_text.specs.Tokens.{AreTokensOf}
use Rattle.mps_text.specs.declared.fault.TextFault.{TextFault}
use Rattle.mps_text.specs.declared.fault.TextKind.TheVariants.{Memory}

-- a token of a protocol, and the depth of the node that it begins, or None
abbrev pub Part : Type 0
Part = List ℕ × Option ℕ

-- tokens that begin no node
abbrev pub inside : List (List ℕ) → List Part
inside tokens = map (λ token. (token, None)) tokens

abbrev mutual
  -- the tokens of a global type whose root has that depth; the first token of each node begins it
  pub node_parts : ℕ → GlobalType → List Part
  node_parts depth End = (codes "end", Some depth) ∷ []
  node_parts depth (Var name) = (name, Some depth) ∷ []
  node_parts depth (Rec name body) =
      (codes "rec", Some depth) ∷ inside (name ∷ codes "." ∷ []) ++ node_parts (depth + 1) body
  node_parts depth (Message sender receiver sort next) =
      (sender, Some depth) ∷ inside (codes "->" ∷ receiver ∷ codes ":" ∷ sort_word sort ∷ codes "." ∷ [])
      ++ node_parts (depth + 1) next
  node_parts depth (Choice sender receiver branches) =
      (sender, Some depth) ∷ inside (codes "->" ∷ receiver ∷ codes "{" ∷ []) ++ branch_parts (depth + 1) branches
      ++ inside (codes "}" ∷ [])

  -- the tokens of branches, with a comma between two
  pub branch_parts : ℕ → Branches → List Part
  branch_parts depth NoMore = []
  branch_parts depth (More label next NoMore) = inside (label ∷ codes ":" ∷ []) ++ node_parts depth next
  branch_parts depth (More label next others) =
      inside (label ∷ codes ":" ∷ []) ++ node_parts depth next ++ inside (codes "," ∷ []) ++ branch_parts depth others

-- the tokens of a protocol: `roles`, the roles, `;` and a global type
abbrev pub protocol_parts : List (List ℕ) → GlobalType → List Part
protocol_parts roles tree = inside (codes "roles" ∷ roles) ++ inside (codes ";" ∷ []) ++ node_parts 1 tree

-- a token and the depth of the node that it begins, if it begins one
abbrev pub begun_by : Part → Option (List ℕ × ℕ)
begun_by part = option_map (λ depth. (part.0, depth)) part.1

-- the first token of a node
abbrev pub first_token_of : GlobalType → List ℕ
first_token_of End = codes "end"
first_token_of (Var name) = name
first_token_of (Rec name body) = codes "rec"
first_token_of (Message sender receiver sort next) = sender
first_token_of (Choice sender receiver branches) = sender

-- the tokens alone
abbrev pub tokens_of : List Part → List (List ℕ)
tokens_of parts = map (λ part. part.0) parts

abbrev pub protocol_tokens : List (List ℕ) → GlobalType → List (List ℕ)
protocol_tokens roles tree = tokens_of (protocol_parts roles tree)

-- there is a branch
abbrev pub HasBranch : Branches → Type 0
HasBranch NoMore = ⊥
HasBranch (More label next others) = ⊤

abbrev mutual
  -- each choice has a branch
  pub HasBranches : GlobalType → Type 0
  HasBranches End = ⊤
  HasBranches (Var name) = ⊤
  HasBranches (Rec name body) = HasBranches body
  HasBranches (Message sender receiver sort next) = HasBranches next
  HasBranches (Choice sender receiver branches) = HasBranch branches × HaveBranches branches

  -- the same of what the branches hold
  pub HaveBranches : Branches → Type 0
  HaveBranches NoMore = ⊤
  HaveBranches (More label next others) = HasBranches next × HaveBranches others

abbrev mutual
  -- roles and labels are names, and variables are variables
  pub IsNamed : GlobalType → Type 0
  IsNamed End = ⊤
  IsNamed (Var name) = IsVariable name
  IsNamed (Rec name body) = IsVariable name × IsNamed body
  IsNamed (Message sender receiver sort next) = IsName sender × IsName receiver × IsNamed next
  IsNamed (Choice sender receiver branches) = IsName sender × IsName receiver × AreNamed branches

  -- the same of what the branches hold
  pub AreNamed : Branches → Type 0
  AreNamed NoMore = ⊤
  AreNamed (More label next others) = IsName label × IsNamed next × AreNamed others

-- what the text of a protocol can say: names are names, and each choice has a branch
abbrev pub IsSpellable : GlobalType → Type 0
IsSpellable tree = IsNamed tree × HasBranches tree

-- how a protocol is written: its tokens with one space between two
abbrev pub protocol_text : List (List ℕ) → GlobalType → List ℕ
protocol_text roles tree = spaced (protocol_tokens roles tree)

-- the tokens spell the protocol, which has 2 to 8 roles
pub record SpellsProtocol (tokens roles : List (List ℕ)) (tree : GlobalType) : Type 0 where
  pub names : AllByRecursion IsName roles
  pub count : HasRoleCount roles
  pub body : IsSpellable tree
  pub parts : tokens ≡ protocol_tokens roles tree

-- the text spells the protocol
pub record SpellsText (text : List ℕ) (roles : List (List ℕ)) (tree : GlobalType) : Type 0 where
  pub tokens : List (List ℕ)
  pub cut : AreTokensOf text tokens
  pub spelled : SpellsProtocol tokens roles tree

-- at most 65,536 bytes, 256 nodes and 64 nodes on a path
pub record IsWithinLimits (text : List ℕ) (tree : GlobalType) : Type 0 where
  pub short : length text ≤ 65536
  pub small : node_count tree ≤ 256
  pub shallow : depth tree ≤ 64

-- the text spells this protocol within the limits, and no other
pub record SpellsOnly (text : List ℕ) (roles : List (List ℕ)) (tree : GlobalType) : Type 0 where
  pub limits : IsWithinLimits text tree
  pub spelled : SpellsText text roles tree
  pub only : (r : List (List ℕ)) (t : GlobalType) → SpellsText text r t → (r ≡ roles) × (t ≡ tree)

-- the protocol was read, or memory ran out
abbrev pub IsRead : List (List ℕ) → GlobalType → Result Protocol TextFault → Type 0
IsRead roles tree (Ok protocol) = (protocol.roles.items ≡ roles) × (plain protocol.body ≡ tree)
IsRead roles tree (Err fault) = fault.kind ≡ Memory
