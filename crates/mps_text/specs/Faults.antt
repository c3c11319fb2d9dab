-- The first fault of a text.
use Rattle.std.specs.Prelude.{◌≡◌, ◌≢◌, false, ℕ, ◌+◌, ◌<◌, ◌≤◌, ⊤, List, [], ◌∷◌, ◌++◌, length, map, Option, Some}
use Rattle.std.specs.Prelude.{None, IsTrue}
use Rattle.std.specs.List.{AllByRecursion, list_all}
use Rattle.mps_global.specs.Global.{GlobalType}
use Rattle.mps_text.specs.Tokens.{is_blank, first_is, IsTokenBefore, Begins, BeginsAll}
use Rattle.mps_text.specs.Grammar.{Part, protocol_parts, protocol_tokens, tokens_of, SpellsProtocol, SpellsText}
use Rattle.mps_text.specs.Grammar.{IsWithinLimits}
use Rattle.mps_text.specs.declared.fault.TextKind.{TextKind}
use Rattle.mps_text.specs.declared.fault.TextKind.TheVariants.{TooLong, Word, Unexpected, TooManyNodes, TooDeep}
use Rattle.mps_text.specs.declared.fault.TextKind.TheVariants.{Trailing, Memory}

-- for each token the depth of the node that it begins, or None
abbrev pub starts_of : List Part → List (Option ℕ)
starts_of parts = map (λ part. part.1) parts

-- how many nodes begin
abbrev pub nodes_begun : List (Option ℕ) → ℕ
nodes_begun [] = 0
nodes_begun (None ∷ starts) = nodes_begun starts
nodes_begun (Some depth ∷ starts) = nodes_begun starts + 1

-- no node begins, or one that isn't too deep
abbrev pub IsShallow : Option ℕ → Type 0
IsShallow None = ⊤
IsShallow (Some depth) = depth ≤ 64

-- the tokens are a whole protocol
abbrev pub IsWhole : List (List ℕ) → Type 0
IsWhole tokens = (roles : List (List ℕ)) × (tree : GlobalType) × SpellsProtocol tokens roles tree

-- some protocol begins with these tokens, and they begin these nodes
pub record Opens (front : List Part) : Type 0 where
  pub roles : List (List ℕ)
  pub tree : GlobalType
  pub spelled : SpellsProtocol (protocol_tokens roles tree) roles tree
  pub later : List Part
  pub parts : protocol_parts roles tree ≡ front ++ later

-- each node that they begin is within the limits
pub record AreWithin (front : List Part) : Type 0 where
  pub shallow : AllByRecursion IsShallow (starts_of front)
  pub few : nodes_begun (starts_of front) ≤ 256

-- what stands in front of the bytes: this token, or None where they have ended
abbrev pub Shows : List ℕ → Option (List ℕ) → Type 0
Shows bytes None = bytes ≡ []
Shows bytes (Some token) = (after : List ℕ) × (bytes ≡ token ++ after) × IsTokenBefore token after

-- neither a blank nor a token stands in front of the bytes: they begin with a byte that begins no token, a `-` without
-- `>`, or a malformed word
pub record IsMalformed (bytes : List ℕ) : Type 0 where
  pub some : bytes ≢ []
  pub no_blank : first_is is_blank bytes ≡ false
  pub no_token : (token rest : List ℕ) → Begins bytes token rest → ⊥

-- no protocol goes on with that token, or ends there, after these tokens
abbrev pub IsUnexpected : List Part → Option (List ℕ) → Type 0
IsUnexpected front None = ¬ IsWhole (tokens_of front)
IsUnexpected front (Some token) =
    (¬ IsWhole (tokens_of front)) × ((start : Option ℕ) → ¬ Opens (front ++ (token, start) ∷ []))

-- what is wrong at these bytes after the tokens
abbrev pub IsWrong : List Part → List ℕ → TextKind → Type 0
IsWrong front bytes Word = IsMalformed bytes
IsWrong front bytes Unexpected = (next : Option (List ℕ)) × Shows bytes next × IsUnexpected front next
IsWrong front bytes TooManyNodes =
    (token : List ℕ) × (depth : ℕ) × Shows bytes (Some token) × Opens (front ++ (token, Some depth) ∷ [])
    × (nodes_begun (starts_of front) ≡ 256)
IsWrong front bytes TooDeep =
    (token : List ℕ) × Shows bytes (Some token) × Opens (front ++ (token, Some 65) ∷ [])
    × (nodes_begun (starts_of front) < 256)
IsWrong front bytes Trailing = (token : List ℕ) × Shows bytes (Some token) × IsWhole (tokens_of front)
IsWrong front bytes kind = ⊥

-- the tokens in front begin a protocol within the limits, and after them something is wrong at that byte
pub record FaultAt (text : List ℕ) (at : ℕ) (kind : TextKind) : Type 0 where
  pub front : List Part
  pub rest : List ℕ
  pub read : BeginsAll text (tokens_of front) rest
  pub opens : Opens front
  pub within : AreWithin front
  pub blanks : List ℕ
  pub blank : IsTrue (list_all is_blank blanks)
  pub bytes : List ℕ
  pub parts : rest ≡ blanks ++ bytes
  pub place : at + length bytes ≡ length text
  pub wrong : IsWrong front bytes kind

-- the text has this first fault: of a text that isn't too long, where it begins no more as a protocol does; memory may
-- run out on any such text
abbrev pub IsFirstFault : List ℕ → ℕ → TextKind → Type 0
IsFirstFault text at TooLong = (65536 < length text) × (at ≡ 65536)
IsFirstFault text at Memory = length text ≤ 65536
IsFirstFault text at kind = (length text ≤ 65536) × FaultAt text at kind

-- the text spells a protocol within the limits
abbrev pub HasProtocol : List ℕ → Type 0
HasProtocol text = (roles : List (List ℕ)) × (tree : GlobalType) × IsWithinLimits text tree × SpellsText text roles tree

-- the text has a first fault other than out of memory
abbrev pub HasFault : List ℕ → Type 0
HasFault text = (at : ℕ) × (kind : TextKind) × IsFirstFault text at kind × (kind ≢ Memory)
