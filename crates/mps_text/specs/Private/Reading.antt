-- Reading tokens from left to right, up to the first fault.
use Rattle.std.specs.Prelude.{◌≡◌, ℕ, ◌+◌, ◌-◌, ⊤, Bool, true, false, ◌==◌, ◌&&◌, nat_lt, List, [], ◌∷◌, ◌++◌, codes}
use Rattle.std.specs.Prelude.{Option, Some, None, Result, Ok, Err, if◌then◌else◌}
use Rattle.std.specs.Str.{bytes_eq}
use Rattle.mps_base.specs.Names.{IsName, IsVariable}
use Rattle.mps_base.specs.declared.value.Sort.{Sort}
use Rattle.mps_base.specs.declared.value.Sort.TheVariants.{Int, Bool as Truth, Text}
use Rattle.mps_global.specs.Global.{GlobalType, Branches, End, Var, Rec, Message, Choice, NoMore, More}
use Rattle.mps_base.specs.Sorts.{sort_word}
use Rattle.mps_text.specs.Grammar.{AreNamed, HaveBranches}
use Rattle.mps_text.specs.Private.Lexing.{Fault, ◌>>=◌, Lexed, Ended, Malformed, Next, lexed, tokens_in, is_name}
use Rattle.mps_text.specs.Private.Lexing.{is_variable}
use Rattle.mps_text.specs.declared.fault.TextKind.TheVariants.{Word, Unexpected, TooManyNodes, TooDeep, Trailing}
use Rattle.mps_text.specs.declared.lexing.Cursor.{Cursor}
use Rattle.mps_text.specs.declared.lexing.Halt.{Halt}
use Rattle.mps_text.specs.declared.lexing.Halt.TheVariants as halts
use Rattle.mps_text.specs.declared.lexing.Lexeme.{Lexeme as Lexeme'}
use Rattle.mps_text.specs.declared.reading.First.{First}
use Rattle.mps_text.specs.declared.reading.First.TheVariants as firsts

-- ---- one token

-- how a global type begins with the token
unfoldable pub first_of : List ℕ → Option First
first_of token =
    if bytes_eq token (codes "end") then Some firsts.End
    else (if bytes_eq token (codes "rec") then Some firsts.Rec
    else (if is_name token then Some (firsts.Sender token)
    else (if is_variable token then Some (firsts.Var token)
    else None)))

-- the token with which it begins so
abbrev pub first_token : First → List ℕ
first_token firsts.End = codes "end"
first_token firsts.Rec = codes "rec"
first_token (firsts.Sender name) = name
first_token (firsts.Var name) = name

-- a sender is a name, a variable is one
abbrev pub IsFirst : First → Type 0
IsFirst firsts.End = ⊤
IsFirst firsts.Rec = ⊤
IsFirst (firsts.Sender name) = IsName name
IsFirst (firsts.Var name) = IsVariable name

-- the sort that the token names
unfoldable pub sort_of : List ℕ → Option Sort
sort_of token =
    if bytes_eq token (codes "int") then Some Int
    else (if bytes_eq token (codes "bool") then Some Truth
    else (if bytes_eq token (codes "text") then Some Text
    else None))

-- which of two tokens it is
unfoldable pub which : List ℕ → List ℕ → List ℕ → Option Bool
which this that token = if bytes_eq token this then Some true else (if bytes_eq token that then Some false else None)

-- ---- a stack of what is to come

-- what may come: a token, a name, a variable, a sort, some more roles and `;`, a global type whose
-- root has that depth, what stands after the receiver of a message or a choice, and what stands
-- after a branch
pub data Symbol : Type 0 where
  Token : (token : List ℕ) → Symbol
  AName : Symbol
  AVariable : Symbol
  ASort : Symbol
  Roles : (room : ℕ) → Symbol
  Node : (depth : ℕ) → Symbol
  Exchange : (depth : ℕ) → Symbol
  Others : (depth : ℕ) → Symbol

-- a branch, and what stands after it
abbrev pub branch : ℕ → List Symbol
branch depth = AName ∷ Token (codes ":") ∷ Node depth ∷ Others depth ∷ []

-- what stands after the first token of a global type
abbrev pub behind_first : ℕ → First → List Symbol
behind_first depth firsts.End = []
behind_first depth firsts.Rec = AVariable ∷ Token (codes ".") ∷ Node (depth + 1) ∷ []
behind_first depth (firsts.Sender name) = Token (codes "->") ∷ AName ∷ Exchange (depth + 1) ∷ []
behind_first depth (firsts.Var name) = []

abbrev pub begun : ℕ → Option First → Option (List Symbol)
begun depth None = None
begun depth (Some first) = Some (behind_first depth first)

abbrev pub named : Option Sort → Option (List Symbol)
named None = None
named (Some sort) = Some []

-- after `:` the sort, after `{` a branch
abbrev pub exchanged : ℕ → Option Bool → Option (List Symbol)
exchanged depth None = None
exchanged depth (Some true) = Some (ASort ∷ Token (codes ".") ∷ Node depth ∷ [])
exchanged depth (Some false) = Some (branch depth)

-- after `,` a branch, after `}` nothing
abbrev pub followed : ℕ → Option Bool → Option (List Symbol)
followed depth None = None
followed depth (Some true) = Some (branch depth)
followed depth (Some false) = Some []

-- what comes in place of the symbol, where it begins with the token
abbrev pub step : Symbol → List ℕ → Option (List Symbol)
step (Token expected) token = if bytes_eq token expected then Some [] else None
step AName token = if is_name token then Some [] else None
step AVariable token = if is_variable token then Some [] else None
step ASort token = named (sort_of token)
step (Roles room) token =
    if bytes_eq token (codes ";") then Some []
    else (if nat_lt 0 room && is_name token then Some (Roles (room - 1) ∷ [])
    else None)
step (Node depth) token = begun depth (first_of token)
step (Exchange depth) token = exchanged depth (which (codes ":") (codes "{") token)
step (Others depth) token = followed depth (which (codes ",") (codes "}") token)

-- the depth of the node that the symbol's first token begins
abbrev pub start_of : Symbol → Option ℕ
start_of (Token token) = None
start_of AName = None
start_of AVariable = None
start_of ASort = None
start_of (Roles room) = None
start_of (Node depth) = Some depth
start_of (Exchange depth) = None
start_of (Others depth) = None

-- what is pushed, or the fault of a token that may not stand there
abbrev pub pushed_by : ℕ → Option (List Symbol) → Result (List Symbol) Fault
pushed_by left None = Err (left, Unexpected)
pushed_by left (Some pushed) = Ok pushed

-- how many more nodes may begin after a token
abbrev pub counted : Option ℕ → ℕ → ℕ → Result ℕ Fault
counted None nodes left = Ok nodes
counted (Some depth) nodes left =
    if nodes == 0 then Err (left, TooManyNodes) else (if nat_lt 64 depth then Err (left, TooDeep) else Ok (nodes - 1))

-- whether all of this comes, and nothing else, with so many nodes at most; or the first fault
abbrev pub run : List Symbol → ℕ → Lexed → Result (Unit {0}) Fault
run [] nodes Ended = Ok tt
run (x ∷ stack) nodes Ended = Err (0, Unexpected)
run stack nodes (Malformed left) = Err (left, Word)
run [] nodes (Next token left rest) = Err (left, Trailing)
run (x ∷ stack) nodes (Next token left rest) =
    pushed_by left (step x token) >>= λ pushed. counted (start_of x) nodes left >>= λ more. run
    (pushed ++ stack) more rest

-- a whole protocol
abbrev pub whole : List Symbol
whole = Token (codes "roles") ∷ AName ∷ AName ∷ Roles 6 ∷ Node 1 ∷ []

-- ---- what the functions of the reader do

abbrev pub run_from : List Symbol → Cursor → Result (Unit {0}) Fault
run_from stack cursor = run stack cursor.nodes (lexed cursor.rest.now)

-- the tokens from the cursor on
abbrev pub tokens_from : Cursor → List (List ℕ)
tokens_from cursor = tokens_in (lexed cursor.rest.now)

-- the next token is taken, or none may come
abbrev pub Takes : Result Lexeme' Halt → Cursor → Cursor → Type 0
Takes (Ok next) old new = lexed old.rest.now ≡ Next next.token.now next.left (lexed new.rest.now)
Takes (Err halts.Memory) old new = ⊤
Takes (Err (halts.At left kind)) old new =
    (x : Symbol) (others : List Symbol) → run_from (x ∷ others) old ≡ Err (left, kind)

-- the stack's symbols are read, but for those that come then, or the first fault is found
abbrev pub Reads : {X : Type 0} → List Symbol → (X → List Symbol) → Cursor → Cursor → Result X Halt → Type 0
Reads stack behind old new (Ok x) =
    (others : List Symbol) → run_from (stack ++ others) old ≡ run_from (behind x ++ others) new
Reads stack behind old new (Err halts.Memory) = ⊤
Reads stack behind old new (Err (halts.At left kind)) =
    (others : List Symbol) → run_from (stack ++ others) old ≡ Err (left, kind)

-- so much for all of the text
abbrev pub ReadsAll : {X : Type 0} → List ℕ → Result X Halt → Type 0
ReadsAll text (Ok x) = run whole 256 (lexed text) ≡ Ok tt
ReadsAll text (Err halts.Memory) = ⊤
ReadsAll text (Err (halts.At left kind)) = run whole 256 (lexed text) ≡ Err (left, kind)

-- nothing but blanks is left, or the first fault is found
abbrev pub Ends : Cursor → Result (Unit {0}) Halt → Type 0
Ends cursor (Ok x) = run_from [] cursor ≡ Ok tt
Ends cursor (Err halts.Memory) = ⊤
Ends cursor (Err (halts.At left kind)) = run_from [] cursor ≡ Err (left, kind)

-- ---- the tokens of what was read

abbrev mutual
  -- the tokens of a global type, and then others
  pub tokens_before : GlobalType → List (List ℕ) → List (List ℕ)
  tokens_before End rest = codes "end" ∷ rest
  tokens_before (Var name) rest = name ∷ rest
  tokens_before (Rec name body) rest = codes "rec" ∷ name ∷ codes "." ∷ tokens_before body rest
  tokens_before (Message sender receiver sort next) rest =
      sender ∷ codes "->" ∷ receiver ∷ codes ":" ∷ sort_word sort ∷ codes "." ∷ tokens_before next rest
  tokens_before (Choice sender receiver branches) rest =
      sender ∷ codes "->" ∷ receiver ∷ branches_before (codes "{") branches rest

  -- branches, with this token before the first and a comma before each other, and `}`, and then others
  pub branches_before : List ℕ → Branches → List (List ℕ) → List (List ℕ)
  branches_before sep NoMore rest = codes "}" ∷ rest
  branches_before sep (More label next others) rest =
      sep ∷ label ∷ codes ":" ∷ tokens_before next (branches_before (codes ",") others rest)

-- what stands after the receiver, up to the sort and `.` or to `{`
abbrev pub exchange_tokens : Option Sort → List (List ℕ) → List (List ℕ)
exchange_tokens None rest = codes "{" ∷ rest
exchange_tokens (Some sort) rest = codes ":" ∷ sort_word sort ∷ codes "." ∷ rest

-- what comes then
abbrev pub behind_exchange : ℕ → Option Sort → List Symbol
behind_exchange depth None = branch depth
behind_exchange depth (Some sort) = Node depth ∷ []

-- after a branch
abbrev pub separator : Bool → List ℕ
separator true = codes ","
separator false = codes "}"

abbrev pub behind_branch : ℕ → Bool → List Symbol
behind_branch depth true = branch depth
behind_branch depth false = []

-- what `IsSpellable` says of a tree, of branches
abbrev pub AreSpellable : Branches → Type 0
AreSpellable branches = AreNamed branches × HaveBranches branches
