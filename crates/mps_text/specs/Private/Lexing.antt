-- The token in front, found from left to right.
use Rattle.std.specs.Prelude.{◌≡◌, ℕ, zero, suc, ◌+◌, Bool, ◌==◌, nat_le, ◌&&◌, ◌||◌, not, List, [], ◌∷◌, length, take}
use Rattle.std.specs.Prelude.{drop, codes, Result, Ok, Err, if◌then◌else◌}
use Rattle.std.specs.List.{list_all, list_any}
use Rattle.std.specs.Str.{bytes_eq}
use Rattle.mps_base.specs.Names.{is_lower, is_upper, is_name_byte, is_variable_byte, reserved_words}
use Rattle.mps_text.specs.Tokens.{first_is, is_blank, is_word_byte}
use Rattle.mps_text.specs.declared.fault.TextKind.{TextKind}
use Rattle.mps_text.specs.declared.fault.TextKind.TheVariants.{Word, Unexpected}
use Rattle.mps_text.specs.declared.lexing.Halt.{Halt}
use Rattle.mps_text.specs.declared.lexing.Halt.TheVariants as halts
use Rattle.mps_text.specs.declared.lexing.Lexeme.{Lexeme as Lexeme'}

-- how many bytes are left from the fault on, and its kind
abbrev pub Fault : Type 0
Fault = ℕ × TextKind

infixl 10 ◌>>=◌
abbrev pub ◌>>=◌ : {A B : Type 0} → Result A Fault → (A → Result B Fault) → Result B Fault
(Ok x) >>= f = f x
(Err e) >>= f = Err e

-- what a function returned, seen by view, is what reading gives, unless memory ran out
abbrev pub Fails : {Y : Type 0} → Halt → Result Y Fault → Type 0
Fails halts.Memory read = Unit {0}
Fails (halts.At left kind) read = read ≡ Err (left, kind)

abbrev pub Gives : {X Y : Type 0} → (X → Y) → Result X Halt → Result Y Fault → Type 0
Gives view (Ok x) read = read ≡ Ok (view x)
Gives view (Err e) read = Fails e read

-- the bytes after the blanks in front
abbrev pub unblanked : List ℕ → List ℕ
unblanked [] = []
unblanked (c ∷ cs) = if is_blank c then unblanked cs else c ∷ cs

-- how many bytes the longest run of word bytes in front takes
abbrev pub run_len : List ℕ → ℕ
run_len [] = 0
run_len (c ∷ cs) = if is_word_byte c then run_len cs + 1 else 0

-- a byte that is punctuation alone
abbrev pub is_punctuation_byte : ℕ → Bool
is_punctuation_byte c = c == 58 || c == 59 || c == 46 || c == 44 || c == 123 || c == 125

-- small letters, digits and `_`, the first a letter: how names and reserved words look
abbrev pub is_small_word : List ℕ → Bool
is_small_word bytes = first_is is_lower bytes && list_all is_name_byte bytes

-- capital letters, digits and `_`, the first a letter: how variables look
abbrev pub is_capital_word : List ℕ → Bool
is_capital_word bytes = first_is is_upper bytes && list_all is_variable_byte bytes

-- a well-formed word, since no name and no reserved word has more than 32 bytes
abbrev pub is_word : List ℕ → Bool
is_word bytes = nat_le (length bytes) 32 && (is_small_word bytes || is_capital_word bytes)

-- how many bytes the word in front takes, 0 where no well-formed word stands there
unfoldable pub word_len : List ℕ → ℕ
word_len bytes = if is_word (take (run_len bytes) bytes) then run_len bytes else 0

-- how many bytes the token in front takes, 0 where none stands there
unfoldable pub token_len : List ℕ → ℕ
token_len bytes =
    if bytes_eq (take 2 bytes) (codes "->") then 2 else
    (if first_is is_punctuation_byte bytes then 1 else word_len bytes)

-- a token, how many bytes are left from its first one on, and those after it
pub record Lexeme : Type 0 where
  pub token : List ℕ
  pub left : ℕ
  pub rest : List ℕ

abbrev pub plain_lexeme : Lexeme' → Lexeme
plain_lexeme l = record { token = l.token.now; left = l.left; rest = l.rest.now }

-- the token in front of bytes that begin with no blank
unfoldable pub lexeme_of : List ℕ → Result Lexeme Fault
lexeme_of bytes =
    if length bytes == 0 then Err (0, Unexpected)
    else (if token_len bytes == 0 then Err (length bytes, Word)
    else Ok (record { token = take (token_len bytes) bytes; left = length bytes; rest = drop (token_len bytes) bytes }))

-- the next token
unfoldable pub lexeme_at : List ℕ → Result Lexeme Fault
lexeme_at bytes = lexeme_of (unblanked bytes)

-- whether the bytes are a name
abbrev pub is_name : List ℕ → Bool
is_name bytes = nat_le (length bytes) 32 && is_small_word bytes && not (list_any (bytes_eq bytes) reserved_words)

-- whether the bytes are a variable
abbrev pub is_variable : List ℕ → Bool
is_variable bytes = nat_le (length bytes) 32 && is_capital_word bytes

-- what stands in a text: its tokens, each with how many bytes are left from its first one on, up to the end or to what
-- is no token
pub data Lexed : Type 0 where
  Ended : Lexed
  Malformed : (left : ℕ) → Lexed
  Next : (token : List ℕ) (left : ℕ) (rest : Lexed) → Lexed

abbrev pub lexed_end : ℕ → TextKind → Lexed
lexed_end left Word = Malformed left
lexed_end left kind = Ended

abbrev pub lexed_by : (List ℕ → Lexed) → Result Lexeme Fault → Lexed
lexed_by more (Ok next) = Next next.token next.left (more next.rest)
lexed_by more (Err fault) = lexed_end fault.0 fault.1

-- no more tokens than that
abbrev pub lexed_in : ℕ → List ℕ → Lexed
lexed_in zero bytes = Ended
lexed_in (suc room) bytes = lexed_by (lexed_in room) (lexeme_at bytes)

-- all of them
unfoldable pub lexed : List ℕ → Lexed
lexed bytes = lexed_in (suc (length bytes)) bytes

abbrev pub tokens_in : Lexed → List (List ℕ)
tokens_in Ended = []
tokens_in (Malformed left) = []
tokens_in (Next token left rest) = token ∷ tokens_in rest
