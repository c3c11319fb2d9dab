-- A text, cut into tokens.
use Rattle.std.proofs.Common.{◌≡◌, ◌≢◌, ℕ, suc, ◌<◌, Bool, false, true, ◌⊎◌, List, [], ◌∷◌, ◌++◌, length, Result, Ok, Err, refl, ap, arith}
use Rattle.std.specs.Prelude.{◌==◌}
use Rattle.std.specs.List.{list_all}
use Rattle.std.proofs.lemmas.Bool.Decides.{nat_tests}
use Rattle.std.proofs.lemmas.List.{length-append, append-nil, nil_from_length}
use Rattle.mps_text.specs.Tokens.{is_blank, first_is}
use Rattle.mps_text.specs.Faults.{IsMalformed}
use Rattle.mps_text.specs.Private.Lexing.{Fault, Lexeme, Ended, Next, lexeme_at, lexeme_of, token_len, lexed_by, lexed_end, lexed_in, lexed, unblanked}
use Rattle.mps_text.specs.Private.Reading.{Symbol, run}
use Rattle.mps_text.specs.declared.fault.TextKind.{TextKind}
use Rattle.mps_text.specs.declared.fault.TextKind.TheVariants.{Word, Unexpected, Trailing}
use Rattle.mps_text.proofs.Lexemes.{lexeme_takes, lexeme_again, token_some, unblanked_parts, unblanked_first, unblanked_same, unblanked_none}

-- a token takes a byte at least
pub next_shorter : (bytes : List ℕ) (next : Lexeme) → lexeme_at bytes ≡ Ok next → length next.rest < length bytes
next_shorter bytes next h =
    let f = lexeme_takes bytes next h in
    let b = f.begins in
    grind (arith, token_some next.token next.rest b.found, length-append b.blanks (next.token ++ next.rest), length-append next.token next.rest)

lexed_alike : (room more : ℕ) (bytes : List ℕ) (r : Result Lexeme Fault) → lexeme_at bytes ≡ r → ((rest : List ℕ) → length rest < length bytes → lexed_in room rest ≡ lexed_in more rest) → lexed_by (lexed_in room) r ≡ lexed_by (lexed_in more) r
lexed_alike room more bytes r h same = grind (arith, next_shorter)

-- with room for every byte it is all one how much there is
lexed_same : (room more : ℕ) (bytes : List ℕ) → length bytes < room → length bytes < more → lexed_in room bytes ≡ lexed_in more bytes
lexed_same (suc room) (suc more) bytes a b =
    lexed_alike room more bytes (lexeme_at bytes) refl (λ rest less. lexed_same room more rest (omega arith) (omega arith))
lexed_same other others bytes a b = absurd (omega arith)

pub lexed_next : (bytes : List ℕ) (next : Lexeme) → lexeme_at bytes ≡ Ok next → lexed bytes ≡ Next next.token next.left (lexed next.rest)
unfolding lexed
lexed_next bytes next h = grind (arith, lexed_same, next_shorter)

pub lexed_stop : (bytes : List ℕ) (left : ℕ) (kind : TextKind) → lexeme_at bytes ≡ Err (left, kind) → lexed bytes ≡ lexed_end left kind
unfolding lexed
lexed_stop bytes left kind h = ap (lexed_by (lexed_in (length bytes))) h

-- ---- no token is there

-- what bytes without a token begin with, after blanks
pub record NoLexeme (bytes : List ℕ) (fault : Fault) : Type 0 where
  pub blanks : List ℕ
  pub blank : list_all is_blank blanks ≡ true
  pub here : List ℕ
  pub parts : bytes ≡ blanks ++ here
  pub left : length here ≡ fault.0
  pub wrong : ((fault.1 ≡ Unexpected) × (here ≡ [])) ⊎ ((fault.1 ≡ Word) × IsMalformed here)

malformed : (bytes : List ℕ) → (length bytes == 0) ≡ false → (token_len bytes == 0) ≡ true → first_is is_blank bytes ≡ false → IsMalformed bytes
unfolding lexeme_at lexeme_of
malformed bytes some none first = record {
  some = λ e. absurd (cc (ap length e, some));
  no_blank = first;
  no_token = λ token rest h.
      cc (lexeme_again bytes token rest h, unblanked_same bytes first);
}

lexeme_by : (bytes : List ℕ) (fault : Fault) (a b : Bool) → (length (unblanked bytes) == 0) ≡ a → (token_len (unblanked bytes) == 0) ≡ b → lexeme_at bytes ≡ Err fault → NoLexeme bytes fault
unfolding lexeme_at lexeme_of
lexeme_by bytes fault true b e f h = grind (arith, unblanked_parts bytes, nil_from_length (unblanked bytes) (grind (arith, nat_tests, e)))
lexeme_by bytes fault false true e f h = grind (arith, unblanked_parts bytes, malformed (unblanked bytes) e f (unblanked_first bytes))
lexeme_by bytes fault false false e f h = absurd (cc (rw (e, f) at h))

pub lexeme_fails : (bytes : List ℕ) (fault : Fault) → lexeme_at bytes ≡ Err fault → NoLexeme bytes fault
lexeme_fails bytes fault h = lexeme_by bytes fault (length (unblanked bytes) == 0) (token_len (unblanked bytes) == 0) refl refl h

-- ---- where the reader stops for want of a token

pub run_stop : (x : Symbol) (others : List Symbol) (nodes : ℕ) (bytes : List ℕ) (left : ℕ) (kind : TextKind) → lexeme_at bytes ≡ Err (left, kind) → run (x ∷ others) nodes (lexed bytes) ≡ Err (left, kind)
run_stop x others nodes bytes left kind h = grind (arith, lexeme_fails bytes (left, kind) h, lexed_stop bytes left kind h)

pub blanks_end : (bytes : List ℕ) → length (unblanked bytes) ≡ 0 → lexed bytes ≡ Ended
unfolding lexeme_at lexeme_of
blanks_end bytes h =
    let end : lexeme_at bytes ≡ Err (0, Unexpected) = rw h refl in
    lexed_stop bytes 0 Unexpected end

pub stop_behind : (nodes : ℕ) (bytes : List ℕ) (left : ℕ) (kind : TextKind) → length (unblanked bytes) ≢ 0 → lexeme_at bytes ≡ Err (left, kind) → run [] nodes (lexed bytes) ≡ Err (left, kind)
stop_behind nodes bytes left kind some h =
    let n = lexeme_fails bytes (left, kind) h in
    grind (arith, append-nil n.blanks, unblanked_none n.blanks n.blank, lexed_stop bytes left kind h)

pub token_behind : (nodes : ℕ) (bytes : List ℕ) (next : Lexeme) → lexeme_at bytes ≡ Ok next → run [] nodes (lexed bytes) ≡ Err (next.left, Trailing)
token_behind nodes bytes next h = rw (lexed_next bytes next h) refl
