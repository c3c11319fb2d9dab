-- A text's tokens, each where it stands.
use Rattle.std.proofs.Common.{◌≡◌, ℕ, zero, suc, ◌+◌, ◌-◌, ◌<◌, ◌≤◌, false, true, inl, inr, List, [], ◌∷◌, ◌++◌, length, Result, Ok, Err, refl, ap, sym, ◌∙◌, arith}
use Rattle.std.specs.List.{list_all}
use Rattle.std.proofs.lemmas.List.{length-append, append-nil}
use Rattle.mps_text.specs.Tokens.{is_blank, first_is, Begins, BeginsAll}
use Rattle.mps_text.specs.Faults.{IsMalformed}
use Rattle.mps_text.specs.Private.Lexing.{Fault, Lexeme, Lexed, Ended, Malformed, Next, lexeme_at, lexed_by, lexed_in, lexed, unblanked}
use Rattle.mps_text.proofs.Lexemes.{lexeme_takes, lexeme_again, begins_behind, unblanked_front, unblanked_same, unblanked_none}
use Rattle.mps_text.proofs.Steps.{next_shorter, lexed_next, lexed_stop, lexeme_fails, blanks_end}

-- ---- how a text is cut

-- blanks, and then bytes that begin no token
pub record Spoilt (bytes : List ℕ) (left : ℕ) : Type 0 where
  pub blanks : List ℕ
  pub blank : list_all is_blank blanks ≡ true
  pub here : List ℕ
  pub parts : bytes ≡ blanks ++ here
  pub long : length here ≡ left
  pub wrong : IsMalformed here

-- these are the tokens of the bytes
abbrev pub Cut : Lexed → List ℕ → Type 0
Cut Ended bytes = list_all is_blank bytes ≡ true
Cut (Malformed left) bytes = Spoilt bytes left
Cut (Next token left rest) bytes = (after : List ℕ) × Begins bytes token after × (left ≡ length (token ++ after)) × Cut rest after

cut_by : (room : ℕ) (bytes : List ℕ) (r : Result Lexeme Fault) → lexeme_at bytes ≡ r → ((rest : List ℕ) → length rest < length bytes → Cut (lexed_in room rest) rest) → Cut (lexed_by (lexed_in room) r) bytes
cut_by room bytes (Ok next) h more = grind (arith, lexeme_takes bytes next h, next_shorter bytes next h)
cut_by room bytes (Err fault) h more =
    let n = lexeme_fails bytes fault h in
    grind (arith, append-nil)

cut_in : (room : ℕ) (bytes : List ℕ) → length bytes < room → Cut (lexed_in room bytes) bytes
cut_in zero bytes less = absurd (omega arith)
cut_in (suc room) bytes less = cut_by room bytes (lexeme_at bytes) refl (λ rest shorter. cut_in room rest (omega arith))

pub text_cut : (text : List ℕ) → Cut (lexed text) text
unfolding lexed
text_cut text = cut_in (suc (length text)) text (omega arith)

-- ---- what a text is cut into

pub lexed_token : (bytes token rest : List ℕ) → Begins bytes token rest → lexed bytes ≡ Next token (length (token ++ rest)) (lexed rest)
lexed_token bytes token rest h = lexed_next bytes (record { token = token; left = length (token ++ rest); rest = rest }) (lexeme_again bytes token rest h)

pub lexed_blanks : (bytes : List ℕ) → list_all is_blank bytes ≡ true → lexed bytes ≡ Ended
lexed_blanks bytes h = blanks_end bytes (ap length (unblanked_none bytes h))

behind_blanks : (bytes blanks here : List ℕ) → bytes ≡ blanks ++ here → list_all is_blank blanks ≡ true → first_is is_blank here ≡ false → unblanked bytes ≡ here
behind_blanks bytes blanks here parts blank first = ap unblanked parts ∙ unblanked_front blanks here blank ∙ unblanked_same here first

spoilt_by : (bytes blanks here : List ℕ) (r : Result Lexeme Fault) → bytes ≡ blanks ++ here → list_all is_blank blanks ≡ true → IsMalformed here → lexeme_at bytes ≡ r → lexed bytes ≡ Malformed (length here)
spoilt_by bytes blanks here (Ok next) parts blank wrong h =
    let b = (lexeme_takes bytes next h).begins in
    let same : here ≡ next.token ++ next.rest = sym (behind_blanks bytes blanks here parts blank wrong.no_blank) ∙ begins_behind bytes next.token next.rest b in
    absurd (wrong.no_token next.token next.rest (record { blanks = []; blank = refl; parts = same; found = b.found }))
spoilt_by bytes blanks here (Err fault) parts blank wrong h =
    let n = lexeme_fails bytes fault h in
    let at : unblanked bytes ≡ here = behind_blanks bytes blanks here parts blank wrong.no_blank in
    elim n.wrong [
      | inl w ↦
          grind (arith, append-nil, unblanked_none)
      | inr w ↦
          cc (behind_blanks bytes n.blanks n.here n.parts n.blank w.1.no_blank, lexed_stop bytes fault.0 fault.1 h)
    ]

pub lexed_spoilt : (bytes blanks here : List ℕ) → bytes ≡ blanks ++ here → list_all is_blank blanks ≡ true → IsMalformed here → lexed bytes ≡ Malformed (length here)
lexed_spoilt bytes blanks here parts blank wrong = spoilt_by bytes blanks here (lexeme_at bytes) parts blank wrong refl

-- ---- the place

all_shorter : (bytes : List ℕ) (tokens : List (List ℕ)) (rest : List ℕ) → BeginsAll bytes tokens rest → length rest ≤ length bytes
all_shorter bytes [] rest h = omega (arith, ap length h)
all_shorter bytes (token ∷ tokens) rest h = grind (arith, length-append, all_shorter h.0 tokens rest h.2)

pub place_is : (text : List ℕ) (front : List (List ℕ)) (rest blanks here : List ℕ) (left : ℕ) → BeginsAll text front rest → rest ≡ blanks ++ here → length here ≡ left → (length text - left) + length here ≡ length text
place_is text front rest blanks here left read parts long = omega (arith, all_shorter text front rest read, ap length parts, length-append blanks here, long)
