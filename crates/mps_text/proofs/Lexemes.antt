-- What the next token is.
use Rattle.std.proofs.Common.{◌&&◌, not, ◌≡◌, ◌≢◌, ℕ, suc, ◌+◌, ◌<◌, Bool, true, false, ◌||◌, cond, inl, inr, List, [], ◌∷◌, ◌++◌, length, take, drop, nat_le, Result, Ok, Err, refl, ap, arith}
use Rattle.std.specs.Prelude.{codes, ◌==◌}
use Rattle.std.specs.List.{AllByRecursion, list_any, list_all}
use Rattle.std.specs.Str.{bytes_eq}
use Rattle.std.proofs.lemmas.Bool.Decides.{nat_tests}
use Rattle.std.proofs.lemmas.List.{take-append-drop, take_at, drop_at, length-append}
use Rattle.std.proofs.lemmas.Slice.Eq.{bytes_eq-Decides}
use Rattle.mps_base.specs.Names.{reserved_words, is_lower, is_upper, is_name_byte, is_variable_byte}
use Rattle.mps_text.specs.Tokens.{is_blank, is_word_byte, first_is, IsWord, punctuation, IsTokenBefore, Begins}
use Rattle.mps_text.specs.Private.Lexing.{is_small_word, is_capital_word, is_word, Fault, Lexeme, unblanked, run_len, is_punctuation_byte, word_len, token_len, lexeme_of, lexeme_at}
use Rattle.mps_text.proofs.Names.{both_true, true_both, name_is, is_name_of, variable_is, is_variable_of}

-- ---- blanks

pub record Unblanked (bytes : List ℕ) : Type 0 where
  pub blanks : List ℕ
  pub blank : list_all is_blank blanks ≡ true
  pub parts : bytes ≡ blanks ++ unblanked bytes

unblanked_by : (c : ℕ) (cs : List ℕ) (b : Bool) → is_blank c ≡ b → Unblanked cs → Unblanked (c ∷ cs)
unblanked_by c cs true e u = record { blanks = c ∷ u.blanks; blank = rw (e, u.blank) refl; parts = rw e (ap (λ (xs : List ℕ). c ∷ xs) u.parts) }
unblanked_by c cs false e u = record { blanks = []; blank = refl; parts = rw e refl }

pub unblanked_parts : (bytes : List ℕ) → Unblanked bytes
unblanked_parts [] = record { blanks = []; blank = refl; parts = refl }
unblanked_parts (c ∷ cs) = unblanked_by c cs (is_blank c) refl (unblanked_parts cs)

pub unblanked_front : (blanks rest : List ℕ) → list_all is_blank blanks ≡ true → unblanked (blanks ++ rest) ≡ unblanked rest
unblanked_front [] rest h = refl
unblanked_front (c ∷ cs) rest h =
    let b = both_true (is_blank c) (list_all is_blank cs) h in
    rw (b.0, unblanked_front cs rest b.1) refl

pub unblanked_none : (bytes : List ℕ) → list_all is_blank bytes ≡ true → unblanked bytes ≡ []
unblanked_none [] h = refl
unblanked_none (c ∷ cs) h = let b = both_true (is_blank c) (list_all is_blank cs) h in rw (b.0, unblanked_none cs b.1) refl

first_by : (c : ℕ) (cs : List ℕ) (b : Bool) → is_blank c ≡ b → first_is is_blank (unblanked cs) ≡ false → first_is is_blank (unblanked (c ∷ cs)) ≡ false
first_by c cs b e h = grind arith

-- what stands after the blanks begins with none
pub unblanked_first : (bytes : List ℕ) → first_is is_blank (unblanked bytes) ≡ false
unblanked_first [] = refl
unblanked_first (c ∷ cs) = first_by c cs (is_blank c) refl (unblanked_first cs)

pub unblanked_same : (bytes : List ℕ) → first_is is_blank bytes ≡ false → unblanked bytes ≡ bytes
unblanked_same bytes h = grind arith

-- ---- words

each_of_by : (P : List ℕ → Type 0) (token word : List ℕ) (words : List (List ℕ)) (b : Bool) → bytes_eq token word ≡ b → (list_any (bytes_eq token) words ≡ true → P token) → (b || list_any (bytes_eq token) words) ≡ true → P word → P token
each_of_by P token word words b e more h here = grind (arith, bytes_eq-Decides)

-- what holds of each of the words holds of one of them
each_of : (P : List ℕ → Type 0) (token : List ℕ) (words : List (List ℕ)) → list_any (bytes_eq token) words ≡ true → AllByRecursion P words → P token
each_of P token [] h each = absurd cc
each_of P token (word ∷ words) h each = each_of_by P token word words (bytes_eq token word) refl (λ e. each_of P token words e each.1) h each.0

word_by : (bytes : List ℕ) (small reserved : Bool) → is_small_word bytes ≡ small → list_any (bytes_eq bytes) reserved_words ≡ reserved → is_word bytes ≡ true → IsWord bytes
word_by bytes true true e f h = inr (inl f)
word_by bytes true false e f h = grind (arith, both_true, name_is, true_both)
word_by bytes false reserved e f h = grind (arith, both_true, variable_is, true_both)

word_is : (bytes : List ℕ) → is_word bytes ≡ true → IsWord bytes
word_is bytes h = word_by bytes (is_small_word bytes) (list_any (bytes_eq bytes) reserved_words) refl refl h

is_word_of : (bytes : List ℕ) → IsWord bytes → is_word bytes ≡ true
is_word_of bytes (inl name) = grind (arith, both_true (nat_le (length bytes) 32 && is_small_word bytes) (not (list_any (bytes_eq bytes) reserved_words)) (is_name_of bytes name))
is_word_of bytes (inr (inl reserved)) = each_of (λ t. is_word t ≡ true) bytes reserved_words reserved (refl, (refl, (refl, (refl, (refl, (refl, (refl, (refl, tt))))))))
is_word_of bytes (inr (inr variable)) = grind (arith, both_true, is_variable_of)

-- ---- what was found is a token

run_ends_by : (c : ℕ) (cs : List ℕ) (b : Bool) → is_word_byte c ≡ b → first_is is_word_byte (drop (run_len cs) cs) ≡ false → first_is is_word_byte (drop (run_len (c ∷ cs)) (c ∷ cs)) ≡ false
run_ends_by c cs true e h = let more : run_len cs + 1 ≡ suc (run_len cs) = omega arith in rw (e, more) h
run_ends_by c cs false e h = rw e e

run_ends : (bytes : List ℕ) → first_is is_word_byte (drop (run_len bytes) bytes) ≡ false
run_ends [] = refl
run_ends (c ∷ cs) = run_ends_by c cs (is_word_byte c) refl (run_ends cs)

arrow_found : (bytes : List ℕ) → bytes_eq (take 2 bytes) (codes "->") ≡ true → IsTokenBefore (take 2 bytes) (drop 2 bytes)
arrow_found bytes h = inl (rw ((bytes_eq-Decides (take 2 bytes) (codes "->")).0 h) refl)

byte_found : (bytes : List ℕ) → first_is is_punctuation_byte bytes ≡ true → IsTokenBefore (take 1 bytes) (drop 1 bytes)
byte_found bytes h = grind (arith, nat_tests)

word_found : (bytes : List ℕ) (b : Bool) → is_word (take (run_len bytes) bytes) ≡ b → word_len bytes ≢ 0 → IsTokenBefore (take (word_len bytes) bytes) (drop (word_len bytes) bytes)
unfolding word_len
word_found bytes true e some = rw e (inr (word_is (take (run_len bytes) bytes) e, run_ends bytes))
word_found bytes false e some = absurd (some (rw e refl))

found_by : (bytes : List ℕ) (a m : Bool) → bytes_eq (take 2 bytes) (codes "->") ≡ a → first_is is_punctuation_byte bytes ≡ m → token_len bytes ≢ 0 → IsTokenBefore (take (token_len bytes) bytes) (drop (token_len bytes) bytes)
unfolding token_len
found_by bytes a m e f some = grind (arith, arrow_found, byte_found, word_found)

token_found : (bytes : List ℕ) → token_len bytes ≢ 0 → IsTokenBefore (take (token_len bytes) bytes) (drop (token_len bytes) bytes)
token_found bytes some = found_by bytes (bytes_eq (take 2 bytes) (codes "->")) (first_is is_punctuation_byte bytes) refl refl some

-- what the next token says of the bytes
pub record Found (bytes : List ℕ) (next : Lexeme) : Type 0 where
  pub begins : Begins bytes next.token next.rest
  pub left : next.left ≡ length (next.token ++ next.rest)

-- the parts of a cond that gave an Ok
second_ok : {A : Type 0} (b : Bool) (f : Fault) (r : Result A Fault) (x : A) → cond b (Err f) r ≡ Ok x → (b ≡ false) × (r ≡ Ok x)
second_ok b f r x e = grind arith

pub lexeme_takes : (bytes : List ℕ) (next : Lexeme) → lexeme_at bytes ≡ Ok next → Found bytes next
unfolding lexeme_at lexeme_of
lexeme_takes bytes next e =
    let start = unblanked bytes in
    let u = unblanked_parts bytes in
    grind (arith, second_ok, take-append-drop, nat_tests, token_found)

-- ---- a token is found

run_whole : (word rest : List ℕ) → list_all is_word_byte word ≡ true → first_is is_word_byte rest ≡ false → run_len (word ++ rest) ≡ length word
run_whole [] [] h e = refl
run_whole [] (c ∷ cs) h e = rw e refl
run_whole (c ∷ cs) rest h e =
    let b = both_true (is_word_byte c) (list_all is_word_byte cs) h in
    rw (b.0, run_whole cs rest b.1 e) (omega arith)

letter : ℕ → Bool
letter c = is_lower c || is_upper c

weaker : (p q : ℕ → Bool) (xs : List ℕ) → ((c : ℕ) → p c ≡ true → q c ≡ true) → list_all p xs ≡ true → list_all q xs ≡ true
weaker p q [] h e = refl
weaker p q (x ∷ xs) h e =
    let b = both_true (p x) (list_all p xs) e in
    true_both (q x) (list_all q xs) (h x b.0) (weaker p q xs h b.1)

name_byte : (c : ℕ) → is_name_byte c ≡ true → is_word_byte c ≡ true
name_byte c h = rw h refl

variable_byte : (c : ℕ) → is_variable_byte c ≡ true → is_word_byte c ≡ true
variable_byte c h = grind (arith, nat_tests)

-- what the first letter of a word is not
pub record IsLetter (c : ℕ) : Type 0 where
  pub no_blank : is_blank c ≡ false
  pub no_mark : is_punctuation_byte c ≡ false
  pub no_dash : (c == 45) ≡ false

lower_letter : (c : ℕ) → is_lower c ≡ true → IsLetter c
lower_letter c h = record { no_blank = grind (arith, nat_tests); no_mark = grind (arith, nat_tests); no_dash = grind (arith, nat_tests) }

upper_letter : (c : ℕ) → is_upper c ≡ true → IsLetter c
upper_letter c h = record { no_blank = grind (arith, nat_tests); no_mark = grind (arith, nat_tests); no_dash = grind (arith, nat_tests) }

-- a token, found again in front of any rest that doesn't make it longer
pub record Again (token rest : List ℕ) : Type 0 where
  pub first : first_is is_blank (token ++ rest) ≡ false
  pub len : token_len (token ++ rest) ≡ length token
  pub some : 0 < length token

punctuation_again : (token rest : List ℕ) → list_any (bytes_eq token) punctuation ≡ true → Again token rest
unfolding token_len
punctuation_again token rest h =
    each_of (λ t. Again t rest) token punctuation h (
      record { first = refl; len = refl; some = omega arith },
      grind arith,
    )

word_len_is : (bytes word : List ℕ) (n : ℕ) → run_len bytes ≡ n → take n bytes ≡ word → is_word word ≡ true → word_len bytes ≡ n
unfolding word_len
word_len_is bytes word n run front well = rw (run, front, well) refl

word_again_by : (c : ℕ) (cs rest : List ℕ) → IsLetter c → list_all is_word_byte (c ∷ cs) ≡ true → is_word (c ∷ cs) ≡ true → first_is is_word_byte rest ≡ false → Again (c ∷ cs) rest
unfolding token_len
word_again_by c cs rest l all word ends =
    let n : run_len ((c ∷ cs) ++ rest) ≡ length (c ∷ cs) = run_whole (c ∷ cs) rest all ends in
    grind (arith, take_at, word_len_is)

word_again : (token rest : List ℕ) (small : Bool) → is_small_word token ≡ small → is_word token ≡ true → first_is is_word_byte rest ≡ false → Again token rest
word_again [] rest small e word ends = absurd cc
word_again (c ∷ cs) rest true e word ends = grind (arith, both_true, word_again_by, lower_letter, weaker, name_byte)
word_again (c ∷ cs) rest false e word ends =
    let w = both_true (nat_le (length (c ∷ cs)) 32) (is_small_word (c ∷ cs) || is_capital_word (c ∷ cs)) word in
    let capital : is_capital_word (c ∷ cs) ≡ true = rw e at w.1 in
    let b = both_true (is_upper c) (list_all is_variable_byte (c ∷ cs)) capital in
    word_again_by c cs rest (upper_letter c b.0) (weaker is_variable_byte is_word_byte (c ∷ cs) variable_byte b.1) word ends

token_again : (token rest : List ℕ) → IsTokenBefore token rest → Again token rest
token_again token rest (inl start_of) = punctuation_again token rest start_of
token_again token rest (inr word) = word_again token rest (is_small_word token) refl (is_word_of token word.0) word.1

pub token_some : (token rest : List ℕ) → IsTokenBefore token rest → 0 < length token
token_some token rest h = (token_again token rest h).some

-- what stands after the blanks
pub begins_behind : (bytes token rest : List ℕ) → Begins bytes token rest → unblanked bytes ≡ token ++ rest
begins_behind bytes token rest h = grind (arith, token_again, unblanked_front, unblanked_same)

not_nil : (n : ℕ) → 0 < n → (n == 0) ≡ false
not_nil n h = grind (arith, nat_tests)

pub lexeme_again : (bytes token rest : List ℕ) → Begins bytes token rest → lexeme_at bytes ≡ Ok (record { token = token; left = length (token ++ rest); rest = rest })
unfolding lexeme_at lexeme_of
lexeme_again bytes token rest h =
    let a = token_again token rest h.found in
    grind (arith, begins_behind, not_nil, length-append, take_at, drop_at)
