-- A line is split in one place.
use Rattle.std.proofs.Common.{arith, ◌≡◌, ◌≢◌, ℕ, Bool, true, false, List, [], ◌∷◌, ◌++◌, length, take, drop, refl, sym, ap, ◌∙◌}
use Rattle.std.specs.Prelude.{All, IsTrue, Option, IfNone}
use Rattle.std.specs.List.{AllByRecursion}
use Rattle.std.specs.Str.{bytes_eq}
use Rattle.std.specs.Str.Parse.{AllDigits}
use Rattle.std.proofs.Math.Seq.{take-append_seam}
use Rattle.std.proofs.lemmas.List.{take-append-drop}
use Rattle.std.proofs.lemmas.Slice.Eq.{bytes_eq-Decides}
use Rattle.std.proofs.lemmas.List.Elements.{recursion_from_All}
use Rattle.std.proofs.lemmas.Str.Parse.{digit_from_value}
use Rattle.mps_base.specs.Names.{IsName, is_name_byte}
use Rattle.mps_base.specs.Spaced.{spaced}
use Rattle.mps_line.specs.Tokens.{Token, Word, RoleAt, SpellsRole, SpellsToken, SpellEach, SpellsLine}
use Rattle.mps_line.specs.Private.Tokens.{HasNoSpace, BeginsWith}

-- what holds anyway
pub if_none : {T P : Type 0} (r : Option T) → P → IfNone r P
if_none r p = grind arith

pub no_space : (bytes : List ℕ) → All (λ c. c ≢ 32) bytes → HasNoSpace bytes
no_space bytes h = recursion_from_All _ bytes h

-- bytes without a space aren't two parts
pub never_split : (bytes first rest : List ℕ) → HasNoSpace bytes → bytes ≢ spaced (first ∷ rest ∷ [])
never_split [] [] rest h e = absurd cc
never_split [] (f ∷ first) rest h e = absurd cc
never_split (b ∷ bytes) [] rest h e = h.0 cc
never_split (b ∷ bytes) (f ∷ first) rest h e = never_split bytes first rest h.1 cc

pub never_spaced : (bytes : List ℕ) → All (λ c. c ≢ 32) bytes → (first rest : List ℕ) → bytes ≢ spaced (first ∷ rest ∷ [])
never_spaced bytes h first rest = never_split bytes first rest (no_space bytes h)

-- the parts round the first space
pub one_split : (a b x y : List ℕ) → HasNoSpace a → HasNoSpace b → spaced (a ∷ x ∷ []) ≡ spaced (b ∷ y ∷ []) → (a ≡ b) × (x ≡ y)
one_split [] [] x y p q e = (refl, cc)
one_split (a ∷ rs) (b ∷ ss) x y p q e =
    let tails : spaced (rs ∷ x ∷ []) ≡ spaced (ss ∷ y ∷ []) = cc in
    let more = one_split rs ss x y p.1 q.1 tails in
    (cc, more.1)
one_split other others x y p q e = grind arith

-- the part before the first space, whatever stands after it
pub one_first : (a b : List ℕ) (xs ys : List (List ℕ)) → HasNoSpace a → HasNoSpace b → spaced (a ∷ xs) ≡ spaced (b ∷ ys) → a ≡ b
one_first a b xs ys p q e = grind (arith, never_split, one_split)

bytes_have_no_space : (bytes : List ℕ) → AllByRecursion (λ c. IsTrue (is_name_byte c)) bytes → HasNoSpace bytes
bytes_have_no_space [] h = tt
bytes_have_no_space (c ∷ bytes) h = grind (arith, bytes_have_no_space bytes h.1)

-- a name is one part
pub name_has_no_space : (bytes : List ℕ) → IsName bytes → HasNoSpace bytes
name_has_no_space bytes h = bytes_have_no_space bytes h.each

-- and so is a number
pub digits_have_no_space : (ds : List ℕ) → AllDigits 10 ds → HasNoSpace ds
digits_have_no_space [] h = tt
digits_have_no_space (d ∷ ds) h = grind (arith, digit_from_value d h.0, digits_have_no_space ds h.1)

-- the rest after the first space
pub same_rest : (names : List (List ℕ)) (bytes first rest : List ℕ) (role : ℕ) (other : List ℕ) → bytes ≡ spaced (first ∷ rest ∷ []) → HasNoSpace first → BeginsWith names bytes (RoleAt role) other → other ≡ rest
same_rest names bytes first rest role other e h b = grind (arith, one_split b.front first other rest (name_has_no_space b.front b.spelled.name) h (sym b.parts ∙ e))

-- what stands before the first space is no role's name
pub no_role : (names : List (List ℕ)) (bytes first rest : List ℕ) → bytes ≡ spaced (first ∷ rest ∷ []) → HasNoSpace first → ((role : ℕ) → SpellsRole names first role → ⊥) → (role : ℕ) (other : List ℕ) → BeginsWith names bytes (RoleAt role) other → ⊥
no_role names bytes first rest e h none role other b = grind (arith, one_split b.front first other rest (name_has_no_space b.front b.spelled.name) h (sym b.parts ∙ e))

-- bytes without a space don't begin with a role's name
pub no_role_alone : (names : List (List ℕ)) (bytes : List ℕ) → ((first rest : List ℕ) → bytes ≢ spaced (first ∷ rest ∷ [])) → (role : ℕ) (rest : List ℕ) → BeginsWith names bytes (RoleAt role) rest → ⊥
no_role_alone names bytes none role rest b = none b.front rest b.parts

-- a line of two tokens and more begins with the first, and what stands after it is a line of the others
pub after_token : (names : List (List ℕ)) (bytes : List ℕ) (t u : Token) (ts : List Token) → SpellsLine names bytes (t ∷ u ∷ ts) → (rest : List ℕ) × BeginsWith names bytes t rest × SpellsLine names rest (u ∷ ts)
after_token names bytes t u ts h = by_spellings h.spellings h.joined h.each
  where
    by_spellings : (ss : List (List ℕ)) → bytes ≡ spaced ss → SpellEach names ss (t ∷ u ∷ ts) → (rest : List ℕ) × BeginsWith names bytes t rest × SpellsLine names rest (u ∷ ts)
    by_spellings [] e k = absurd k
    by_spellings (s ∷ []) e k = absurd k.1
    by_spellings (s ∷ r ∷ ss) e k =
        (spaced (r ∷ ss), record { front = s; parts = e; spelled = k.0 }, record { spellings = r ∷ ss; joined = refl; each = k.1 })

-- and so it is put together
pub joined : (names : List (List ℕ)) (bytes : List ℕ) (t u : Token) (ts : List Token) (rest : List ℕ) → BeginsWith names bytes t rest → SpellsLine names rest (u ∷ ts) → SpellsLine names bytes (t ∷ u ∷ ts)
joined names bytes t u ts rest b h = by_spellings h.spellings h.joined h.each
  where
    by_spellings : (ss : List (List ℕ)) → rest ≡ spaced ss → SpellEach names ss (u ∷ ts) → SpellsLine names bytes (t ∷ u ∷ ts)
    by_spellings [] e k = absurd k
    by_spellings (s ∷ ss) e k =
        record { spellings = b.front ∷ s ∷ ss; joined = rw e at b.parts; each = (b.spelled, k) }

-- a line that begins with a word
pub first_word : (names : List (List ℕ)) (bytes letters : List ℕ) (ts : List Token) → SpellsLine names bytes (Word letters ∷ ts) → (others : List (List ℕ)) × (bytes ≡ spaced (letters ∷ others))
first_word names bytes letters ts h = by_spellings h.spellings h.joined h.each
  where
    by_spellings : (ss : List (List ℕ)) → bytes ≡ spaced ss → SpellEach names ss (Word letters ∷ ts) → (others : List (List ℕ)) × (bytes ≡ spaced (letters ∷ others))
    by_spellings [] e k = absurd k
    by_spellings (s ∷ ss) e k = (ss, e ∙ ap (λ (l : List ℕ). spaced (l ∷ ss)) k.0)

-- a line of one token is the token
pub alone : (names : List (List ℕ)) (bytes : List ℕ) (t : Token) → SpellsLine names bytes (t ∷ []) → SpellsToken names bytes t
alone names bytes t h = by_spellings h.spellings h.joined h.each
  where
    by_spellings : (ss : List (List ℕ)) → bytes ≡ spaced ss → SpellEach names ss (t ∷ []) → SpellsToken names bytes t
    by_spellings [] e k = absurd k
    by_spellings (s ∷ []) e k = rw e k.0
    by_spellings (s ∷ r ∷ ss) e k = absurd k.1

pub line_of_one : (names : List (List ℕ)) (bytes : List ℕ) (t : Token) → SpellsToken names bytes t → SpellsLine names bytes (t ∷ [])
line_of_one names bytes t h = record { spellings = bytes ∷ []; joined = refl; each = (h, tt) }

-- a word in front of bytes, as their front is compared with it
pub in_front : (bytes word rest : List ℕ) → bytes_eq (take (length word) bytes) word ≡ true → rest ≡ drop (length word) bytes → bytes ≡ word ++ rest
in_front bytes word rest same last = grind (arith, take-append-drop, bytes_eq-Decides)

pub not_in_front : (bytes word rest : List ℕ) → bytes_eq (take (length word) bytes) word ≡ false → bytes ≢ word ++ rest
not_in_front bytes word rest other is = grind (arith, bytes_eq-Decides, take-append_seam)

-- bytes that were compared with a word
pub is_word : (same : Bool) (bytes other word : List ℕ) → same ≡ bytes_eq bytes other → same ≡ true → other ≡ word → bytes ≡ word
is_word same bytes other word e found is = (bytes_eq-Decides bytes other).0 (sym e ∙ found) ∙ is

pub is_no_word : (same : Bool) (bytes other word : List ℕ) → same ≡ bytes_eq bytes other → same ≡ false → other ≡ word → bytes ≢ word
is_no_word same bytes other word e missed is h = grind (arith, bytes_eq-Decides)
