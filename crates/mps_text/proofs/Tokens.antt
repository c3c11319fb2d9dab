-- What the tests for tokens tell, and which tokens pass them.
use Rattle.std.proofs.Common.{◌≡◌, ℕ, Bool, true, false, cond, ◌⊎◌, inl, inr, List, Some, None, refl, sym, subst, arith}
use Rattle.std.specs.Prelude.{codes}
use Rattle.std.specs.Str.{bytes_eq}
use Rattle.std.proofs.lemmas.Bool.{false_from_ne_true}
use Rattle.std.proofs.lemmas.Bool.Decides.{nat_tests}
use Rattle.std.proofs.lemmas.Slice.Eq.{bytes_eq-Decides}
use Rattle.mps_base.specs.Names.{IsName, IsVariable}
use Rattle.mps_base.specs.declared.value.Sort.{Sort}
use Rattle.mps_base.specs.Sorts.{sort_word}
use Rattle.mps_text.specs.Private.Lexing.{is_name, is_variable}
use Rattle.mps_text.specs.Private.Reading.{first_of, first_token, IsFirst, sort_of, which, separator}
use Rattle.mps_text.specs.declared.reading.First.{First}
use Rattle.mps_text.specs.declared.reading.First.TheVariants.{End, Rec, Sender, Var}
use Rattle.mps_text.proofs.Names.{name_is, is_name_of, variable_is, is_variable_of}

pub chosen : {A : Type 0} (b : Bool) (x y z : A) → cond b x y ≡ z → ((b ≡ true) × (x ≡ z)) ⊎ ((b ≡ false) × (y ≡ z))
chosen b x y z e = grind arith

pub some_is : {A : Type 0} (x y : A) → Some x ≡ Some y → x ≡ y
some_is x y e = cc

-- the only choice was taken
pub only_if : {A : Type 0} (b : Bool) (x y : A) → cond b (Some x) None ≡ Some y → (b ≡ true) × (x ≡ y)
only_if b x y e = grind (arith, some_is)

pub same_token : (x y : List ℕ) → bytes_eq x y ≡ true → x ≡ y
same_token x y e = (bytes_eq-Decides x y).0 e

-- a name is none of the other tokens, nor is a variable
pub name_apart : (name token : List ℕ) → IsName name → is_name token ≡ false → bytes_eq name token ≡ false
name_apart name token h e = false_from_ne_true (bytes_eq name token) (λ same.
    cc (same_token name token same, is_name_of name h))

pub variable_apart : (name token : List ℕ) → IsVariable name → is_variable token ≡ false → bytes_eq name token ≡ false
variable_apart name token h e = false_from_ne_true (bytes_eq name token) (λ same.
    cc (same_token name token same, is_variable_of name h))

-- ---- which of two

pub which_is : (this that token : List ℕ) (b : Bool) → which this that token ≡ Some b → token ≡ cond b this that
unfolding which
which_is this that token b h = grind (arith, chosen, some_is, same_token, only_if)

pub separator_is : (token : List ℕ) (more : Bool) → which (codes ",") (codes "}") token ≡ Some more → token ≡ separator more
separator_is token true h = which_is (codes ",") (codes "}") token true h
separator_is token false h = which_is (codes ",") (codes "}") token false h

-- ---- sorts

pub sort_is : (token : List ℕ) (sort : Sort) → sort_of token ≡ Some sort → token ≡ sort_word sort
unfolding sort_of
sort_is token sort h = grind (arith, chosen, some_is, same_token, only_if)

pub sort_again : (sort : Sort) → sort_of (sort_word sort) ≡ Some sort
unfolding sort_of
sort_again sort = grind arith

-- ---- the first token of a global type

pub first_is : (token : List ℕ) (first : First) → first_of token ≡ Some first → (token ≡ first_token first) × IsFirst first
unfolding first_of
first_is token first h =
    elim (chosen (bytes_eq token (codes "end")) (Some End) (cond (bytes_eq token (codes "rec")) (Some Rec) (cond (is_name token) (Some (Sender token)) (cond (is_variable token) (Some (Var token)) None))) (Some first) h) [
      | inl a ↦ rw (sym (some_is End first a.1)) (same_token token (codes "end") a.0, tt)
      | inr b ↦ elim (chosen (bytes_eq token (codes "rec")) (Some Rec) (cond (is_name token) (Some (Sender token)) (cond (is_variable token) (Some (Var token)) None)) (Some first) b.1) [
        | inl a ↦ rw (sym (some_is Rec first a.1)) (same_token token (codes "rec") a.0, tt)
        | inr d ↦ elim (chosen (is_name token) (Some (Sender token)) (cond (is_variable token) (Some (Var token)) None) (Some first) d.1) [
          | inl a ↦ subst (λ (f : First). (token ≡ first_token f) × IsFirst f) (some_is (Sender token) first a.1) (refl, name_is token a.0)
          | inr f ↦
              let c = only_if (is_variable token) (Var token) first f.1 in
              subst (λ (x : First). (token ≡ first_token x) × IsFirst x) c.1 (refl, variable_is token c.0)
        ]
      ]
    ]

pub first_again : (first : First) → IsFirst first → first_of (first_token first) ≡ Some first
unfolding first_of
first_again (Var name) h = grind (arith, false_from_ne_true, nat_tests, name_is, is_variable_of, variable_apart)
first_again other h = grind (arith, is_name_of, name_apart)
