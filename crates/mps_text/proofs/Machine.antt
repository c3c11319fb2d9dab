-- Tokens that drive a stack on.
use Rattle.std.proofs.Common.{arith, ◌≡◌, ℕ, suc, List, [], ◌∷◌, ◌++◌, length, Option, Some, refl, ap, sym, subst, ◌∙◌}
use Rattle.mps_text.specs.Private.Reading.{Symbol, step, start_of}
use Rattle.mps_text.proofs.Tokens.{some_is}

-- by the tokens the one stack becomes the other, and these nodes begin
abbrev pub Drives : List Symbol → List (List ℕ) → List Symbol → List (Option ℕ) → Type 0
Drives stack [] to starts = (stack ≡ to) × (starts ≡ [])
Drives [] (token ∷ tokens) to starts = ⊥
Drives (x ∷ stack) (token ∷ tokens) to starts =
    (pushed : List Symbol) × (step x token ≡ Some pushed) × (later : List (Option ℕ)) × (starts ≡ start_of x ∷ later) × Drives (pushed ++ stack) tokens to later

-- one more token in front
pub drives_more : (x : Symbol) (stack pushed to : List Symbol) (token : List ℕ) (tokens : List (List ℕ)) (starts : List (Option ℕ)) → step x token ≡ Some pushed → Drives (pushed ++ stack) tokens to starts → Drives (x ∷ stack) (token ∷ tokens) to (start_of x ∷ starts)
drives_more x stack pushed to token tokens starts s d = (pushed, s, starts, refl, d)

pub drives_then : (stack : List Symbol) (front : List (List ℕ)) (mid : List Symbol) (starts : List (Option ℕ)) (back : List (List ℕ)) (to : List Symbol) (later : List (Option ℕ)) → Drives stack front mid starts → Drives mid back to later → Drives stack (front ++ back) to (starts ++ later)
drives_then stack [] mid starts back to later d e = rw (d.0, d.1) e
drives_then [] (token ∷ front) mid starts back to later d e = absurd d
drives_then (x ∷ stack) (token ∷ front) mid starts back to later d e = grind (arith, drives_then (d.0 ++ stack) front mid d.2 back to later d.4 e)

pub record Parted (stack : List Symbol) (front back : List (List ℕ)) (to : List Symbol) (starts : List (Option ℕ)) : Type 0 where
  pub mid : List Symbol
  pub before : List (Option ℕ)
  pub behind : List (Option ℕ)
  pub first : Drives stack front mid before
  pub second : Drives mid back to behind
  pub parts : starts ≡ before ++ behind

pub drives_part : (stack : List Symbol) (front back : List (List ℕ)) (to : List Symbol) (starts : List (Option ℕ)) → Drives stack (front ++ back) to starts → Parted stack front back to starts
drives_part stack [] back to starts d = record { mid = stack; before = []; behind = starts; first = (refl, refl); second = d; parts = refl }
drives_part [] (token ∷ front) back to starts d = absurd d
drives_part (x ∷ stack) (token ∷ front) back to starts d =
    let p = drives_part (d.0 ++ stack) front back to d.2 d.4 in
    record { mid = p.mid; before = start_of x ∷ p.before; behind = p.behind; first = (d.0, d.1, p.before, refl, p.first); second = p.second; parts = d.3 ∙ ap (λ (st : List (Option ℕ)). start_of x ∷ st) p.parts }

-- the tokens say what becomes of the stack, and which nodes begin
pub drives_one : (stack : List Symbol) (tokens : List (List ℕ)) (a : List Symbol) (starts : List (Option ℕ)) (b : List Symbol) (others : List (Option ℕ)) → Drives stack tokens a starts → Drives stack tokens b others → (a ≡ b) × (starts ≡ others)
drives_one stack [] a starts b others d e = (sym d.0 ∙ e.0, d.1 ∙ sym e.1)
drives_one [] (token ∷ tokens) a starts b others d e = absurd d
drives_one (x ∷ stack) (token ∷ tokens) a starts b others d e =
    let same : d.0 ≡ e.0 = some_is d.0 e.0 (sym d.1 ∙ e.1) in
    let p = drives_one (d.0 ++ stack) tokens a d.2 b e.2 d.4 (subst (λ (p : List Symbol). Drives (p ++ stack) tokens b e.2) (sym same) e.4) in
    (p.0, d.3 ∙ ap (λ (st : List (Option ℕ)). start_of x ∷ st) p.1 ∙ sym e.3)

pub drives_each : (stack : List Symbol) (tokens : List (List ℕ)) (to : List Symbol) (starts : List (Option ℕ)) → Drives stack tokens to starts → length starts ≡ length tokens
drives_each stack [] to starts d = ap length d.1
drives_each [] (token ∷ tokens) to starts d = absurd d
drives_each (x ∷ stack) (token ∷ tokens) to starts d = ap length d.3 ∙ ap suc (drives_each (d.0 ++ stack) tokens to d.2 d.4)
