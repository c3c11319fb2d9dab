-- What one line more comes to.
use Rattle.std.proofs.Common.{◌≡◌, ℕ, ◌+◌, ◌<◌, ◌%◌, ◌^◌, Bool, true, false, cond, List, [], ◌∷◌, ◌++◌, length, take, drop, get_or, refl, sym, ap, subst, ◌∙◌, arith, add-one, drop-cons, take-append-drop, append_assoc, append-nil, length-append}
use Rattle.std.specs.Prelude.{◌==◌, ◌↔◌, IsTrue}
use Rattle.std.specs.List.{filter}
use Rattle.std.proofs.lemmas.Bool.{cases_Bool, ne_eqb, eq-eqb}
use Rattle.std.proofs.lemmas.List.Elements.{filter-append}
use Rattle.std.proofs.Math.Nat.{mod-add-mod}
use Rattle.mps_line.specs.Codes.{is_refusal}
use Rattle.mps_lines.specs.Lines.{HasNoBreak, with_last}
use Rattle.mps_lines.specs.Cuts.{Cut, cut}
use Rattle.mps_lines.proofs.Cutting.{cut_line, cut_more, cut_rest, cut_splits}
use Rattle.mps_lines.proofs.Splitting.{AllByRecursion-append}
use Rattle.mps_program.specs.declared.tally.Tally.{Tally}
use Rattle.mps_program.specs.Heard.{HasHeard, begun, refusals}
use Rattle.mps_program.specs.Private.Heard.{IsHearing}

-- what comes behind whole lines
abbrev behind : List (List ℕ) → Cut → Cut
behind lines k = record { lines = lines ++ k.lines; rest = k.rest }

-- the line that had begun is ended
pub cut_ended : (heard line : List ℕ) → HasNoBreak line → cut (heard ++ (line ++ 10 ∷ [])) ≡ record { lines = (cut heard).lines ++ ((cut heard).rest ++ line) ∷ []; rest = [] }
cut_ended heard line h =
    let rest = (cut heard).rest in
    cut_more heard (line ++ 10 ∷ [])
    ∙ ap (λ (bytes : List ℕ). behind (cut heard).lines (cut bytes)) (sym (append_assoc rest line (10 ∷ [])))
    ∙ ap (behind (cut heard).lines) (cut_line (rest ++ line) [] (AllByRecursion-append (λ (c : ℕ). c ≡ 10 → ⊥) rest line (cut_splits heard).unended h))

-- more of the line that had begun
pub cut_begun : (heard line : List ℕ) → HasNoBreak line → cut (heard ++ line) ≡ record { lines = (cut heard).lines; rest = (cut heard).rest ++ line }
cut_begun heard line h =
    let rest = (cut heard).rest in
    cut_more heard line
    ∙ ap (behind (cut heard).lines) (cut_rest (rest ++ line) (AllByRecursion-append (λ (c : ℕ). c ≡ 10 → ⊥) rest line (cut_splits heard).unended h))
    ∙ cc (append-nil (cut heard).lines)

-- one more, where a refusal begins
abbrev pub more : Bool → List ℕ → ℕ
more within line = cond within 0 (cond (is_refusal line) 1 0)

-- a line is a refusal by how it begins
pub refusals_of : (lines : List (List ℕ)) (rest line : List ℕ) (within : Bool) → (IsTrue within ↔ 0 < length rest) → refusals (lines ++ (rest ++ line) ∷ []) ≡ refusals (with_last lines rest) + more within line
refusals_of lines [] line true h = absurd (omega (arith, h.0 refl))
refusals_of lines [] line false h = grind (arith, cases_Bool (is_refusal line), filter-append is_refusal lines (line ∷ []), length-append (filter is_refusal lines) (filter is_refusal (line ∷ [])))
refusals_of lines (c ∷ rest) line true h = grind (arith, filter-append is_refusal lines, length-append (filter is_refusal lines))
refusals_of lines (c ∷ rest) line false h = let wrong : false ≡ true = h.1 (omega arith) in absurd cc

-- a line is the same refusal with what comes behind it
refusal_front : (line rest : List ℕ) → is_refusal (line ++ 10 ∷ rest) ≡ is_refusal line
refusal_front [] rest = refl
refusal_front (c ∷ line) rest = refl

refusal_at : (bytes : List ℕ) → is_refusal bytes ≡ (get_or bytes 0 0 == 114)
refusal_at [] = refl
refusal_at (c ∷ bytes) = refl

-- where the bytes begin a refusal
pub more_begins : (within : Bool) (bytes : List ℕ) → within ≡ false → get_or bytes 0 0 ≡ 114 → more within bytes ≡ 1
more_begins within bytes w r =
    ap (λ (b : Bool). more b bytes) w ∙ ap (λ (b : Bool). cond b 1 0) (refusal_at bytes ∙ eq-eqb (get_or bytes 0 0) 114 r)

-- where they begin another answer
pub more_other : (within : Bool) (bytes : List ℕ) → within ≡ false → (get_or bytes 0 0 ≡ 114 → ⊥) → more within bytes ≡ 0
more_other within bytes w r =
    ap (λ (b : Bool). more b bytes) w ∙ ap (λ (b : Bool). cond b 1 0) (refusal_at bytes ∙ ne_eqb (get_or bytes 0 0) 114 r)

-- where they go on with a line
pub more_later : (within : Bool) (bytes : List ℕ) → within ≡ true → more within bytes ≡ 0
more_later within bytes w = ap (λ (b : Bool). more b bytes) w

-- a line that ends is counted
counts_ended : (t u : Tally) (heard line : List ℕ) → HasNoBreak line → HasHeard t heard → u.lines ≡ (t.lines + 1) % 2 ^ 64 → u.refused ≡ (t.refused + more t.within line) % 2 ^ 64 → u.within ≡ false → HasHeard u (heard ++ (line ++ 10 ∷ []))
counts_ended t u heard line unbroken h lines refused within =
    let e = cut_ended heard line unbroken in
    record {
      lines =
          lines ∙ ap (λ n. (n + 1) % 2 ^ 64) h.lines ∙ mod-add-mod (length (cut heard).lines) (2 ^ 64) 1
          ∙ ap (λ n. n % 2 ^ 64) (sym (length-append (cut heard).lines (((cut heard).rest ++ line) ∷ [])))
          ∙ ap (λ (k : Cut). length k.lines % 2 ^ 64) (sym e);
      refused =
          refused ∙ ap (λ n. (n + more t.within line) % 2 ^ 64) h.refused ∙ mod-add-mod (refusals (begun heard)) (2 ^ 64) (more t.within line)
          ∙ ap (λ n. n % 2 ^ 64) (sym (refusals_of (cut heard).lines (cut heard).rest line t.within h.within))
          ∙ ap (λ (k : Cut). refusals (with_last k.lines k.rest) % 2 ^ 64) (sym e);
      within = ((λ w. let wrong : false ≡ true = sym within ∙ w in absurd cc), (λ some. absurd (omega (arith, sym (ap (λ (k : Cut). length k.rest) e), some))));
    }

-- a line that goes on is counted once
counts_begun : (t u : Tally) (heard line : List ℕ) → HasNoBreak line → 0 < length line → HasHeard t heard → u.lines ≡ t.lines → u.refused ≡ (t.refused + more t.within line) % 2 ^ 64 → u.within ≡ true → HasHeard u (heard ++ line)
counts_begun t u heard line unbroken some h lines refused within =
    let e = cut_begun heard line unbroken in
    record {
      lines = lines ∙ h.lines ∙ ap (λ (k : Cut). length k.lines % 2 ^ 64) (sym e);
      refused =
          refused ∙ ap (λ n. (n + more t.within line) % 2 ^ 64) h.refused ∙ mod-add-mod (refusals (begun heard)) (2 ^ 64) (more t.within line)
          ∙ ap (λ n. n % 2 ^ 64) (sym (refusals_of (cut heard).lines (cut heard).rest line t.within h.within))
          ∙ ap (λ n. n % 2 ^ 64) (as_last (cut heard).lines ((cut heard).rest ++ line) (omega (arith, length-append (cut heard).rest line)))
          ∙ ap (λ (k : Cut). refusals (with_last k.lines k.rest) % 2 ^ 64) (sym e);
      within = ((λ w. omega (arith, some, ap (λ (k : Cut). length k.rest) e, length-append (cut heard).rest line)), (λ many. within));
    }
  where
    as_last : (lines : List (List ℕ)) (rest : List ℕ) → 0 < length rest → refusals (lines ++ rest ∷ []) ≡ refusals (with_last lines rest)
    as_last lines [] few = absurd (omega (arith, few))
    as_last lines (c ∷ rest) few = refl

-- the first line is heard, with its LF
pub hears_ended : (t u : Tally) (bytes all : List ℕ) (k : ℕ) → k < length bytes → get_or bytes k 0 ≡ 10 → HasNoBreak (take k bytes) → u.lines ≡ (t.lines + 1) % 2 ^ 64 → u.refused ≡ (t.refused + more t.within bytes) % 2 ^ 64 → u.within ≡ false → IsHearing t bytes all → IsHearing u (drop (k + 1) bytes) all
hears_ended t u bytes all k few end unbroken lines refused within h =
    let line = take k bytes in
    let rest = drop (k + 1) bytes in
    let parts : bytes ≡ line ++ 10 ∷ rest = cc (drop-cons bytes k 0 few, take-append-drop k bytes, add-one k) in
    let same : is_refusal bytes ≡ is_refusal line = ap is_refusal parts ∙ refusal_front line rest in
    record {
      heard = h.heard ++ (line ++ 10 ∷ []);
      counted = counts_ended t u h.heard line unbroken h.counted lines (refused ∙ ap (λ (r : Bool). (t.refused + cond t.within 0 (cond r 1 0)) % 2 ^ 64) same) within;
      whole = cc (append_assoc h.heard (line ++ 10 ∷ []) rest, append_assoc line (10 ∷ []) rest, parts, h.whole);
    }

-- all of the bytes are heard, in which unbroken line ends
pub hears_begun : (t u : Tally) (bytes all : List ℕ) → HasNoBreak bytes → 0 < length bytes → u.lines ≡ t.lines → u.refused ≡ (t.refused + more t.within bytes) % 2 ^ 64 → u.within ≡ true → IsHearing t bytes all → IsHearing u [] all
hears_begun t u bytes all unbroken some lines refused within h =
    record {
      heard = h.heard ++ bytes;
      counted = counts_begun t u h.heard bytes unbroken some h.counted lines refused within;
      whole = append-nil (h.heard ++ bytes) ∙ h.whole;
    }

-- where nothing is left all is heard
pub heard_all : (t : Tally) (rest all : List ℕ) → length rest ≡ 0 → IsHearing t rest all → HasHeard t all
heard_all t [] all none h =
    let whole : h.heard ≡ all = sym (append-nil h.heard) ∙ h.whole in
    subst (HasHeard t) whole h.counted
heard_all t (c ∷ rest) all none h = absurd (omega (arith, none))
