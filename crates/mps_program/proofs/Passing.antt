-- What is passed on up to a refusal.
use Rattle.std.proofs.Common.{◌≡◌, ℕ, zero, suc, ◌-◌, ◌<◌, ◌≤◌, ◌%◌, ◌^◌, true, false, Option, Some, None, Result, Ok, Err, List, [], ◌∷◌, ◌++◌, length, take, get_or, refl, sym, ap, subst, ◌∙◌, arith, add-one, length-append}
use Rattle.std.specs.Prelude.{◌⊎◌, is_some}
use Rattle.std.proofs.Common.{inl, inr}
use Rattle.std.proofs.lemmas.Bool.{cases_Bool, cases_eq, cases_lt}
use Rattle.std.proofs.lemmas.List.{take_all, take-take, take_more}
use Rattle.mps_line.specs.Codes.{is_refusal}
use Rattle.mps_lines.specs.Lines.{HasNoBreak, with_last}
use Rattle.mps_lines.specs.Cuts.{Cut, cut}
use Rattle.mps_lines.proofs.Splitting.{AllByRecursion-append}
use Rattle.mps_program.specs.Heard.{EndsAtRefusal, EndsStrictly, after_strict, begun, first_refusal, refusals, wrapped}
use Rattle.mps_program.specs.declared.faults.ToolFault.{ToolFault}
use Rattle.mps_program.proofs.Hearing.{cut_begun, cut_ended}

-- at most the last is a refusal
ends_few : (lines : List (List ℕ)) → EndsAtRefusal lines → refusals lines ≤ 1
ends_few [] h = omega arith
ends_few (line ∷ lines) h =
    elim (cases_Bool (is_refusal line)) [
      | inl e ↦ let none : lines ≡ [] = h.0 e in grind (arith, none)
      | inr e ↦ grind (arith, ends_few lines h.1)
    ]

-- a refusal is the last line
refusal_last : (lines : List (List ℕ)) → EndsAtRefusal lines → 0 < refusals lines → first_refusal lines ≡ Some (length lines)
refusal_last [] h some = absurd (omega (arith, some))
refusal_last (line ∷ lines) h some =
    elim (cases_Bool (is_refusal line)) [
      | inl e ↦ let none : lines ≡ [] = h.0 e in grind (arith, none)
      | inr e ↦ let more : 0 < refusals lines = grind arith in grind (arith, add-one, refusal_last lines h.1 more)
    ]

-- where none is a refusal
no_refusal : (lines : List (List ℕ)) → refusals lines ≡ 0 → first_refusal lines ≡ None
no_refusal [] e = refl
no_refusal (line ∷ lines) e =
    elim (cases_Bool (is_refusal line)) [
      | inl f ↦ absurd (grind arith)
      | inr f ↦ let more : refusals lines ≡ 0 = grind arith in grind (arith, no_refusal lines more)
    ]

-- where no refusal is found
none_found : (lines : List (List ℕ)) → EndsAtRefusal lines → first_refusal lines ≡ None → refusals lines ≡ 0
none_found lines h e =
    let few = ends_few lines h in
    elim (cases_lt 0 (refusals lines)) [
      | inl some ↦ absurd (let last = refusal_last lines h some in cc)
      | inr none ↦ omega arith
    ]

-- no line before another is a refusal
before_last : (lines : List (List ℕ)) (last : List ℕ) → EndsAtRefusal (lines ++ last ∷ []) → refusals lines ≡ 0
before_last [] last h = refl
before_last (line ∷ lines) last h =
    elim (cases_Bool (is_refusal line)) [
      | inl e ↦ absurd (omega (arith, ap length (h.0 e), length-append lines (last ∷ [])))
      | inr e ↦ grind (arith, before_last lines last h.1)
    ]

-- where none is a refusal, one more line may be
one_more : (lines : List (List ℕ)) (last : List ℕ) → refusals lines ≡ 0 → EndsAtRefusal (lines ++ last ∷ [])
one_more [] last e = ((λ t. refl), tt)
one_more (line ∷ lines) last e =
    elim (cases_Bool (is_refusal line)) [
      | inl f ↦ absurd (grind arith)
      | inr f ↦ let more : refusals lines ≡ 0 = grind arith in ((λ t. let wrong : false ≡ true = sym f ∙ t in absurd cc), one_more lines last more)
    ]

no_lines : (lines : List (List ℕ)) → refusals lines ≡ 0 → EndsAtRefusal lines
no_lines [] e = tt
no_lines (line ∷ lines) e =
    elim (cases_Bool (is_refusal line)) [
      | inl f ↦ absurd (grind arith)
      | inr f ↦ let more : refusals lines ≡ 0 = grind arith in ((λ t. let wrong : false ≡ true = sym f ∙ t in absurd cc), no_lines lines more)
    ]

with_more : (lines : List (List ℕ)) (rest : List ℕ) → refusals lines ≡ 0 → EndsAtRefusal (with_last lines rest)
with_more lines [] e = no_lines lines e
with_more lines (c ∷ rest) e = one_more lines (c ∷ rest) e

-- what has ended ends at a refusal too
ends_before : (lines : List (List ℕ)) (rest : List ℕ) → EndsAtRefusal (with_last lines rest) → EndsAtRefusal lines
ends_before lines [] h = h
ends_before lines (c ∷ rest) h = no_lines lines (before_last lines (c ∷ rest) h)

-- the refusal that was heard is the last line, and has ended
pub named : (passed : List ℕ) (refused lines : ℕ) → EndsAtRefusal (begun passed) → refused ≡ refusals (begun passed) % 2 ^ 64 → 0 < refused → (cut passed).rest ≡ [] → lines ≡ length (cut passed).lines % 2 ^ 64 → Some lines ≡ wrapped (first_refusal (cut passed).lines)
named passed refused lines ends counted some whole numbered =
    let all = subst (λ (rest : List ℕ). EndsAtRefusal (with_last (cut passed).lines rest)) whole ends in
    let same = ap (λ (rest : List ℕ). refusals (with_last (cut passed).lines rest)) whole in
    ap (λ n. Some n) numbered ∙ ap wrapped (sym (refusal_last (cut passed).lines all (omega (arith, counted, same, some))))

-- no refusal was heard
pub none_heard : (passed : List ℕ) (refused : ℕ) → EndsAtRefusal (begun passed) → refused ≡ refusals (begun passed) % 2 ^ 64 → refused ≡ 0 → None ≡ wrapped (first_refusal (cut passed).lines)
none_heard passed refused ends counted none =
    let few = ends_few (begun passed) ends in
    let all : refusals (begun passed) ≡ 0 = omega (arith, few, counted, none) in
    ap wrapped (sym (go (cut passed).lines (cut passed).rest ends all))
  where
    go : (lines : List (List ℕ)) (rest : List ℕ) → EndsAtRefusal (with_last lines rest) → refusals (with_last lines rest) ≡ 0 → first_refusal lines ≡ None
    go lines [] ends e = no_refusal lines e
    go lines (c ∷ rest) ends e = no_refusal lines (before_last lines (c ∷ rest) ends)

-- the refusal that was heard has not ended
pub none_ended : (passed : List ℕ) → EndsAtRefusal (begun passed) → ((cut passed).rest ≡ [] → ⊥) → None ≡ wrapped (first_refusal (cut passed).lines)
none_ended passed ends unended = ap wrapped (sym (go (cut passed).lines (cut passed).rest ends unended)) where
  go : (lines : List (List ℕ)) (rest : List ℕ) → EndsAtRefusal (with_last lines rest) → (rest ≡ [] → ⊥) → first_refusal lines ≡ None
  go lines [] ends some = absurd (some refl)
  go lines (c ∷ rest) ends some = no_refusal lines (before_last lines (c ∷ rest) ends)

unbroken-take : (n : ℕ) (xs : List ℕ) → HasNoBreak xs → HasNoBreak (take n xs)
unbroken-take (suc n) (c ∷ xs) h = (h.0, unbroken-take n xs h.1)
unbroken-take other others h = tt

-- bytes of one line, which may end
pub record IsOfLine (bytes : List ℕ) : Type 0 where
  line : List ℕ
  unbroken : HasNoBreak line
  whole : (bytes ≡ line) ⊎ (bytes ≡ line ++ 10 ∷ [])

-- after bytes of one line
pub ends_after : (passed took : List ℕ) → EndsAtRefusal (begun passed) → first_refusal (cut passed).lines ≡ None → IsOfLine took → EndsAtRefusal (begun (passed ++ took))
ends_after passed took ends none h =
    let lines = (cut passed).lines in
    let rest = (cut passed).rest in
    let all : refusals lines ≡ 0 = none_found lines (ends_before lines rest ends) none in
    elim h.whole [
      | inl e ↦
          let k = ap (λ (bytes : List ℕ). cut (passed ++ bytes)) e ∙ cut_begun passed h.line h.unbroken in
          subst (λ (c : Cut). EndsAtRefusal (with_last c.lines c.rest)) (sym k) (with_more lines (rest ++ h.line) all)
      | inr e ↦
          let k = ap (λ (bytes : List ℕ). cut (passed ++ bytes)) e ∙ cut_ended passed h.line h.unbroken in
          subst (λ (c : Cut). EndsAtRefusal (with_last c.lines c.rest)) (sym k) (one_more lines (rest ++ h.line) all)
    ]

-- the front of a line, with the LF that may end it
pub of_line : (bytes : List ℕ) (n k : ℕ) → HasNoBreak (take (n - 1) bytes) → k ≤ n → IsOfLine (take k bytes)
of_line bytes n zero h fits = record { line = []; unbroken = tt; whole = inl refl }
of_line bytes n (suc k) h fits =
    let before : HasNoBreak (take k bytes) = subst HasNoBreak (take-take k (n - 1) bytes (omega arith)) (unbroken-take k (take (n - 1) bytes) h) in
    elim (cases_lt k (length bytes)) [
      | inl more ↦
          let parts : take (suc k) bytes ≡ take k bytes ++ get_or bytes k 0 ∷ [] = ap (λ m. take m bytes) (sym (add-one k)) ∙ take_more bytes k 0 more in
          elim (cases_eq (get_or bytes k 0) 10) [
            | inl e ↦ record { line = take k bytes; unbroken = before; whole = inr (parts ∙ ap (λ c. take k bytes ++ c ∷ []) e) }
            | inr e ↦ record { line = take (suc k) bytes; unbroken = subst HasNoBreak (sym parts) (AllByRecursion-append (λ (c : ℕ). c ≡ 10 → ⊥) (take k bytes) (get_or bytes k 0 ∷ []) before (e, tt)); whole = inl refl }
          ]
      | inr all ↦ record { line = take k bytes; unbroken = before; whole = inl (take_all (suc k) bytes (omega arith) ∙ sym (take_all k bytes all)) }
    ]

-- what is told of no refusal
pub none_named : (o : Option ℕ) → None ≡ wrapped o → o ≡ None
none_named None e = refl
none_named (Some k) e = absurd cc

-- an option without a value
pub none_there : (o : Option ℕ) → is_some o ≡ false → None ≡ o
none_there None e = refl
none_there (Some k) e = absurd cc

-- what a strict run comes to by the refusal that was passed on
pub ends_strictly : {A : Type 0} (o : Option ℕ) (ran : Result A ToolFault) → EndsStrictly o (after_strict (wrapped o) ran)
ends_strictly (Some k) ran = refl
ends_strictly None (Ok x) = refl
ends_strictly None (Err fault) = tt
