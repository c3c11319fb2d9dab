-- What was taken of lines with seals.
use Rattle.std.proofs.Common.{◌≡◌, ℕ, ◌+◌, ◌-◌, ◌<◌, true, List, [], ◌∷◌, ◌++◌, length, take, drop, get_or, refl, sym, ap, subst, ◌∙◌, append_assoc, append-nil}
use Rattle.std.specs.Prelude.{Option, None, Some, Result, Ok, Err, OnOk}
use Rattle.std.specs.Option.{option_map}
use Rattle.std.specs.Io.KnownBytes.{Appends}
use Rattle.std.specs.List.{flat_map}
use Rattle.std.proofs.lemmas.Grind.{flat_map-append}
use Rattle.std.proofs.lemmas.List.{take_rest, drop-drop}
use Rattle.mps_lines.specs.Cuts.{Cut, cut}
use Rattle.mps_lines.specs.Lines.{HasNoBreak, ended}
use Rattle.mps_lines.proofs.Cutting.{cut_rest, next_cut}
use Rattle.mps_seal.specs.Seals.{all_sealed, next_seal, seal_after, sealed}
use Rattle.mps_keeper.specs.Books.{Sealed, TookSealed, sealed_on}
use Rattle.mps_keeper.specs.Chains.{Reads, ReadsAll, in_front}
use Rattle.mps_keeper.specs.declared.chain.Chain.{Chain}

-- lines after lines
all_sealed_more : (seal : List ℕ) (first next : List (List ℕ)) → all_sealed seal (first ++ next) ≡ all_sealed seal first ++ all_sealed (seal_after seal first) next
all_sealed_more seal [] next = refl
all_sealed_more seal (l ∷ first) next = ap (λ (x : List (List ℕ)). sealed seal l ∷ x) (all_sealed_more (next_seal seal l) first next)

seal_after_more : (seal : List ℕ) (first next : List (List ℕ)) → seal_after seal (first ++ next) ≡ seal_after (seal_after seal first) next
seal_after_more seal [] next = refl
seal_after_more seal (l ∷ first) next = seal_after_more (next_seal seal l) first next

on_more : (t : Sealed) (first next : List (List ℕ)) → sealed_on (sealed_on t first) next ≡ sealed_on t (first ++ next)
on_more t first next =
    let bytes : (t.bytes ++ flat_map ended (all_sealed t.seal first)) ++ flat_map ended (all_sealed (seal_after t.seal first) next) ≡ t.bytes ++ flat_map ended (all_sealed t.seal (first ++ next)) =
    append_assoc t.bytes (flat_map ended (all_sealed t.seal first)) (flat_map ended (all_sealed (seal_after t.seal first) next))
    ∙ ap (λ (x : List ℕ). t.bytes ++ x) (sym (flat_map-append ended (all_sealed t.seal first) (all_sealed (seal_after t.seal first) next)) ∙ ap (λ (x : List (List ℕ)). flat_map ended x) (sym (all_sealed_more t.seal first next))) in
    λ i. record { bytes = bytes i; seal = sym (seal_after_more t.seal first next) i }

pub sealed_more : (a b c : Option Sealed) (first next : List (List ℕ)) → TookSealed a first b → TookSealed b next c → TookSealed a (first ++ next) c
sealed_more None b c first next h k = tt
sealed_more (Some t) None c first next h k = absurd h
sealed_more (Some t) (Some u) None first next h k = absurd k
sealed_more (Some t) (Some u) (Some v) first next h k = k ∙ (ap (λ (x : Sealed). sealed_on x next) h ∙ on_more t first next)

-- nothing
pub sealed_none : (a : Option Sealed) → TookSealed a [] a
sealed_none None = tt
sealed_none (Some t) = λ i. record { bytes = sym (append-nil t.bytes) i; seal = t.seal }

-- what a book took, by what its sink took
pub took_one : (old new : Option (List ℕ)) (seal seal' line text : List ℕ) → Appends old new text → text ≡ ended (sealed seal line) → seal' ≡ next_seal seal line
    → TookSealed (option_map (λ bytes. record { bytes = bytes; seal = seal }) old) (line ∷ []) (option_map (λ bytes. record { bytes = bytes; seal = seal' }) new)
took_one None new seal seal' line text h is next = tt
took_one (Some xs) None seal seal' line text h is next = absurd h
took_one (Some xs) (Some ys) seal seal' line text h is next =
    let bytes : ys ≡ xs ++ (ended (sealed seal line) ++ []) = h ∙ ap (λ (x : List ℕ). xs ++ x) (is ∙ sym (append-nil (ended (sealed seal line)))) in
    λ i. record { bytes = bytes i; seal = next i }

pub took_same : (a b : Option Sealed) → b ≡ a → TookSealed a [] b
took_same a b is = subst (λ (x : Option Sealed). TookSealed a [] x) (sym is) (sealed_none a)

pub recorded : {A E : Type 0} (r : Result A E) (old new : Option (List ℕ)) (seal seal' next line text : List ℕ) → OnOk r (Appends old new text) → OnOk r (seal' ≡ next) → text ≡ ended (sealed seal line) → next ≡ next_seal seal line
    → OnOk r (TookSealed (option_map (λ bytes. record { bytes = bytes; seal = seal }) old) (line ∷ []) (option_map (λ bytes. record { bytes = bytes; seal = seal' }) new))
recorded (Ok x) old new seal seal' next line text h is text_is next_is = took_one old new seal seal' line text h text_is (is ∙ next_is)
recorded (Err e) old new seal seal' next line text h is text_is next_is = tt

-- the same of lines that were sealed together
took_all : (old new : Option (List ℕ)) (seal seal' text : List ℕ) (lines : List (List ℕ)) → Appends old new text → text ≡ flat_map ended (all_sealed seal lines) → seal' ≡ seal_after seal lines
    → TookSealed (option_map (λ bytes. record { bytes = bytes; seal = seal }) old) lines (option_map (λ bytes. record { bytes = bytes; seal = seal' }) new)
took_all None new seal seal' text lines h is last = tt
took_all (Some xs) None seal seal' text lines h is last = absurd h
took_all (Some xs) (Some ys) seal seal' text lines h is last =
    let bytes : ys ≡ xs ++ flat_map ended (all_sealed seal lines) = h ∙ ap (λ (x : List ℕ). xs ++ x) is in
    λ i. record { bytes = bytes i; seal = last i }

pub all_taken : {A E : Type 0} (r : Result A E) (old new : Option (List ℕ)) (seal seal' next text : List ℕ) (lines : List (List ℕ)) → OnOk r (Appends old new text) → OnOk r (seal' ≡ next) → text ≡ flat_map ended (all_sealed seal lines) → next ≡ seal_after seal lines
    → OnOk r (TookSealed (option_map (λ bytes. record { bytes = bytes; seal = seal }) old) lines (option_map (λ bytes. record { bytes = bytes; seal = seal' }) new))
all_taken (Ok x) old new seal seal' next text lines h is text_is next_is = took_all old new seal seal' text lines h text_is (is ∙ next_is)
all_taken (Err e) old new seal seal' next text lines h is text_is next_is = tt

-- ---- sealed together

-- the rest behind a line
rest_is : (items : List ℕ) (k : ℕ) → take (length items - (k + 1)) (drop (k + 1) items) ≡ drop 1 (drop k items)
rest_is items k = take_rest items (k + 1) ∙ sym (drop-drop 1 k items)

-- a line more, of those that are left
module _ (items : List ℕ) (k : ℕ) (within : k < length items) (end : get_or items k 0 ≡ 10) (before : HasNoBreak (take k items)) where
  module _ (seal next line rest : List ℕ) (was : rest ≡ take (length items - (k + 1)) (drop (k + 1) items)) (line_is : line ≡ take k items) (next_is : next ≡ next_seal seal line) where
    is : rest ≡ drop 1 (drop k items)
    is = was ∙ rest_is items k

    of_front : next ≡ next_seal seal (take k items)
    of_front = next_is ∙ ap (λ (l : List ℕ). next_seal seal l) line_is

    pub rest_sealed : (out out' : List ℕ) → out' ≡ out ++ ended (sealed seal line) → out' ++ flat_map ended (all_sealed next (cut rest).lines) ≡ out ++ flat_map ended (all_sealed seal (cut items).lines)
    rest_sealed out out' more =
        let tail : List ℕ → List ℕ = λ r. flat_map ended (all_sealed (next_seal seal (take k items)) (cut r).lines) in
        ap (λ (s : List ℕ). out' ++ flat_map ended (all_sealed s (cut rest).lines)) of_front
        ∙ ap (λ (x : List ℕ). x ++ tail rest) (more ∙ ap (λ (l : List ℕ). out ++ ended (sealed seal l)) line_is)
        ∙ append_assoc out (ended (sealed seal (take k items))) (tail rest)
        ∙ ap (λ (r : List ℕ). out ++ (ended (sealed seal (take k items)) ++ tail r)) is
        ∙ ap (λ (c : Cut). out ++ flat_map ended (all_sealed seal c.lines)) (sym (next_cut items k within end before))

    pub rest_after : seal_after next (cut rest).lines ≡ seal_after seal (cut items).lines
    rest_after =
        ap (λ (s : List ℕ). seal_after s (cut rest).lines) of_front
        ∙ ap (λ (r : List ℕ). seal_after (next_seal seal (take k items)) (cut r).lines) is
        ∙ ap (λ (c : Cut). seal_after seal c.lines) (sym (next_cut items k within end before))

-- none is left
pub none_left : (rest seal out : List ℕ) → HasNoBreak rest → out ++ flat_map ended (all_sealed seal (cut rest).lines) ≡ out
none_left rest seal out h = ap (λ (c : Cut). out ++ flat_map ended (all_sealed seal c.lines)) (cut_rest rest h) ∙ append-nil out

pub none_after : (rest seal : List ℕ) → HasNoBreak rest → seal_after seal (cut rest).lines ≡ seal
none_after rest seal h = ap (λ (c : Cut). seal_after seal c.lines) (cut_rest rest h)

-- ---- read again

module _ (one_line : (before line other : List ℕ) → sealed before line ≡ sealed before other → line ≡ other) where
  next_read : (seal line : List ℕ) (body : Option (List ℕ)) (after : Chain) → Reads (record { seal = seal; is_sealed = true }) (sealed seal line) body after → (body ≡ Some line) × (after ≡ record { seal = next_seal seal line; is_sealed = true })
  next_read seal line None after h = absurd cc
  next_read seal line (Some body) after h = let same : line ≡ body = one_line seal line body h.0 in
      (ap (λ (b : List ℕ). Some b) (sym same), h.1 ∙ ap (λ (b : List ℕ). record { seal = next_seal seal b; is_sealed = true }) (sym same))

  pub read_again : (seal : List ℕ) (lines bodies : List (List ℕ)) (after : Chain) → ReadsAll (record { seal = seal; is_sealed = true }) (all_sealed seal lines) bodies after → (bodies ≡ lines) × (after ≡ record { seal = seal_after seal lines; is_sealed = true })
  read_again seal [] bodies after h = h
  read_again seal (line ∷ lines) bodies after h =
      let one = next_read seal line h.1 h.0 h.3 in
      let rest = read_again (next_seal seal line) lines h.2 after (subst (λ (c : Chain). ReadsAll c (all_sealed (next_seal seal line) lines) h.2 after) one.1 h.5) in
      (h.4 ∙ ap (λ (b : Option (List ℕ)). in_front b h.2) one.0 ∙ ap (λ (l : List (List ℕ)). line ∷ l) rest.0, rest.1)
