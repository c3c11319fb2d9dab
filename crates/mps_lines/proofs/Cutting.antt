-- How bytes are cut.
use Rattle.std.proofs.Common.{◌≡◌, ◌≢◌, ℕ, suc, ◌+◌, ◌-◌, ◌<◌, ◌≤◌, true, Some, List, [], ◌∷◌, ◌++◌, length, take, drop, map, refl, sym, ap, ◌∙◌, subst, arith, get_or, append_assoc, append-nil, add-one, take-append-drop, drop-cons, length-append, length-drop, min, ⊎_elim}
use Rattle.std.specs.Prelude.{◌==◌}
use Rattle.std.proofs.lemmas.List.{get_or-take, map-append, length-take, length-take-le, take-take}
use Rattle.std.proofs.Math.Seq.{take-append-add, take-append_seam}
use Rattle.std.specs.List.{AllByRecursion, concat, flat_map, fold}
use Rattle.std.proofs.lemmas.Bool.{cases_Bool, cases_lt, lt-ltb, ne_eqb, eq-eqb, cond-true, cond-false}
use Rattle.mps_lines.specs.Lines.{HasNoBreak, ended, IsSplit, most_kept, front}
use Rattle.mps_lines.specs.Cuts.{Cut, cut, line_of, Pending, pending_of, fed, nothing, last_of}
use Rattle.mps_lines.specs.declared.line.Line.{Line}
use Rattle.mps_lines.proofs.Splitting.{front_fits, front_front, front_short, split_nothing, take_min, AllByRecursion-append}

-- a rest without LF
pub cut_rest : (r : List ℕ) → HasNoBreak r → cut r ≡ record { lines = []; rest = r }
cut_rest [] h = refl
cut_rest (c ∷ r) h = cc (cond-false (c == 10) _ _ (ne_eqb c 10 h.0), cut_rest r h.1)

-- a line in front
pub cut_line : (line bytes : List ℕ) → HasNoBreak line → cut (line ++ 10 ∷ bytes) ≡ record { lines = line ∷ (cut bytes).lines; rest = (cut bytes).rest }
cut_line [] bytes h = refl
cut_line (c ∷ line) bytes h = cc (cond-false (c == 10) _ _ (ne_eqb c 10 h.0), cut_line line bytes h.1)

-- lines and a rest are cut as they were put together
cut_of : (lines : List (List ℕ)) (rest : List ℕ) → AllByRecursion HasNoBreak lines → HasNoBreak rest → cut (flat_map ended lines ++ rest) ≡ record { lines = lines; rest = rest }
cut_of [] rest each h = cut_rest rest h
cut_of (line ∷ lines) rest each h = cc (append_assoc (line ++ 10 ∷ []) (flat_map ended lines) rest, append_assoc line (10 ∷ []) (flat_map ended lines ++ rest), cut_line line (flat_map ended lines ++ rest) each.0, cut_of lines rest each.1 h)

-- a split is how the bytes are cut
pub cut_is : (bytes : List ℕ) (lines : List (List ℕ)) (rest : List ℕ) → IsSplit bytes lines rest → cut bytes ≡ record { lines = lines; rest = rest }
cut_is bytes lines rest s = ap cut s.whole ∙ cut_of lines rest s.each s.unended

-- bytes are split as they are cut
pub cut_splits : (bytes : List ℕ) → IsSplit bytes (cut bytes).lines (cut bytes).rest
cut_splits [] = split_nothing
cut_splits (c ∷ bytes) = grind (arith, cut_splits bytes, cases_Bool (c == 10))

-- the first line that waits
pub next_cut : (items : List ℕ) (k : ℕ) → k < length items → get_or items k 0 ≡ 10 → HasNoBreak (take k items) → cut items ≡ record { lines = take k items ∷ (cut (drop 1 (drop k items))).lines; rest = (cut (drop 1 (drop k items))).rest }
next_cut items k within end before = cc (drop-cons items k 0 within, take-append-drop k items, cut_line (take k items) (drop 1 (drop k items)) before)

-- a front of a line has no break
no_break-take : (n : ℕ) (xs : List ℕ) → HasNoBreak xs → HasNoBreak (take n xs)
no_break-take (suc n) (c ∷ xs) h = (h.0, no_break-take n xs h.1)
no_break-take other others h = tt

-- a line is told by its front
pub told_by_front : (l : List ℕ) → line_of (front l) ≡ line_of l
told_by_front l =
    ⊎_elim
    (λ (long : 512 < length l).
    let many : length (front l) ≡ 513 = length-take-le 513 l (omega arith) in
    grind (arith, cond-true, lt-ltb))
    (λ (few : length l ≤ 512). ap line_of (front_short l (omega arith)))
    (cases_lt 512 (length l))

-- where no line waits all bytes are the rest
pub all_rest : (items : List ℕ) → map line_of (cut items).lines ≡ [] → items ≡ (cut items).rest
all_rest items e = (cut_splits items).whole ∙ ap (λ (l : List (List ℕ)). flat_map ended l ++ (cut items).rest) (none (cut items).lines e) where
  none : (l : List (List ℕ)) → map line_of l ≡ [] → l ≡ []
  none [] e = refl
  none (x ∷ l) e = absurd cc

-- whole lines in front
cut_after : (lines : List (List ℕ)) (bytes : List ℕ) → AllByRecursion HasNoBreak lines → cut (flat_map ended lines ++ bytes) ≡ record { lines = lines ++ (cut bytes).lines; rest = (cut bytes).rest }
cut_after [] bytes each = refl
cut_after (line ∷ lines) bytes each = cc (append_assoc (line ++ 10 ∷ []) (flat_map ended lines) bytes, append_assoc line (10 ∷ []) (flat_map ended lines ++ bytes), cut_line line (flat_map ended lines ++ bytes) each.0, cut_after lines bytes each.1)

-- what is told of a cut
abbrev told : Cut → Pending
told k = record { waiting = map line_of k.lines; rest = front k.rest }

-- the front of a rest stands for it
front_told : (r p : List ℕ) → HasNoBreak r → told (cut (front r ++ p)) ≡ told (cut (r ++ p))
front_told r p h =
    let s = cut_splits p in
    go (cut p).lines (cut p).rest s
  where
    fronts : HasNoBreak (front r)
    fronts = no_break-take 513 r h

    go : (lines : List (List ℕ)) (rest : List ℕ) → IsSplit p lines rest → told (cut (front r ++ p)) ≡ told (cut (r ++ p))
    go [] rest s =
        let unended = subst HasNoBreak (sym s.whole) s.unended in
        ap told (cut_rest (front r ++ p) (AllByRecursion-append (λ c. c ≢ 10) (front r) p fronts unended))
        ∙ ap (λ (l : List ℕ). let k : Pending = record { waiting = []; rest = l } in k) (front_front r p)
        ∙ sym (ap told (cut_rest (r ++ p) (AllByRecursion-append (λ c. c ≢ 10) r p h unended)))
    go (line ∷ lines) rest s =
        let tail = flat_map ended lines ++ rest in
        let is : p ≡ line ++ 10 ∷ tail = s.whole ∙ append_assoc (line ++ 10 ∷ []) (flat_map ended lines) rest ∙ append_assoc line (10 ∷ []) tail in
        let by = λ (x : List ℕ) (hx : HasNoBreak x). ap (λ (l : List ℕ). cut (x ++ l)) is ∙ ap cut (sym (append_assoc x line (10 ∷ tail))) ∙ cut_line (x ++ line) tail (AllByRecursion-append (λ c. c ≢ 10) x line hx s.each.0) in
        let same : line_of (front r ++ line) ≡ line_of (r ++ line) = sym (told_by_front (front r ++ line)) ∙ ap line_of (front_front r line) ∙ told_by_front (r ++ line) in
        ap told (by (front r) fronts)
        ∙ ap (λ (x : Line). let k : Pending = record { waiting = x ∷ map line_of (cut tail).lines; rest = front (cut tail).rest } in k) same
        ∙ sym (ap told (by r h))

-- more bytes go on with the rest
pub cut_more : (bytes p : List ℕ) → cut (bytes ++ p) ≡ record { lines = (cut bytes).lines ++ (cut ((cut bytes).rest ++ p)).lines; rest = (cut ((cut bytes).rest ++ p)).rest }
cut_more bytes p =
    let s = cut_splits bytes in
    grind (arith, append_assoc, cut_after)

-- one more piece
fed_piece : (bytes p : List ℕ) → fed (pending_of bytes) p ≡ pending_of (bytes ++ p)
fed_piece bytes p =
    let r = (cut bytes).rest in
    let lines = (cut bytes).lines in
    grind (arith, front_told r p (cut_splits bytes).unended, map-append line_of lines (cut (r ++ p)).lines, cut_more bytes p)

fed_pieces : (bytes : List ℕ) (pieces : List (List ℕ)) → fold fed (pending_of bytes) pieces ≡ pending_of (bytes ++ concat pieces)
fed_pieces bytes [] = ap pending_of (sym (append-nil bytes))
fed_pieces bytes (p ∷ pieces) = cc (fed_piece bytes p, fed_pieces (bytes ++ p) pieces, append_assoc bytes p (concat pieces))

-- all pieces, from the beginning
pub pieces_told : (pieces : List (List ℕ)) → fold fed nothing pieces ≡ pending_of (concat pieces)
pieces_told pieces = fed_pieces [] pieces

-- a rest with a byte is a last line
pub last_is : (r : List ℕ) → 0 < length r → last_of r ≡ Some (line_of r)
last_is r h = grind arith

-- the bytes before the rest are those of the lines
whole_take : (items front r : List ℕ) (n : ℕ) → items ≡ front ++ r → n ≡ length r → take (length items - n) items ≡ front
whole_take items front r n e h = grind (arith, length-append front r, take-append_seam front r)

-- no LF stands before the rest, so no line waits
pub no_line : (items : List ℕ) (n : ℕ) → n ≡ length (cut items).rest → HasNoBreak (take (length items - n) items) → (cut items).lines ≡ []
no_line items n h none =
    let s = cut_splits items in
    let bytes = flat_map ended (cut items).lines in
    let unended = subst HasNoBreak (whole_take items bytes (cut items).rest n s.whole h ∙ sym (append-nil bytes)) none in
    ap (λ (k : Cut). k.lines) (sym (cut_of (cut items).lines [] s.each tt) ∙ cut_rest (bytes ++ []) unended)

-- the first line, found before the rest
pub next_whole : (items : List ℕ) (n k : ℕ) → k < length (take n items) → get_or (take n items) k 0 ≡ 10 → HasNoBreak (take k (take n items)) → cut items ≡ record { lines = take k items ∷ (cut (drop 1 (drop k items))).lines; rest = (cut (drop 1 (drop k items))).rest }
next_whole items n k within end before = grind (arith, length-take, next_cut, get_or-take, take-take)

-- no byte is an LF, said by places
pub no_break_places : (bytes : List ℕ) → ((j : ℕ) → j < length bytes → ¬ ((get_or bytes j 0 == 10) ≡ true)) → HasNoBreak bytes
no_break_places [] h = tt
no_break_places (c ∷ bytes) h = (λ (e : c ≡ 10). h 0 (omega arith) (eq-eqb c 10 e), no_break_places bytes (λ j within. h (suc j) (omega arith)))

-- what stands after the last LF
pub rest_behind : (p : List ℕ) (k : ℕ) → k < length p → get_or p k 0 ≡ 10 → HasNoBreak (drop (k + 1) p) → drop (k + 1) p ≡ (cut p).rest
rest_behind p k within end none =
    let tail = drop (k + 1) p in
    let parts : p ≡ take k p ++ 10 ∷ tail =
    sym (take-append-drop k p) ∙ ap (λ (l : List ℕ). take k p ++ l) (drop-cons p k 0 within ∙ ap (λ (c : ℕ). c ∷ drop (suc k) p) end ∙ ap (λ (j : ℕ). 10 ∷ drop j p) (sym (add-one k))) in
    let s = cut_splits (take k p) in
    grind (arith, cut_more, cut_line, cut_rest)

-- a piece of which the lines and the front of the rest are kept, after a rest
pub record IsKept (r p kept : List ℕ) (n : ℕ) : Type 0 where
  pub is_cut : cut (r ++ kept) ≡ record { lines = (cut (r ++ p)).lines; rest = front (cut (r ++ p)).rest }
  pub is_long : n ≡ length (front (cut (r ++ p)).rest)

pub kept_piece : (r p : List ℕ) (start had count : ℕ) → HasNoBreak r → length r ≤ most_kept → start ≤ length p → drop start p ≡ (cut p).rest → (start ≡ 0 → had ≡ length r) → (0 < start → had ≡ 0) → count ≡ min (most_kept - had) (length p - start) → IsKept r p (take (start + count) p) (had + count)
kept_piece r p start had count h few within e at_start behind counted = go (cut p).lines (cut p).rest (cut_splits p) e where
  is : (lines : List (List ℕ)) (old whole kept : List ℕ) (n : ℕ) → cut whole ≡ record { lines = lines; rest = old } → cut (r ++ kept) ≡ record { lines = lines; rest = front old } → whole ≡ r ++ p → n ≡ length (front old) → IsKept r p kept n
  is lines old whole kept n was now same long = record {
    is_cut = now ∙ ap (λ (k : Cut). let c : Cut = record { lines = k.lines; rest = front k.rest } in c) (sym was ∙ ap cut same);
    is_long = long ∙ ap (λ (k : Cut). length (front k.rest)) (sym was ∙ ap cut same);
  }

  go : (lines : List (List ℕ)) (t : List ℕ) → IsSplit p lines t → drop start p ≡ t → IsKept r p (take (start + count) p) (had + count)
  go [] t s d =
      let unended = subst HasNoBreak (sym s.whole) s.unended in
      let size = length-drop start p in
      let whole_size : length (drop start p) ≡ length p = ap (λ (l : List ℕ). length l) (d ∙ sym s.whole) in
      let zero_start : start ≡ 0 = omega (arith, size, whole_size, within) in
      let had_is = at_start zero_start in
      let count_is : count ≡ min (most_kept - length r) (length p) = omega (arith, counted, had_is, zero_start) in
      let kept : r ++ take (start + count) p ≡ front (r ++ p) = ap (λ (k : ℕ). r ++ take k p) (let k : start + count ≡ min (most_kept - length r) (length p) = omega arith in k) ∙ front_fits r p few in
      let all = AllByRecursion-append (λ c. c ≢ 10) r p h unended in
      is [] (r ++ p) (r ++ p) (take (start + count) p) (had + count)
      (cut_rest (r ++ p) all)
      (ap cut kept ∙ cut_rest (front (r ++ p)) (no_break-take most_kept (r ++ p) all))
      refl
      (let size_is : had + count ≡ length (r ++ take (start + count) p) = omega (arith, length-append r (take (start + count) p), length-take (start + count) p) in size_is ∙ ap (λ (l : List ℕ). length l) kept)
  go (line ∷ lines) t s d =
      let bytes = flat_map ended (line ∷ lines) in
      let size = length-drop start p in
      let t_size : length (drop start p) ≡ length t = ap (λ (l : List ℕ). length l) d in
      let p_size : length p ≡ length bytes + length t = ap (λ (l : List ℕ). length l) s.whole ∙ length-append bytes t in
      let some : 0 < length bytes = omega (arith, length-append (ended line) (flat_map ended lines), length-append line (10 ∷ [])) in
      let start_is : start ≡ length bytes = omega (arith, size, t_size, p_size, within) in
      let count_is : count ≡ min most_kept (length t) = omega (arith, counted, size, t_size) in
      let kept_t : take count t ≡ front t = ap (λ (k : ℕ). take k t) count_is ∙ take_min most_kept t in
      let kept : take (start + count) p ≡ bytes ++ front t =
      ap (λ (l : List ℕ). take (start + count) l) s.whole ∙ ap (λ (k : ℕ). take (k + count) (bytes ++ t)) start_is ∙ take-append-add bytes t count ∙ ap (λ (l : List ℕ). bytes ++ l) kept_t in
      let behind_r = λ (x : List ℕ). sym (append_assoc r bytes x) ∙ ap (λ (l : List ℕ). l ++ x) (sym (append_assoc r (ended line) (flat_map ended lines)) ∙ ap (λ (l : List ℕ). l ++ flat_map ended lines) (sym (append_assoc r line (10 ∷ [])))) in
      let each : AllByRecursion HasNoBreak ((r ++ line) ∷ lines) = (AllByRecursion-append (λ c. c ≢ 10) r line h s.each.0, s.each.1) in
      is ((r ++ line) ∷ lines) t (r ++ (bytes ++ t)) (take (start + count) p) (had + count)
      (ap cut (behind_r t) ∙ cut_of ((r ++ line) ∷ lines) t each s.unended)
      (ap (λ (l : List ℕ). cut (r ++ l)) kept ∙ ap cut (behind_r (front t)) ∙ cut_of ((r ++ line) ∷ lines) (front t) each (no_break-take most_kept t s.unended))
      (ap (λ (l : List ℕ). r ++ l) (sym s.whole))
      (let n : had + count ≡ count = omega arith in n ∙ (let m : count ≡ length (take count t) = omega (arith, length-take count t, count_is) in m) ∙ ap (λ (l : List ℕ). length l) kept_t)

-- the rest is no longer than the bytes
pub rest_within : (items : List ℕ) → length (cut items).rest ≤ length items
rest_within items =
    let bytes = flat_map ended (cut items).lines in
    grind (arith, cut_splits items, length-append bytes (cut items).rest)

-- the rest, once a piece is kept
pub kept_rest : (items p kept new : List ℕ) (n : ℕ) → IsKept (cut items).rest p kept n → new ≡ items ++ kept → (n ≡ length (cut new).rest) × (n ≤ most_kept)
kept_rest items p kept new n k e = grind (arith, cut_more items kept, length-take most_kept (cut ((cut items).rest ++ p)).rest)

-- the lines and the rest, once a piece is kept
pub kept_view : (items p kept new : List ℕ) (n : ℕ) → IsKept (cut items).rest p kept n → new ≡ items ++ kept → record { waiting = map line_of (cut new).lines; rest = (cut new).rest } ≡ fed (record { waiting = map line_of (cut items).lines; rest = (cut items).rest }) p
kept_view items p kept new n k e = grind (arith, cut_more, map-append)
