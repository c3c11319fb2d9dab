-- Two passes meet.
use Rattle.std.proofs.Common.{◌≡◌, ℕ, ◌+◌, ◌≤◌, ◌==◌, Bool, false, List, [], ◌∷◌, ◌++◌, Option, filter, length, sym, refl, ap, ◌∙◌, subst, arith, length-append}
use Rattle.std.proofs.lemmas.List.{append-nil}
use Rattle.std.proofs.lemmas.List.Elements.{filter-append}
use mathlib.Core.Option as maybe
use Rattle.atomic_table.specs.Table.{Me, Step, step, Splits, Joins}
use Rattle.atomic_table.specs.Seated.{TableId}
use Rattle.mps_room.specs.Callers.{entries_of}
use Rattle.mps_room.specs.RoomState.{RoomState}
use Rattle.mps_room.specs.declared.entry.Entry.{Entry}
use Rattle.mps_room.specs.declared.numbers.Numbered.{Numbered}
use Rattle.mps_cell.specs.Openings.{Opening}
use Rattle.mps_cell.specs.Views.{Part, SeatView, part_of, raised, without_first, first_alone, both_parts, spent, first_stays, others_go}
use Rattle.mps_cell.specs.Rule.{IsJournaled, StartsWith, Shows, resting, Looks}
use Rattle.mps_cell.specs.Private.Rule.{IsResting, Met}
use Rattle.mps_cell.specs.Calls.{Known, known, carried, KeepsSeen}
use Rattle.mps_cell.specs.Meetings.{HasSeen, ReachesBoth}
use Rattle.mps_cell.proofs.Keeping.{deals, divides, gathers, pair}

abbrev M : Type 0
M = Me RoomState SeatView

abbrev part : M → Part
part m = part_of m.0.parts

pub lends_part : (o : Opening) (id : ℕ) (m : M) → IsResting m → Splits (IsJournaled o) id m.0 (without_first m.0) (first_alone m.0)
lends_part o id m free = deals o id m.0 (part m) [] (ap (λ (x : M). x.0.parts) free)

pub lent_part : (m m' : M) → IsResting m → m' ≡ (first_alone m.0, []) → m' ≡ resting (part m) false
lent_part m m' free is = is ∙ ap (λ (x : M). (first_alone x.0, [])) free

pub gathers_part : (o : Opening) (id other : ℕ) (m m' : M) (q : Part) → IsResting m → m' ≡ resting q false → Joins (IsJournaled o) id m.0 other m'.0 (both_parts m.0 m'.0) spent
gathers_part o id other m m' q free is = grind (arith, gathers)

pub gathered : (m m' m2 : M) (q : Part) → IsResting m → m' ≡ resting q false → m2 ≡ (both_parts m.0 m'.0, m.1) → m2 ≡ pair (part m) q m.0.was_out
gathered m m' m2 q free is now = now ∙ (λ i. (both_parts (free i).0 (is i).0, (free i).1))

pub looked_pair : (st : Step RoomState) (m m' : M) (p q : Part) (b : Bool) (r : ℕ) → m ≡ pair p q b → Looks st m r m'
    → (j : List Entry) × (b' : Bool) × Shows j p × Shows j q × (m' ≡ pair (raised (length j) p) (raised (length j) q) b')
looked_pair st m m' p q b r is l = grind (arith, pair)

pub divides_pair : (o : Opening) (id : ℕ) (m : M) (p q : Part) (b : Bool) → m ≡ pair p q b → Splits (IsJournaled o) id m.0 (first_stays m.0) (others_go m.0)
divides_pair o id m p q b is = subst (λ (x : M). Splits (IsJournaled o) id x.0 (first_stays x.0) (others_go x.0)) (sym is) (divides o id p q b)

pub met : (st : Step RoomState) (m l other m1 m2 m3 l3 : M) (r : ℕ) → IsResting m → IsResting l → other ≡ (first_alone l.0, []) → m1 ≡ (both_parts m.0 other.0, m.1) → Looks st m1 r m2
    → m3 ≡ (first_stays m2.0, m2.1) → l3 ≡ (others_go m2.0, []) → Met m l m3 l3
met st m l other m1 m2 m3 l3 r free free' lent joined looks mine its = grind (arith, looked_pair, gathered, lent_part)

-- of two beginnings of one list the shorter begins the longer
shorter_begins : (s l j : List Entry) → StartsWith j s → StartsWith j l → length s ≤ length l → StartsWith l s
shorter_begins (x ∷ s) (y ∷ l) (z ∷ j) p q le =
    let heads : x ≡ y = cc (p.1, q.1) in let rest = shorter_begins s l j (p.0, cc (p.1)) (q.0, cc (q.1)) (omega arith) in
    (rest.0, cc (heads, rest.1))
shorter_begins other others further p q le = grind arith

no_items : (l : List Entry) → length l ≡ 0 → l ≡ []
no_items [] e = refl
no_items (x ∷ xs) e = absurd (omega arith)

-- what stands between a beginning and the whole has no entry of a role whose entries all stand in the beginning
same_entries : (role : ℕ) (s l j made : List Entry) → StartsWith j l → StartsWith l s → entries_of role s ≡ made → entries_of role j ≡ made → entries_of role l ≡ made
same_entries role s l j made whole begins few all =
    let f : Entry → Bool = λ e. e.role == role in let a : List Entry = filter f begins.0 in let b : List Entry = filter f whole.0 in
    let l_is : entries_of role l ≡ made ++ a = ap (entries_of role) begins.1 ∙ (filter-append f s begins.0 ∙ ap (λ (x : List Entry). x ++ a) few) in
    let j_is : entries_of role j ≡ entries_of role l ++ b = ap (entries_of role) whole.1 ∙ filter-append f l whole.0 in
    let count : length made ≡ (length made + length a) + length b = ap length (sym all ∙ j_is) ∙ (length-append (entries_of role l) b ∙ ap (λ (n : ℕ). n + length b) (ap length l_is ∙ length-append made a)) in
    grind (arith, no_items, append-nil)

has_seen : (t u : TableId) (p q : Part) (b b' : Bool) (j : List Entry) → Shows j p → Shows j q → length p.seen ≤ length q.seen → HasSeen (known t (resting p b).0) (known u (resting q b').0)
has_seen t u p q b b' j a c le =
    let begins = shorter_begins p.seen q.seen j a.begins c.begins le in
    record { begins = begins; first_made = same_entries p.role p.seen q.seen j p.made c.begins begins a.all_seen a.own; second_made = c.all_seen }

longer_than : (j s : List Entry) → StartsWith j s → length s ≤ length j
longer_than j s h = omega (arith, ap length h.1, length-append s h.0)

-- what two passes know, before and after they met
pub record Meets (k l k' l' : Known) : Type 0 where
  pub first : KeepsSeen k k'
  pub second : KeepsSeen l l'
  pub shorter : length k.seen ≤ length l.seen → HasSeen k l
  pub longer : length l.seen ≤ length k.seen → HasSeen l k
  pub reported : ReachesBoth k l k'.reported
  pub same_reported : l'.reported ≡ k'.reported

meets_as : (t t' u u' : TableId) (m l m' l' : M) → t' ≡ t → u' ≡ u → Met m l m' l' → Meets (known t m.0) (known u l.0) (known t' m'.0) (known u' l'.0)
meets_as t t' u u' m l m' l' first second over =
    let j : List Entry = over.0 in
    let p : Part = part m in
    let q : Part = part l in
    let a = over.2 in
    let c = over.3 in
    let P : M × M → Type 0 = λ z. Meets (known t m.0) (known u l.0) (known t' z.0.0) (known u' z.1.0) in
    let same : (m', l') ≡ (resting (raised (length j) p) over.1, resting (raised (length j) q) false) = λ i. (over.4 i, over.5 i) in
    subst P (sym same) record {
      first = record { pass = record { cell = first; opening = refl; role = refl }; seen = refl; made = refl; newest = refl };
      second = record { pass = record { cell = second; opening = refl; role = refl }; seen = refl; made = refl; newest = refl };
      shorter = λ le. has_seen t u p q m.0.was_out l.0.was_out j a c le;
      longer = λ le. has_seen u t q p l.0.was_out m.0.was_out j c a le;
      reported = record { first_reported = a.reached; first_seen = longer_than j p.seen a.begins; second_reported = c.reached; second_seen = longer_than j q.seen c.begins };
      same_reported = refl;
    }

-- what passes tell each other, they tell whatever numbered commands are kept beside
pub meets : (t t' u u' : TableId) (m l m' l' : M) (x y : Option Numbered) → t' ≡ t → u' ≡ u → Met m l m' l' → Meets (carried (known t m.0) x) (carried (known u l.0) y) (carried (known t' m'.0) x) (carried (known u' l'.0) y)
meets t t' u u' m l m' l' x y first second over = grind (arith, meets_as t t' u u' m l m' l' first second over)

pub divides_after : (o : Opening) (id : ℕ) (m l other m1 m2 : M) (r : ℕ) → IsResting m → IsResting l → other ≡ (first_alone l.0, []) → m1 ≡ (both_parts m.0 other.0, m.1)
    → Looks (step 0 0 0 0 maybe.none) m1 r m2 → Splits (IsJournaled o) id m2.0 (first_stays m2.0) (others_go m2.0)
divides_after o id m l other m1 m2 r free free' lent joined looks =
    let k = looked_pair (step 0 0 0 0 maybe.none) m1 m2 (part m) (part l) m.0.was_out r (gathered m other m1 (part l) free (lent_part l other free' lent) joined) looks in
    divides_pair o id m2 (raised (length k.0) (part m)) (raised (length k.0) (part l)) k.1 k.4
