-- The passes are dealt, and the room comes back at the end.
use Rattle.std.proofs.Common.{zero, length, ◌≡◌, ℕ, suc, ◌+◌, ◌-◌, ◌%◌, ◌<◌, false, List, [], ◌∷◌, ◌++◌, sym, refl, ap, ◌∙◌, subst, arith, add-one, Option, None, get_or, map, length-append, Result, Ok, Err, IfOk}
use Rattle.std.specs.List.{All}
use Rattle.std.proofs.lemmas.List.Elements.{All-nil, All-push, All-same}
use mathlib.Core.Option as maybe
use lib.ListN.{get_elem?}
use Rattle.atomic_table.specs.Table.{Me, State, Splits, Final, Seen}
use Rattle.mps_room.specs.RoomState.{RoomState}
use Rattle.mps_room.specs.Numbers.{newest_of}
use Rattle.mps_room.specs.declared.numbers.Numbered.{Numbered}
use Rattle.mps_room.specs.declared.numbers.Numbers.{Numbers}
use Rattle.mps_local.specs.Local.{LocalType}
use Rattle.mps_room.specs.declared.entry.Entry.{Entry}
use Rattle.mps_cell.specs.Openings.{Opening, opening_of, room_of, IsLegalIn}
use Rattle.mps_cell.specs.Views.{SeatView, fresh_part, fresh_parts, dealing, part_of, without_first, first_alone}
use Rattle.mps_cell.specs.Rule.{IsJournaled, StartsWith, home_of, resting, Shows, AllShow}
use Rattle.mps_cell.specs.Private.Rule.{IsResting}
use Rattle.atomic_table.specs.Seated.{TableId}
use Rattle.mps_cell.specs.Calls.{Known, known}
use Rattle.mps_cell.specs.Meetings.{HasAllOf}
use Rattle.mps_cell.specs.Cells.{Closes, Opened, fresh, fresh_below, opened_with}
use Rattle.mps_cell.proofs.Keeping.{deals}

abbrev M : Type 0
M = Me RoomState SeatView

next : (o : Opening) (i n : ℕ) → i < n → fresh_parts o i (n - i) ≡ fresh_part o i ∷ fresh_parts o (i + 1) (n - (i + 1))
next o i n h = grind arith

pub deals_next : (k o : Opening) (id i n : ℕ) (m : M) → i < n → m ≡ (dealing o i (n - i), []) → Splits (IsJournaled k) id m.0 (without_first m.0) (first_alone m.0)
deals_next k o id i n m h is = deals k id m.0 (fresh_part o i) (fresh_parts o (i + 1) (n - (i + 1))) (ap (λ (x : M). x.0.parts) is ∙ next o i n h)

pub dealt_rest : (o : Opening) (i n : ℕ) (m m' : M) → i < n → m ≡ (dealing o i (n - i), []) → m' ≡ (without_first m.0, m.1) → m' ≡ (dealing o (i + 1) (n - (i + 1)), [])
dealt_rest o i n m m' h is now = now ∙ (ap (λ (x : M). (without_first x.0, x.1)) is ∙ ap (λ ps. (without_first (record { parts = ps; noted = None; was_out = false }), [])) (next o i n h))

pub dealt_one : (o : Opening) (i n : ℕ) (m m' : M) → i < n → m ≡ (dealing o i (n - i), []) → m' ≡ (first_alone m.0, []) → m' ≡ resting (fresh_part o i) false
dealt_one o i n m m' h is now = now ∙ (ap (λ (x : M). (first_alone x.0, [])) is ∙ ap (λ ps. (first_alone (record { parts = ps; noted = None; was_out = false }), [])) (next o i n h))

module _ (o : Opening) (s : State RoomState SeatView) (r : IsJournaled o s) (ws : List ℕ) (xs : List RoomState) (w : ℕ) (y : RoomState) (same : s.words ≡ ws)
    (homes : (k : ℕ) (x : RoomState) → get_elem? s.homes k ≡ maybe.some (maybe.some x) → get_elem? xs k ≡ maybe.some x) (word : get_elem? ws 0 ≡ maybe.some w) (even : w % 2 ≡ 0) (room : get_elem? xs 0 ≡ maybe.some y) where
  at_home : r.away ≡ None
  at_home = grind (arith, get_elem?)

  pub ends_as : y ≡ room_of o r.journal
  ends_as = let h = homes 0 (room_of o r.journal) (ap (λ (l : List (maybe.Option RoomState)). get_elem? l 0) (r.homes ∙ ap (λ (a : Option ℕ). home_of o a r.journal ∷ []) at_home)) in
      maybe.some-injective y (room_of o r.journal) (sym room ∙ h)

  pub closes : Closes o y
  closes = record { names = ap (λ (m : RoomState). m.names) ends_as; types = ap (λ (m : RoomState). m.types) ends_as; legal = subst (λ (m : RoomState). IsLegalIn o m.journal) (sym ends_as) r.legal; begins = subst (λ (m : RoomState). StartsWith m.journal o.begun) (sym ends_as) r.begins }

pub closed : (o : Opening) (ws : List ℕ) (xs : List RoomState) (w : ℕ) (y : RoomState) → Final (IsJournaled o) ws xs → get_elem? ws 0 ≡ maybe.some w → w % 2 ≡ 0 → get_elem? xs 0 ≡ maybe.some y → Closes o y
closed o ws xs w y f word even room = closes o f.0 f.1 ws xs w y f.2 f.4 word even room

pub dealt_more : (id id' : TableId) (o o' : Opening) (i : ℕ) (all all' : List Known) (k : Known) → all' ≡ all ++ k ∷ [] → all ≡ fresh_below id o i → k ≡ fresh id' o' i → id' ≡ id → o' ≡ o
    → all' ≡ fresh_below id o (i + 1)
dealt_more id id' o o' i all all' k now was new is is' = grind (arith, add-one)

shown_in : (j : List Entry) (m : M) → IsResting m → AllShow j m.0.parts → Shows j (part_of m.0.parts)
shown_in j m free all = (subst (λ (x : M). AllShow j x.0.parts) free all).0

pub closed_with : (o : Opening) (id : ℕ) (m : M) (t : TableId) (ws : List ℕ) (xs : List RoomState) (w : ℕ) (y : RoomState) → IsResting m → Final (Seen (IsJournaled o) id m.0) ws xs → get_elem? ws 0 ≡ maybe.some w → w % 2 ≡ 0 → get_elem? xs 0 ≡ maybe.some y
    → Closes o y × HasAllOf (known t m.0) y.journal
closed_with o id m t ws xs w y free f word even room = let r = f.1.0 in grind (arith, ends_as o f.0 r ws xs w y f.2 f.4 word even room, shown_in r.journal m free (r.seats id m.0 f.1.1).shows, closes o f.0 r ws xs w y f.2 f.4 word even room)

-- the seat of a role that was dealt is a fresh_part's
pub fresh_seat : (o : Opening) (i role : ℕ) (m : M) → m ≡ resting (fresh_part o i) false → role ≡ i → m ≡ resting (fresh_part (part_of m.0.parts).opening role) false
fresh_seat o i role m is same = subst (λ (x : M × ℕ). x.0 ≡ resting (fresh_part (part_of x.0.0.parts).opening x.1) false) (λ k. (sym is k, sym same k)) refl

pub fresh_some : (o : Opening) (i role : ℕ) (m : M) → m ≡ resting (fresh_part o i) false → role ≡ i → i < length o.types → role < length (part_of m.0.parts).opening.types
fresh_some o i role m is same h = subst (λ (x : M × ℕ). x.1 < length (part_of x.0.0.parts).opening.types) (λ k. (sym is k, sym same k)) h

-- fresh passes are the cell's
fresh_all : (id : TableId) (o : Opening) (n : ℕ) → All (λ (p : Known). p.cell ≡ id) (fresh_below id o n)
fresh_all id o zero = All-nil (λ (p : Known). p.cell ≡ id)
fresh_all id o (suc n) = All-push (λ (p : Known). p.cell ≡ id) (fresh_below id o n) (fresh id o n) (fresh_all id o n) refl

pub all_fresh : (id : TableId) (o : Opening) (n : ℕ) (xs : List Known) → xs ≡ fresh_below id o n → All (λ (p : Known). p.cell ≡ id) xs
all_fresh id o n xs is = All-same (λ (p : Known). p.cell ≡ id) xs (fresh_below id o n) is (fresh_all id o n)

-- the role after those that have their passes is one of so many
pub is_left : (all done left rest : List Numbers) (own : Numbers) (n : ℕ) → all ≡ done ++ left → left ≡ own ∷ rest → length all ≡ n → length done < n
is_left all done left rest own n whole is count = omega (arith, ap (λ (l : List Numbers). length l) whole, ap (λ (l : List Numbers). length l) is, length-append done left, count)

pub fresh_begun : (o : Opening) (i begun : ℕ) (m : M) → m ≡ resting (fresh_part o i) false → begun ≡ length o.begun → begun ≡ length (part_of m.0.parts).opening.begun
fresh_begun o i begun m is same = same ∙ sym (ap (λ (x : M). length (part_of x.0.parts).opening.begun) is)

-- its numbers are those that its role had
pub fresh_newest : (o : Opening) (role : ℕ) (m : M) (all done left rest : List Numbers) (own : Numbers) → m ≡ resting (fresh_part o (length done)) false → role ≡ length done → newest_of all ≡ o.newest → all ≡ done ++ left → left ≡ own ∷ rest
    → own.newest ≡ get_or (part_of m.0.parts).opening.newest role None
fresh_newest o role m all done left rest own is same newest whole next =
    sym (ap (λ (x : M). get_or (part_of x.0.parts).opening.newest role None) is
    ∙ (λ j. get_or (sym newest j) (same j) None)
    ∙ ap (λ (l : List Numbers). get_or (newest_of l) (length done) None) (whole ∙ ap (λ (l : List Numbers). done ++ l) next)
    ∙ reads done own rest)
  where
    reads : (done : List Numbers) (own : Numbers) (rest : List Numbers) → get_or (newest_of (done ++ own ∷ rest)) (length done) None ≡ own.newest
    reads [] own rest = refl
    reads (x ∷ done) own rest = reads done own rest

-- the opening of a cell around a room in which nothing was done yet
pub opened_blank : (names : List (List ℕ)) (types : List LocalType) (n : ℕ) (m : RoomState) (numbers : List Numbers) (o : Opening) → o ≡ opening_of m numbers n → m ≡ record { names = names; types = types; journal = [] }
    → All (λ (k : Numbers). k.newest ≡ None) numbers → length numbers ≡ length types → o ≡ opened_with names types n
opened_blank names types n m numbers o is blank none count =
    is ∙ (λ j. opening_of (blank j) numbers n) ∙ ap (λ (l : List (Option Numbered)). record { names = names; types = types; session = n; begun = []; newest = l }) (all_none numbers types none count)
  where
    all_none : (numbers : List Numbers) (types : List LocalType) → All (λ (k : Numbers). k.newest ≡ None) numbers → length numbers ≡ length types → newest_of numbers ≡ map (λ (_ : LocalType). None) types
    all_none [] [] none count = refl
    all_none [] (t ∷ types) none count = absurd (omega arith)
    all_none (k ∷ numbers) [] none count = absurd (omega arith)
    all_none (k ∷ numbers) (t ∷ types) none count =
        let head : k.newest ≡ None = none 0 k (omega arith) in
        let rest = all_none numbers types (λ i d less. none (suc i) d (omega (arith, less))) (omega (arith, count)) in
        λ j. head j ∷ rest j

pub opened_new : {E : Type 0} (r : Result Opened E) (names : List (List ℕ)) (types : List LocalType) (n : ℕ) (m : RoomState) (numbers : List Numbers) → IfOk r (λ (c : Opened). c.opening ≡ opening_of m numbers n) → m ≡ record { names = names; types = types; journal = [] }
    → All (λ (k : Numbers). k.newest ≡ None) numbers → length numbers ≡ length types → IfOk r (λ (c : Opened). c.opening ≡ opened_with names types n)
opened_new (Ok c) names types n m numbers is blank none count = opened_blank names types n m numbers c.opening is blank none count
opened_new (Err e) names types n m numbers is blank none count = tt
