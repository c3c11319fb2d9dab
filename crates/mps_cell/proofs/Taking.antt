-- What a look and a try leave, how a wait goes on, and what is given back.
use Rattle.std.proofs.Common.{◌≡◌, ℕ, ◌*◌, ◌/◌, Bool, true, false, List, [], ◌∷◌, ◌++◌, length, sym, refl, ap, ◌∙◌, subst, inl, inr, arith, if◌then◌else◌}
use mathlib.Core.Option as maybe
use Rattle.atomic_table.specs.Table.{Me, Step, step, rest, Allows}
use Rattle.mps_command.specs.declared.answer.Answer.{Answer}
use Rattle.mps_command.specs.declared.command.Command.{Command}
use Rattle.mps_room.specs.Callers.{entry}
use Rattle.mps_room.specs.Journal.{is_accepted, grown}
use Rattle.mps_room.specs.RoomState.{RoomState}
use Rattle.mps_room.specs.declared.entry.Entry.{Entry}
use Rattle.mps_cell.specs.Openings.{Opening, room_of, IsLegalIn}
use Rattle.mps_cell.specs.Views.{Part, SeatView, part_of, raised}
use Rattle.mps_cell.specs.Rule.{IsJournaled, resting, journal_in, Looks, Gives}
use Rattle.mps_cell.specs.Private.Rule.{with_room, IsResting, HasRoom, HasAnswered, Grows, Gave}
use Rattle.mps_cell.proofs.Keeping.{gives_back}

abbrev M : Type 0
M = Me RoomState SeatView

abbrev here : M → Bool → M
here m b = resting (part_of m.0.parts) b

looked_at : (st : Step RoomState) (m m' : M) (r : ℕ) → IsResting m → Looks st m r m' → Looks st (here m m.0.was_out) r m'
looked_at st m m' r free l = subst (λ (x : M). Looks st x r m') free l

pub room_taken : (m : M) → HasRoom m → (y : RoomState) × (m.1 ≡ (0, y) ∷ rest m.1)
room_taken m h = let y : RoomState = room_of (part_of m.0.parts).opening (journal_in m.1) in let e : m.1 ≡ (0, y) ∷ [] = ap (λ (x : M). x.1) h in
    (y, e ∙ ap (λ (l : List (ℕ × RoomState)). (0, y) ∷ l) (sym (ap rest e)))

pub grows_by : (j : List Entry) (role r : ℕ) (c : Command) (a : Answer) → role ≡ r → Grows r j (grown j role c a)
grows_by j role r c a is = elim (is_accepted a) as (λ (b : Bool). Grows r j (if b then j ++ entry role c a ∷ [] else j)) [ true ↦ inr (entry role c a, is, refl) | false ↦ inl refl ]

-- a room that was taken and answered in
pub answered : (m m1 : M) (role : ℕ) (c : Command) (a : Answer) → HasRoom m → role ≡ (part_of m.0.parts).role
    → m1 ≡ (m.0, (0, room_of (part_of m.0.parts).opening (grown (journal_in m.1) role c a)) ∷ []) → IsLegalIn (part_of m.0.parts).opening (grown (journal_in m.1) role c a)
    → HasAnswered m1
answered m m1 role c a has is now legal = let k : List Entry = journal_in m.1 in let j : List Entry = grown k role c a in let p : Part = part_of m.0.parts in
    let e : m1 ≡ with_room p k (room_of p.opening j) = now ∙ ap (λ (x : M). (x.0, (0, room_of p.opening j) ∷ [])) has in
    subst HasAnswered (sym e) record { before = k; room = refl; grows = grows_by k role p.role c a is; legal = legal }

-- it may be given back
pub gives_answered : (o : Opening) (slots id : ℕ) (m : M) (new : ℕ) → HasAnswered m → new ≡ 2 * length (journal_in m.1)
    → Allows (IsJournaled o) slots id m 0 (λ _. new) (λ _. Gives (step slots 0 new 0 maybe.none) m new)
gives_answered o slots id m new h is = grind (arith, gives_back o slots id (part_of m.0.parts) h.before (journal_in m.1) new h.grows h.legal is)

pub gave_by : (m m1 m2 : M) (j : List Entry) → m1 ≡ (m.0, (0, room_of (part_of m.0.parts).opening j) ∷ []) → Gave m1 (journal_in m1.1) m2 → Gave m j m2
gave_by m m1 m2 j now h = subst (λ (x : M). Gave x (journal_in x.1) m2) now h

-- the try after a look comes from a seat with one part
pub looked_part : (m m' : M) (r : ℕ) → IsResting m → Looks (step 0 0 0 0 maybe.none) m r m' → m'.0.parts ≡ raised (r / 2) (part_of m.0.parts) ∷ []
looked_part m m' r free l = ap (λ (x : M). x.0.parts) (looked_at (step 0 0 0 0 maybe.none) m m' r free l).1
