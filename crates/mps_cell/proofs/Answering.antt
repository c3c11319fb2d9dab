-- What a call tells, by what was taken and what was given back.
use Rattle.std.proofs.Common.{arith, ◌≡◌, ℕ, Bool, true, false, List, [], ◌∷◌, ◌++◌, Option, refl, ap, ◌∙◌, subst, if◌then◌else◌, MatchBool}
use Rattle.atomic_table.specs.Table.{Me}
use Rattle.atomic_table.specs.Seated.{TableId}
use Rattle.mps_command.specs.declared.answer.Answer.{Answer}
use Rattle.mps_command.specs.declared.command.Command.{Command}
use Rattle.mps_machine.proofs.Answering.{from_ok}
use Rattle.mps_room.specs.Callers.{entry}
use Rattle.mps_room.specs.Journal.{is_accepted, grown, MayAnswer}
use Rattle.mps_room.specs.RoomState.{RoomState}
use Rattle.mps_room.specs.Solos.{own_entry}
use Rattle.mps_room.specs.declared.entry.Entry.{Entry}
use Rattle.mps_room.specs.declared.numbers.Numbered.{Numbered}
use Rattle.mps_cell.specs.Openings.{IsLegalIn, MayAnswerIn, answer_after}
use Rattle.mps_cell.specs.Views.{Part, SeatView, part_of, showing}
use Rattle.mps_cell.specs.Rule.{Shows, resting, journal_in}
use Rattle.mps_cell.specs.Private.Rule.{Took, Gave}
use Rattle.mps_cell.specs.Calls.{Known, known, carried, IsAccepted, IsNotAccepted, Calls}

abbrev M : Type 0
M = Me RoomState SeatView

-- an answer that accepts is the one that is wanted
accepted_is : (a wanted : Answer) → MayAnswer a wanted → is_accepted a ≡ true → a ≡ wanted
accepted_is a wanted says done = grind (arith, from_ok)

module _ (id id' : TableId) (p : Part) (was : Bool) (j : List Entry) (c : Command) (a : Answer) where
  abbrev first : Known
  first = known id (resting p was).0

  abbrev after : List Entry → Known
  after l = known id' (resting (showing l p) false).0

  by_answer : Shows j p → MayAnswerIn p.opening j p.role c a → (b : Bool) → is_accepted a ≡ b
      → MatchBool b (IsAccepted first c a (after (if b then j ++ entry p.role c a ∷ [] else j))) (IsNotAccepted first c a (after (if b then j ++ entry p.role c a ∷ [] else j)))
  by_answer shows says true is = record {
    before = j;
    begins = shows.begins;
    reached = shows.reached;
    answer = accepted_is a (answer_after p.opening j p.role c) says is;
    joined = refl;
    made = own_entry p.role j (entry p.role c a) refl ∙ ap (λ (l : List Entry). l ++ entry p.role c a ∷ []) shows.own;
  }
  by_answer shows says false is = record { begins = shows.begins; reached = shows.reached; answer = says; made = shows.own }

calls : (id id' : TableId) (m m1 m2 : M) (role : ℕ) (c : Command) (a : Answer) → id' ≡ id → Took m m1 → role ≡ (part_of m.0.parts).role → MayAnswerIn (part_of m1.0.parts).opening (journal_in m1.1) role c a
    → Gave m1 (grown (journal_in m1.1) role c a) m2 → IsLegalIn (part_of m1.0.parts).opening (grown (journal_in m1.1) role c a) → Calls (known id m.0) c a (known id' m2.0)
calls id id' m m1 m2 role c a same_cell t is says gave legal = grind (arith, by_answer)

-- what a call tells, it tells whatever numbered commands are kept beside
pub calls_carried : (k : Known) (c : Command) (a : Answer) (k' : Known) (x y : Option Numbered) → Calls k c a k' → Calls (carried k x) c a (carried k' y)
calls_carried k c a k' x y h = grind arith

-- the call of a pass, by what its seat took and gave back
pub called : (id id' : TableId) (m m1 m2 : M) (role : ℕ) (c : Command) (a : Answer) (newest : Option Numbered) (before : Known) → id' ≡ id → Took m m1 → role ≡ (part_of m.0.parts).role
    → MayAnswerIn (part_of m1.0.parts).opening (journal_in m1.1) role c a → Gave m1 (grown (journal_in m1.1) role c a) m2 → IsLegalIn (part_of m1.0.parts).opening (grown (journal_in m1.1) role c a)
    → carried (known id m.0) newest ≡ before → Calls before c a (carried (known id' m2.0) newest)
called id id' m m1 m2 role c a newest before same_cell t is says gave legal was =
    subst (λ (k : Known). Calls k c a (carried (known id' m2.0) newest)) was
    (calls_carried (known id m.0) c a (known id' m2.0) newest newest (calls id id' m m1 m2 role c a same_cell t is says gave legal))
