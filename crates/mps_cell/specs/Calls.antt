-- What a pass knows, and what a call tells it.
use Rattle.std.specs.Prelude.{◌≡◌, ℕ, ◌≤◌, Bool, true, false, List, [], ◌∷◌, ◌++◌, length, MatchBool, if◌then◌else◌}
use Rattle.std.specs.Prelude.{Option, None}
use Rattle.atomic_table.specs.Seated.{TableId}
use Rattle.mps_command.specs.declared.answer.Answer.{Answer}
use Rattle.mps_command.specs.declared.command.Command.{Command}
use Rattle.mps_room.specs.Callers.{entry, entries_of}
use Rattle.mps_room.specs.Journal.{is_accepted, grown}
use Rattle.mps_room.specs.declared.entry.Entry.{Entry}
use Rattle.mps_room.specs.declared.numbers.Numbered.{Numbered}
use Rattle.mps_cell.specs.Openings.{Opening, IsLegalIn, MayAnswerIn, answer_after}
use Rattle.mps_cell.specs.Views.{Part, SeatView, part_of}
use Rattle.mps_cell.specs.Rule.{StartsWith}

-- a pass, as contracts see it: its cell and how that was opened; its role; the journal that its last call showed; the
-- greatest length that was reported to it; the entries that it made; whether its last look or try found the room out;
-- and its newest numbered command that was accepted
pub record Known : Type 0 where
  pub cell : TableId
  pub opening : Opening
  pub role : ℕ
  pub seen : List Entry
  pub reported : ℕ
  pub made : List Entry
  pub was_out : Bool
  pub newest : Option Numbered

-- what a seat of this cell knows
abbrev pub known : TableId → SeatView → Known
known id v = let p : Part = part_of v.parts in
    record {
      cell = id;
      opening = p.opening;
      role = p.role;
      seen = p.seen;
      reported = p.reported;
      made = p.made;
      was_out = v.was_out;
      newest = None;
    }

-- the same, with this numbered command
abbrev pub carried : Known → Option Numbered → Known
carried k newest = record k { newest = newest }

-- ---- calls

-- it is the pass of the same cell and role
pub record IsSamePass (k k' : Known) : Type 0 where
  pub cell : k'.cell ≡ k.cell
  pub opening : k'.opening ≡ k.opening
  pub role : k'.role ≡ k.role

-- an accepted command stands after a journal that begins with all that was seen, and that is no shorter than was told;
-- its answer is the one that is due after that journal
pub record IsAccepted (k : Known) (c : Command) (a : Answer) (k' : Known) : Type 0 where
  pub before : List Entry
  pub begins : StartsWith before k.seen
  pub reached : k.reported ≤ length before
  pub answer : a ≡ answer_after k.opening before k.role c
  pub joined : k'.seen ≡ before ++ entry k.role c a ∷ []
  pub made : k'.made ≡ k.made ++ entry k.role c a ∷ []

-- any other command leaves a journal that begins with all that was seen, and that is no shorter than was told; its
-- answer is the one that is due after it, unless memory runs out
pub record IsNotAccepted (k : Known) (c : Command) (a : Answer) (k' : Known) : Type 0 where
  pub begins : StartsWith k'.seen k.seen
  pub reached : k.reported ≤ length k'.seen
  pub answer : MayAnswerIn k.opening k'.seen k.role c a
  pub made : k'.made ≡ k.made

-- what one call tells: the journal that it shows is legal, has of the role just what the pass made, and is all that
-- the pass was told of; and by its answer the command was accepted, or it was not
pub record Calls (k : Known) (c : Command) (a : Answer) (k' : Known) : Type 0 where
  pub pass : IsSamePass k k'
  pub legal : IsLegalIn k'.opening k'.seen
  pub own : entries_of k'.role k'.seen ≡ k'.made
  pub reported : k'.reported ≡ length k'.seen
  pub answered : MatchBool (is_accepted a) (IsAccepted k c a k') (IsNotAccepted k c a k')

-- a call adds just an accepted command to what the pass made
made_if : (b : Bool) (k : Known) (c : Command) (a : Answer) (k' : Known)
    → MatchBool b (IsAccepted k c a k') (IsNotAccepted k c a k')
    → k'.made ≡ (if b then k.made ++ entry k.role c a ∷ [] else k.made)
made_if true k c a k' h = h.made
made_if false k c a k' h = h.made

pub calls_grow : (k : Known) (c : Command) (a : Answer) (k' : Known) → Calls k c a k'
    → k'.made ≡ grown k.made k.role c a
calls_grow k c a k' h = made_if (is_accepted a) k c a k' h.answered

-- ---- looks

-- what was seen and made stays, and the numbered command too
pub record KeepsSeen (k k' : Known) : Type 0 where
  pub pass : IsSamePass k k'
  pub seen : k'.seen ≡ k.seen
  pub made : k'.made ≡ k.made
  pub newest : k'.newest ≡ k.newest

-- the pass was told this length, which is no less than it knew of, and nothing else
pub record LearnsLength (k : Known) (n : ℕ) (k' : Known) : Type 0 where
  pub keeps : KeepsSeen k k'
  pub reached : k.reported ≤ n
  pub covers : length k.seen ≤ n
  pub reported : k'.reported ≡ n
