-- What a role may make of the entries of its session.
use Rattle.std.specs.Prelude.{◌≡◌, ◌==◌, ◌≤◌, ◌-◌, ◌&&◌, not, ℕ, zero, suc, Bool, true, false, Option, None, Some, MatchBool}
use Rattle.std.specs.Prelude.{if◌then◌else◌}
use Rattle.std.specs.Option.{is_some, option_map}
use Rattle.mps_command.specs.Changes.{change_of}
use Rattle.mps_command.specs.declared.answer.Answer.{Answer}
use Rattle.mps_command.specs.declared.answer.Answer.TheVariants.{Refused}
use Rattle.mps_command.specs.declared.answer.Refusal.TheVariants.{Full}
use Rattle.mps_command.specs.declared.command.Command.{Command}
use Rattle.mps_command.specs.declared.command.Command.TheVariants.{Undo}
use Rattle.mps_room.specs.Journal.{is_accepted}

-- of a share of so many entries so many are left; without a share none are counted
abbrev pub IsLeftOf : (share left : Option ℕ) → Type 0
IsLeftOf None left = left ≡ None
IsLeftOf (Some most) left = (n : ℕ) × (left ≡ Some n) × (n ≤ most)

-- whether entries are counted, and none is left
abbrev pub is_used_up : Option ℕ → Bool
is_used_up None = false
is_used_up (Some zero) = true
is_used_up (Some (suc n)) = false

-- whether the command asks for a change that there may be: step 0, which there never is, may be undone by whoever has no entry
-- left, since that is how a client learns its number
abbrev pub may_change : Command → Bool
may_change (Undo n) = not (n == 0)
may_change command = is_some (change_of command)

-- whether the command is refused since none is left
abbrev pub is_over : Option ℕ → Command → Bool
is_over left command = is_used_up left && may_change command

-- how many are left with one entry more
abbrev pub one_fewer : Option ℕ → Option ℕ
one_fewer left = option_map (λ n. n - 1) left

-- One call of a caller with a share, over that of the caller inside, of which these are the calls.
module _ {C : Type 0} (calls : C → Command → Answer → C → Type 0) (left : Option ℕ) (inside : C) (command : Command)
    (answer : Answer) (left' : Option ℕ) (inside' : C) where
  -- no entry is left: the caller inside isn't called
  pub record IsOver : Type 0 where
    pub refused : answer ≡ Refused Full
    pub same : inside' ≡ inside
    pub same_left : left' ≡ left

  -- it is called, and what is accepted is counted
  pub record IsWithin : Type 0 where
    pub call : calls inside command answer inside'
    pub counted : left' ≡ (if is_accepted answer then one_fewer left else left)

  abbrev pub IsSharedCall : Type 0
  IsSharedCall = MatchBool (is_over left command) IsOver IsWithin
