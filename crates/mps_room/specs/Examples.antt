-- Worked journals: what is answered after short journals, and what numbered commands come to, as it was worked out by
-- hand. The roles and their types are those of the worked sessions of mps_machine. Memory doesn't run out.
use Rattle.std.specs.Prelude.{◌≡◌, ℕ, true, List, [], ◌∷◌, ◌++◌, length, map, Option, None, Some, codes, pos}
use Rattle.mps_base.specs.declared.value.Value.TheVariants.{Int}
use Rattle.mps_local.specs.Local.{LocalType}
use Rattle.mps_command.specs.Changes.{command_of}
use Rattle.mps_command.specs.declared.command.Command.{Command}
use Rattle.mps_command.specs.declared.command.Command.TheVariants as commands
use Rattle.mps_command.specs.declared.command.Forward.TheVariants as steps
use Rattle.mps_command.specs.declared.answer.Answer.{Answer}
use Rattle.mps_command.specs.declared.answer.Answer.TheVariants.{Undone, News, Refused}
use Rattle.mps_command.specs.declared.answer.Refusal.TheVariants.{NoStep, Full}
use Rattle.mps_machine.specs.Machine.{Request}
use Rattle.mps_machine.specs.Examples.{a, b, c, sends_int, receives_into, undoes, rolls_back, relayed_then, done}
use Rattle.mps_machine.specs.Examples.{done_with, relay_done_then, verdict}
use Rattle.mps_room.specs.Journal.{answer_to, grown, limited}
use Rattle.mps_room.specs.Callers.{entry, entries_of}
use Rattle.mps_room.specs.Numbers.{IsNumbered, last_of, kept_of}
use Rattle.mps_room.specs.declared.caller.Caller.{Ghosts}
use Rattle.mps_room.specs.declared.entry.Entry.{Entry}
use Rattle.mps_room.specs.declared.numbers.Numbered.{Numbered}
use Rattle.mps_room.specs.declared.numbers.Told.{Told}
use Rattle.mps_room.specs.declared.numbers.Told.TheVariants as told

-- the names of the roles
abbrev pub names : List (List ℕ)
names = codes "a" ∷ codes "b" ∷ codes "c" ∷ []

-- a role and its command
abbrev pub RoleCommand : Type 0
RoleCommand = ℕ × Command

abbrev pub asks : Request → RoleCommand
asks request = (request.0, command_of request.1)

abbrev pub asks_news : ℕ → ℕ → RoleCommand
asks_news p n = (p, commands.News n)

-- the answers to commands after a journal, in order
abbrev pub answers_after : List LocalType → List Entry → List RoleCommand → List Answer
answers_after types j [] = []
answers_after types j (r ∷ rs) =
    let answer = answer_to names types j r.0 r.1 in
    answer ∷ answers_after types (grown j r.0 r.1 answer) rs

-- the news is what others took back of a role's steps, and there is none after the last entry, or past it
abbrev pub TheNewsIsWhatOthersTookBack : Type 0
TheNewsIsWhatOthersTookBack =
    answers_after verdict [] (map asks (relayed_then (rolls_back a 1 ∷ []))
    ++ asks_news b 0 ∷ asks_news a 0 ∷ asks_news c 0 ∷ asks_news b 4 ∷ asks_news b 5 ∷ asks_news c 9 ∷ [])
    ≡ relay_done_then (Undone (4 ∷ 3 ∷ 2 ∷ 1 ∷ []) ∷ News 5 (3 ∷ 2 ∷ []) ∷ News 5 [] ∷ News 5 (4 ∷ [])
    ∷ News 5 (3 ∷ 2 ∷ []) ∷ News 5 [] ∷ News 5 [] ∷ [])

-- what a role undid itself is no news to it
abbrev pub AnOwnUndoIsNoNews : Type 0
AnOwnUndoIsNoNews =
    answers_after verdict [] (map asks (sends_int a b 5 ∷ receives_into b a (codes "x") ∷ undoes b 2
    ∷ receives_into b a (codes "x") ∷ rolls_back a 1 ∷ []) ++ asks_news b 0 ∷ asks_news a 0 ∷ asks_news c 0 ∷ [])
    ≡ done 1 ∷ done_with 2 5 ∷ Undone (2 ∷ []) ∷ done_with 3 5 ∷ Undone (3 ∷ 1 ∷ []) ∷ News 5 (3 ∷ []) ∷ News 5 []
    ∷ News 5 [] ∷ []

-- a journal of 100,000 entries is full: what would be accepted is refused as that, and what is refused stays so
abbrev pub AFullJournalAcceptsNothing : Type 0
AFullJournalAcceptsNothing =
    (limited 99999 (done 7) ≡ done 7)
    × (limited 99999 (Undone []) ≡ Undone [])
    × (limited 100000 (done 7) ≡ Refused Full)
    × (limited 100000 (Undone []) ≡ Refused Full)
    × (limited 100000 (Refused NoStep) ≡ Refused NoStep)

-- a caller of role a, of which no more is known than the journal and the newest of its numbered commands
pub record PlainCaller : Type 0 where
  pub journal : List Entry
  pub newest : Option Numbered

-- one call: it gets the answer, and the journal grows
abbrev pub IsPlainCall : PlainCaller → Command → Answer → PlainCaller → Type 0
IsPlainCall x command answer y =
    (answer ≡ answer_to names verdict x.journal a command) × (y.journal ≡ grown x.journal a command answer)

abbrev pub plain_caller : Ghosts PlainCaller
plain_caller = record {
  names = λ x. names;
  role = λ x. a;
  made = λ x. entries_of a x.journal;
  calls = IsPlainCall;
  last = λ x. last_of x.newest;
  kept = λ x. kept_of x.newest;
  may_tell = λ x. true;
}

-- what a command with this number comes to
abbrev pub Tells : PlainCaller → ℕ → Command → PlainCaller → Told → Type 0
Tells x n command y came = IsNumbered plain_caller.calls plain_caller.last plain_caller.kept x n command y came

-- the commands: `send b 5`, `mark m`, `mark k`, `undo 9`, `undo 3`
abbrev pub send_five : Command
send_five = commands.Forward (steps.Send b (Int (pos 5)))

abbrev pub mark_m : Command
mark_m = commands.Forward (steps.Mark (codes "m"))

abbrev pub mark_k : Command
mark_k = commands.Forward (steps.Mark (codes "k"))

abbrev pub undo_nine : Command
undo_nine = commands.Undo 9

abbrev pub undo_three : Command
undo_three = commands.Undo 3

-- the caller at first, and as it is after `1 send b 5`, `2 mark m`, `mark k` without a number, and `3 undo 3`
abbrev pub at_first : PlainCaller
at_first = record { journal = []; newest = None }

abbrev pub after_one : PlainCaller
after_one = record { journal = entry a send_five (done 1) ∷ []; newest = Some (record { number = 1; answer = done 1 }) }

abbrev pub after_two : PlainCaller
after_two = record {
  journal = after_one.journal
      ++ entry a mark_m (done 2) ∷ [];
  newest = Some (record { number = 2; answer = done 2 });
}

abbrev pub after_a_call : PlainCaller
after_a_call = record { journal = after_two.journal ++ entry a mark_k (done 3) ∷ []; newest = after_two.newest }

abbrev pub after_three : PlainCaller
after_three = record {
  journal = after_a_call.journal
      ++ entry a undo_three (Undone (3 ∷ [])) ∷ [];
  newest = Some (record { number = 3; answer = Undone (3 ∷ []) });
}

-- a numbered command is called once. The last number again gets the answer that is kept, whatever it asks for; a
-- number that is neither the last nor the next is wrong, as 0 always is; one whose command is refused may come again;
-- and a call without a number leaves all this as it is
abbrev pub ANumberIsCalledOnce : Type 0
ANumberIsCalledOnce =
    Tells at_first 0 mark_m at_first told.Wrong
    × Tells at_first 1 send_five after_one told.Fresh
    × Tells after_one 1 send_five after_one told.Kept
    × Tells after_one 3 mark_m after_one told.Wrong
    × Tells after_one 2 mark_m after_two told.Fresh
    × Tells after_two 1 mark_m after_two told.Wrong
    × Tells after_two 0 mark_m after_two told.Wrong
    × Tells after_two 2 undo_nine after_two told.Kept
    × IsPlainCall after_two mark_k (done 3) after_a_call
    × Tells after_a_call 3 undo_nine after_a_call (told.Refused NoStep)
    × Tells after_a_call 3 undo_three after_three told.Fresh
    × Tells after_three 3 undo_three after_three told.Kept
    × (length after_three.journal ≡ 4)

-- of a command with a number nothing else is told, and it leaves the caller in no other state
abbrev pub ANumberIsToldOneThing : Type 0
ANumberIsToldOneThing =
    (x : PlainCaller) (n : ℕ) (command : Command) (y z : PlainCaller) (came other : Told)
    → Tells x n command y came → Tells x n command z other → (came ≡ other) × (y ≡ z)
