-- The caller of the worked journals: its journal and its newest numbered command are known after each command.
use Rattle.std.proofs.Common.{◌≡◌, ℕ, List, Option, None, Some, refl, sym, ap, ◌∙◌}
use Rattle.std.specs.Prelude.{unwrap_or}
use Rattle.mps_command.specs.declared.answer.Answer.TheVariants as answers
use Rattle.mps_command.specs.declared.command.Command.{Command}
use Rattle.mps_machine.specs.Examples.{a, verdict}
use Rattle.mps_room.specs.Examples.{names, PlainCaller, plain_caller, Tells}
use Rattle.mps_room.specs.Journal.{answer_to, grown}
use Rattle.mps_room.specs.Numbers.{last_of, kept_of}
use Rattle.mps_room.specs.declared.entry.Entry.{Entry}
use Rattle.mps_room.specs.declared.numbers.Numbered.{Numbered}
use Rattle.mps_room.specs.declared.numbers.Told.{Told}
use Rattle.mps_room.specs.declared.numbers.Told.TheVariants.{Fresh, Kept, Wrong, Refused}
use Rattle.mps_room.proofs.OneAnswer.{one_outcome}

-- the journal, by what came of a command
journal_after : PlainCaller → Command → Told → List Entry
journal_after x command Fresh = grown x.journal a command (answer_to names verdict x.journal a command)
journal_after x command (Refused refusal) = grown x.journal a command (answers.Refused refusal)
journal_after x command came = x.journal

journal_is : (x : PlainCaller) (n : ℕ) (command : Command) (y : PlainCaller) (came : Told) → Tells x n command y came → y.journal ≡ journal_after x command came
unfolding journal_after
journal_is x n command y Fresh t = t.call.1 ∙ ap (grown x.journal a command) t.call.0
journal_is x n command y Kept t = ap (λ (z : PlainCaller). z.journal) t.unchanged
journal_is x n command y Wrong t = ap (λ (z : PlainCaller). z.journal) t.unchanged
journal_is x n command y (Refused refusal) t = t.call.1

-- the last number and the answer that is kept are the whole of it
newest_is : (m k : Option Numbered) → last_of m ≡ last_of k → kept_of m ≡ kept_of k → m ≡ k
newest_is None None l h = refl
newest_is None (Some k) l h = absurd cc
newest_is (Some m) None l h = absurd cc
newest_is (Some m) (Some k) l h = λ i. Some (record { number = l i; answer = unwrap_or (h i) m.answer })

pub one_state : (x : PlainCaller) (n : ℕ) (command : Command) (y z : PlainCaller) (came other : Told) → Tells x n command y came → Tells x n command z other → (came ≡ other) × (y ≡ z)
one_state x n command y z came other t u =
    let same = one_outcome plain_caller.calls plain_caller.last plain_caller.kept x n command y z came other (λ p q d e f g. f.0 ∙ sym g.0) t u in
    let journal : y.journal ≡ z.journal = journal_is x n command y came t ∙ ap (journal_after x command) same.same_told ∙ sym (journal_is x n command z other u) in
    let newest : y.newest ≡ z.newest = newest_is y.newest z.newest same.same_last same.same_kept in
    (same.same_told, λ i. record { journal = journal i; newest = newest i })
