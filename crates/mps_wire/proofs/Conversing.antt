-- What one read of a conversation leads to, and how it ends.
use Rattle.std.proofs.Common.{arith, ◌≡◌, ℕ, ◌+◌, Bool, List, [], Some, ap, subst, ◌∙◌, append-nil}
use Rattle.std.specs.Prelude.{Option, Result, Err, OnErr}
use Rattle.std.specs.Io.KnownBytes.{Consumes}
use Rattle.mps_lines.proofs.Splitting.{split_nothing}
use Rattle.mps_room.specs.declared.caller.Caller.{Ghosts}
use Rattle.mps_wire.specs.Answers.{Answering}
use Rattle.mps_wire.specs.Conversations.{ConversesLine, ConversesBrokenOff}
use Rattle.mps_wire.specs.Endings.{EndedAs, WasAnswered, WasBrokenOff}
use Rattle.mps_wire.specs.Private.Endings.{TurnedTo, TakesOn, TakesBrokenOff, failed_by}
use Rattle.mps_wire.specs.Runs.{Going}
use Rattle.mps_wire.specs.Streams.{Streams, Counts, all_went_well}
use Rattle.mps_wire.specs.declared.conversation.Broken.{Broken}
use Rattle.mps_wire.specs.declared.conversation.Ending.{Ending}
use Rattle.mps_wire.proofs.Bytes.{Appends-trans, Appends-none, Consumes-trans, Consumes-none}
use Rattle.mps_wire.proofs.Outcomes.{counts_more}

pub on_err_of : {A E : Type 0} (r : Result A E) (P : Type 0) → P → OnErr r P
on_err_of r P p = grind arith

pub failed_is : (e e' : Broken) → e ≡ e' → (old new : ℕ) → new ≡ old + failed_by (Err e) → new ≡ old + failed_by (Err e')
failed_is e e' same old new h = h ∙ ap (λ (b : Broken). old + failed_by (Err b)) same

module _ {S : Type 0} (answers : Answering S) (start : S) (first old new : Streams) (kept : List ℕ) (st : S) (going : Going answers start first old kept st) where
  -- more bytes were read, and their lines answered
  pub goes_on : (bytes kept' : List ℕ) (d : S) → Consumes old.left new.left bytes → TakesOn answers bytes kept st old.taken kept' d new.taken → Going answers start first new kept' d
  goes_on bytes kept' d more fed =
      let f = fed start going.read going.out going.answered in
      grind (arith, Consumes-trans, Appends-trans)

  -- that broke off
  pub breaks_off : (broken : Answering S) (bytes : List ℕ) (d : S) → Consumes old.left new.left bytes → TakesBrokenOff answers broken bytes kept st old.taken d new.taken → WasBrokenOff answers broken start first new d
  breaks_off broken bytes d more fed =
      let f = fed start going.read going.out going.answered in
      grind (arith, Consumes-trans, Appends-trans)

  -- nothing more was read
  pub stays : Consumes old.left new.left [] → new.taken ≡ old.taken → WasAnswered answers start first new st
  stays none same = grind (arith, append-nil, Consumes-trans)

module _ {S : Type 0} (answers broken : Answering S) (start : S) where
  -- nothing was read or written
  pub none_begun : (s : Streams) → WasBrokenOff answers broken start s s start
  none_begun s = grind (arith, Consumes-none, Appends-none, split_nothing)

  -- the read that ended it
  pub ends_as : (first old now : Streams) (kept : List ℕ) (st : S) (e : Ending) → Counts first old all_went_well → TurnedTo answers broken start first old now kept st (Some e) → EndedAs answers broken start first now st e
  ends_as first old now kept st e counts h = grind (arith, counts_more)

-- what one read comes to, where lines may wait as they might at first
pub step_as_first : {C : Type 0} (caller : Ghosts C) (b b' : Bool) → b ≡ b' → (start : C) (first old now : Streams) (kept : List ℕ) (st : C) (kept' : List ℕ) (st' : C) (e : Option Ending)
    → (Going (ConversesLine caller b) start first old kept st → TurnedTo (ConversesLine caller b) (ConversesBrokenOff caller b) start first old now kept' st' e)
    → Going (ConversesLine caller b') start first old kept st → TurnedTo (ConversesLine caller b') (ConversesBrokenOff caller b') start first old now kept' st' e
step_as_first {C} caller b b' same start first old now kept st kept' st' e step =
    subst (λ (w : Bool). Going (ConversesLine caller w) start first old kept st → TurnedTo (ConversesLine caller w) (ConversesBrokenOff caller w) start first old now kept' st' e) same step
