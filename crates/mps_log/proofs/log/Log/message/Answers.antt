-- `Log::message` meets its contract and may call `message_at`, by the lemmas of Waiting.
use Rattle.std.proofs.Common.{◌<◌, arith, sym, ap, ◌∙◌}
use Rattle.std.specs.Prelude.{slice_get}
use Rattle.std.specs.Option.{option_and_then}
use Rattle.mps_history.specs.Steps.{unreceived}
use Rattle.mps_arena.specs.KeyedSteps.{steps}
use Rattle.mps_log.specs.Logged.{Logged}
use Rattle.mps_log.specs.Values.{message_of}
use Rattle.mps_log.proofs.Waiting.{message_waits, nothing_waits, waiting_keyed}
use Rattle.mps_log.proofs.log.Log.message.Goals as goal
use Rattle.mps_log.proofs.log.Log.message.Goals.{then-index-ge8-via-then-index-ge8, then-index-ge8-via-else-index-ge8+then-index-ge8-2}

pub returns-then-index-ge8 : goal.returns-then-index-ge8
returns-then-index-ge8 c =
    let es = c.self.inside.arena.keyed_steps in
    let far : c.args.from < 8 → c.args.to < 8 → ⊥ =
    elim c.then-index-ge8.branch [
      | then-index-ge8-via-then-index-ge8 w ↦ λ p q. omega (arith, c.index.ensures.place, w.if-index-ge8.true)
      | then-index-ge8-via-else-index-ge8+then-index-ge8-2 w ↦ λ p q. omega (arith, w.index-else-index-ge8.ensures.place, w.if-index-ge8-2.true)
    ] in
    sym (nothing_waits es c.self.invariant.sound c.args.from c.args.to far c.args.k)
    ∙ ap (λ (l : Logged). slice_get (unreceived c.args.from c.args.to (steps l.keyed_steps)) c.args.k) c.self.view_is

pub returns-in_err-key : goal.returns-in_err-key
returns-in_err-key c =
    let es = c.self.inside.arena.keyed_steps in
    let none = ap (option_and_then (message_of es)) (sym c.nth.ensures ∙ c.in_err-key.was) in
    rw c.from_residual.ensures
    (sym (message_waits es c.self.invariant.sound c.args.from c.args.to c.args.k ∙ none)
    ∙ ap (λ (l : Logged). slice_get (unreceived c.args.from c.args.to (steps l.keyed_steps)) c.args.k) c.self.view_is)

pub message_at-requires : goal.message_at-requires
message_at-requires c =
    waiting_keyed c.self.inside.arena.keyed_steps c.self.invariant.sound c.args.from c.args.to c.args.k c.in_ok-key.key (sym c.nth.ensures ∙ c.in_ok-key.was)

pub returns : goal.returns
returns c =
    let es = c.self.inside.arena.keyed_steps in
    let some = ap (option_and_then (message_of es)) (sym c.nth.ensures ∙ c.in_ok-key.was) in
    c.message_at.ensures
    ∙ sym (message_waits es c.self.invariant.sound c.args.from c.args.to c.args.k ∙ some)
    ∙ ap (λ (l : Logged). slice_get (unreceived c.args.from c.args.to (steps l.keyed_steps)) c.args.k) c.self.view_is
