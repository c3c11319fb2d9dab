-- `Log::first_sent` meets its clauses `message`, `step` and `gives` and may call `get`, by the lemmas of Queued and Waiting.
use Rattle.std.proofs.Common.{◌≡◌, ◌<◌, ℕ, List, Some, length, arith, sym, ap, ◌∙◌, subst}
use Rattle.std.specs.Prelude.{slice_get}
use Rattle.std.specs.Option.{option_and_then}
use Rattle.mps_base.specs.declared.action.Act.{Act}
use Rattle.mps_base.specs.declared.action.Act.TheVariants.{Out}
use Rattle.mps_base.specs.declared.action.Message.{Message}
use Rattle.mps_history.specs.Steps.{unreceived, receives}
use Rattle.mps_arena.specs.KeyedSteps.{keys_of, steps}
use Rattle.mps_arena.specs.Neighbours.{id_in, first_waiting}
use Rattle.mps_log.specs.Logged.{Logged}
use Rattle.mps_log.specs.Values.{given_by, message_of, message_sent}
use Rattle.mps_queues.proofs.Moves.{first_left}
use Rattle.mps_log.proofs.Queued.{gives}
use Rattle.mps_log.proofs.Waiting.{first_message, first_keyed, no_stranger, nothing_waits, sent_at}
use Rattle.mps_log.proofs.log.Log.first_sent.Goals as goal
use Rattle.mps_log.proofs.log.Log.first_sent.Goals.{then-index-ge8-via-then-index-ge8, then-index-ge8-via-else-index-ge8+then-index-ge8-2}
use Rattle.mps_log.proofs.log.Log.first_sent.Goals.{In_ok-key, After-get-step}

-- an act that gives a message is a send or a choice
gives_none : (act : Act) (m : Message) → given_by act ≡ Some m → ((to : ℕ) (n : Message) → act ≡ Out to n → ⊥) → ⊥
gives_none act m e other = grind arith

strangers : (c : goal.Joined-then-index-ge8) → c.args.from < 8 → c.args.to < 8 → ⊥
strangers c =
    elim c.then-index-ge8.branch [
      | then-index-ge8-via-then-index-ge8 w ↦ λ p q. omega (arith, c.index.ensures.place, w.if-index-ge8.true)
      | then-index-ge8-via-else-index-ge8+then-index-ge8-2 w ↦ λ p q. omega (arith, w.index-else-index-ge8.ensures.place, w.if-index-ge8-2.true)
    ]

pub returns-then-index-ge8-clause-message : goal.returns-then-index-ge8-clause-message
returns-then-index-ge8-clause-message c =
    sym (nothing_waits c.self.inside.arena.keyed_steps c.self.invariant.sound c.args.from c.args.to (strangers c) 0)
    ∙ ap (λ (l : Logged). slice_get (unreceived c.args.from c.args.to (steps l.keyed_steps)) 0) c.self.view_is

pub returns-then-index-ge8-clause-step : goal.returns-then-index-ge8-clause-step
returns-then-index-ge8-clause-step c =
    let es = c.self.inside.arena.keyed_steps in
    let none = sym (ap (λ (l : List ℕ). slice_get l (length (keys_of (receives c.args.from c.args.to) es))) (no_stranger es c.self.invariant.sound c.args.from c.args.to (strangers c) es c.self.invariant.sound.small)) in
    ap (option_and_then (id_in es)) none
    ∙ ap (λ (l : Logged). option_and_then (id_in l.keyed_steps) (first_waiting l.keyed_steps c.args.from c.args.to)) c.self.view_is

pub returns-in_err-key-clause-message : goal.returns-in_err-key-clause-message
returns-in_err-key-clause-message c =
    let es = c.self.inside.arena.keyed_steps in
    let at = sym (c.front.ensures es c.self.invariant.fronts) ∙ c.in_err-key.was in
    rw c.from_residual.ensures
    (sym (sym (first_message es c.self.invariant.sound c.args.from c.args.to) ∙ ap (option_and_then (message_of es)) at)
    ∙ ap (λ (l : Logged). slice_get (unreceived c.args.from c.args.to (steps l.keyed_steps)) 0) c.self.view_is)

-- its key is the first that waits
found : (c : In_ok-key) → first_waiting c.self.inside.arena.keyed_steps c.args.from c.args.to ≡ Some c.in_ok-key.key
found c = sym (c.front.ensures c.self.inside.arena.keyed_steps c.self.invariant.fronts) ∙ c.in_ok-key.was

pub get-step-requires : goal.get-step-requires
get-step-requires c = first_keyed c.self.inside.arena.keyed_steps c.self.invariant.sound c.args.from c.args.to c.in_ok-key.key (found c)

-- what its step gave waits first
waits : (c : After-get-step) → given_by c.get-step.result.now.act ≡ slice_get (unreceived c.args.from c.args.to (steps c.args.self.now.keyed_steps)) 0
waits c =
    let es = c.self.inside.arena.keyed_steps in
    let sent = sent_at es c.self.invariant.sound c.in_ok-key.key c.get-step.result.now c.get-step.ensures in
    subst (λ (l : Logged). given_by c.get-step.result.now.act ≡ slice_get (unreceived c.args.from c.args.to (steps l.keyed_steps)) 0) c.self.view_is
    (sym sent.0 ∙ sym (ap (option_and_then (message_of es)) (found (goal.at.After-get-step c).In_ok-key)) ∙ first_message es c.self.invariant.sound c.args.from c.args.to)

pub returns-in-Out-clause-message : goal.returns-in-Out-clause-message
returns-in-Out-clause-message c = sym (ap given_by c.in-Out.is) ∙ waits ((goal.at.returns-in-Out-clause-message c).After-get-step)

pub returns-in-Out-clause-gives : goal.returns-in-Out-clause-gives
returns-in-Out-clause-gives c =
    let es = c.self.inside.arena.keyed_steps in
    let sent = sent_at es c.self.invariant.sound c.in_ok-key.key c.get-step.result.now c.get-step.ensures in
    subst (λ (l : Logged). message_sent (steps l.keyed_steps) c.get-step.result.now.id ≡ Some c.in-Out.message) c.self.view_is
    (sent.1 ∙ ap given_by c.in-Out.is)

-- a send that waits gave a message
pub returns-in_default : goal.returns-in_default
returns-in_default c =
    let es = c.self.inside.arena.keyed_steps in
    let sound = c.self.invariant.sound in
    let sent = sent_at es sound c.in_ok-key.key c.get-step.result.now c.get-step.ensures in
    let gave = gives es sound c.args.from c.args.to 0 c.in_ok-key.key (sym (first_left es sound c.args.from c.args.to) ∙ found ((goal.at.returns-in_default c).In_ok-key)) in
    absurd (gives_none c.get-step.result.now.act gave.0 (sym sent.0 ∙ gave.1) c.in_default.not-Out)
