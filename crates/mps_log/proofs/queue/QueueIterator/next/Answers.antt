-- `Queue::next` meets its clauses `steps` and `goes`, keeps the invariant of its type, may call `message_at`, and never reaches what can't be, by the lemmas of Queued.
use Rattle.std.proofs.Common.{◌≡◌, length, arith, Some, None, sym, ap, ◌∙◌}
use Rattle.mps_log.proofs.Queued.{there, message, goes_on, shows, nothing_left}
use Rattle.mps_log.proofs.queue.QueueIterator.next.Goals as goal

pub returns-in_err-key-clause-steps : goal.returns-in_err-key-clause-steps
returns-in_err-key-clause-steps c =
    let over = sym c.self.view_is ∙ nothing_left c.self.inside c.self.invariant c.in_err-key.was in
    rw c.from_residual.ensures (over, over)

pub message_at-requires : goal.message_at-requires
message_at-requires c = there c.self.inside c.self.invariant c.in_ok-key.key c.in_ok-key.was

pub unreachable-requires : goal.unreachable-requires
unreachable-requires c =
    let m = message c.self.inside c.self.invariant c.in_ok-key.key c.in_ok-key.was in
    let no : None ≡ Some m.0 = c.in_default.ensures ∙ m.1 in absurd cc

pub invariant_of-self : goal.invariant_of-self
invariant_of-self c = goes_on c.self.inside c.self.invariant c.in_ok-key.key c.in_ok-key.was c.next_send-self-inside.result c.next_send-self-inside.ensures

pub returns-clause-steps : goal.returns-clause-steps
returns-clause-steps c =
    sym c.self.view_is
    ∙ shows c.self.inside c.self.invariant c.in_ok-key.key c.in_ok-key.was c.in-Some.message.now (sym c.in-Some.ensures) c.next_send-self-inside.result c.next_send-self-inside.ensures

pub returns-clause-goes : goal.returns-clause-goes
returns-clause-goes c =
    let fewer = ap length (sym c.self.view_is ∙ shows c.self.inside c.self.invariant c.in_ok-key.key c.in_ok-key.was c.in-Some.message.now (sym c.in-Some.ensures) c.next_send-self-inside.result c.next_send-self-inside.ensures) in
    record { on = λ _. (tt, tt, omega (arith, fewer)); keeps = tt; rests = λ _. tt }
