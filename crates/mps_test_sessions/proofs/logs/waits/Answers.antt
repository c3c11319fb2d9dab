-- `waits` meets its contract.
use Rattle.std.proofs.Common.{arith, Bor, ◌≡◌, ℕ, length, true, Option, None, Some, refl, sym, ap, ◌∙◌}
use Rattle.std.specs.Prelude.{IsSome}
use Rattle.std.specs.Option.{option_and_then, option_copied, is_some}
use Rattle.mps_base.specs.declared.action.Message.{Message}
use Rattle.mps_history.specs.Steps.{sends, receives}
use Rattle.mps_arena.specs.KeyedSteps.{keys_of}
use Rattle.mps_queues.proofs.Moves.{get_drop_front}
use Rattle.mps_log.specs.Values.{message_of}
use Rattle.mps_log.proofs.Waiting.{message_waits}
use Rattle.mps_test_sessions.proofs.logs.waits.Goals as goal

given_by_some : (f : ℕ → Option Message) (key : Option ℕ) (given : Option Message) → given ≡ option_and_then f key → is_some given ≡ true → IsSome key
given_by_some f (Some k) given e t = refl
given_by_some f None given e t = let no = sym (ap is_some e) ∙ t in absurd cc

copied : {T : Type 0} (o : Option (Bor T)) → is_some o ≡ true → is_some (option_copied o) ≡ true
copied (Some x) t = refl
copied None t = absurd cc

pub returns : goal.returns
returns c t =
    let es = c.args.log.now.keyed_steps in
    let p = c.args.from in
    let q = c.args.to in
    let count = length (keys_of (receives p q) es) in
    let first = get_drop_front (keys_of (sends p q) es) count 0 count (omega arith) in
    let given = c.message.ensures ∙ message_waits es c.steps-steps.ensures.sound p q 0 ∙ ap (option_and_then (message_of es)) first in
    given_by_some (message_of es) _ (option_copied c.message.result) given (copied c.message.result (sym c.is_some.ensures ∙ t))
