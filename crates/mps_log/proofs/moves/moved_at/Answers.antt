-- `moved_at` meets its contract, by the lemmas of Leaving and Walks.
use Rattle.std.proofs.Common.{sym, ap, ◌∙◌}
use Rattle.std.specs.Option.{option_and_then, option_or}
use Rattle.mps_base.specs.declared.action.Act.{Act}
use Rattle.mps_base.specs.Effects.{Effect}
use Rattle.mps_arena.specs.Neighbours.{source_in}
use Rattle.mps_log.specs.Values.{message_in, given_by, message_of}
use Rattle.mps_log.proofs.Leaving.{neither}
use Rattle.mps_log.proofs.Walks.{moved_by_act, idle_has_none}
use Rattle.mps_log.proofs.moves.moved_at.Goals as goal

pub returns-in-In : goal.returns-in-In
returns-in-In c =
    let es = c.args.arena.now.keyed_steps in
    c.taken_at.ensures
    ∙ sym (moved_by_act es c.args.key c.get.result.now c.get.ensures ∙ ap (λ (a : Act). option_or (given_by a) (option_and_then (message_of es) (source_in es c.args.key))) c.in-In.is)

pub returns-in_default : goal.returns-in_default
returns-in_default c =
    let es = c.args.arena.now.keyed_steps in
    let idle = neither c.get.result.now.act c.in_default.not-Out c.in_default.not-In in
    sym (moved_by_act es c.args.key c.get.result.now c.get.ensures ∙ ap (λ (a : Effect). option_or (message_in a) (option_and_then (message_of es) (source_in es c.args.key))) idle
    ∙ ap (option_and_then (message_of es)) (idle_has_none es c.args.key c.get.result.now c.get.ensures idle))
