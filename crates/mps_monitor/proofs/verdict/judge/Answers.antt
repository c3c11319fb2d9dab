-- `judge` meets its clauses `violation`, `allowed`, `advance`, `stay` and `offered`, by the lemmas of Judged.
use Rattle.std.proofs.Common.{Some, None, refl}
use Rattle.std.specs.Option.{option_copied}
use Rattle.mps_base.specs.declared.action.Act.TheVariants.{Out, In}
use Rattle.mps_base.specs.declared.action.Message.TheVariants.{Label}
use Rattle.mps_local.specs.Actions.{Receives, Chooses, Picks}
use Rattle.mps_monitor.proofs.Judged.{violated, allowed, goes_on, moves_on, value_offered}
use Rattle.mps_monitor.proofs.verdict.judge.Goals as goal

pub returns-in-Select-clause-violation : goal.returns-in-Select-clause-violation
returns-in-Select-clause-violation c =
    rw (c.in-Choose.is, c.in-Select.is) (violated (Chooses c.in-Select.peer c.in-Select.labels.now) (Out c.in-Choose.to (Label c.in-Choose.label)) (Some (Label c.in-Choose.label)) c.judge_choice.result c.judge_choice.ensures)

pub returns-in-Select-clause-allowed : goal.returns-in-Select-clause-allowed
returns-in-Select-clause-allowed c =
    rw (c.in-Choose.is, c.in-Select.is) (allowed (Chooses c.in-Select.peer c.in-Select.labels.now) (Out c.in-Choose.to (Label c.in-Choose.label)) (Some (Label c.in-Choose.label)) c.judge_choice.result c.judge_choice.ensures)

pub returns-in-Select-clause-advance : goal.returns-in-Select-clause-advance
returns-in-Select-clause-advance c =
    rw (c.in-Choose.is, c.in-Select.is) (goes_on (Chooses c.in-Select.peer c.in-Select.labels.now) (Out c.in-Choose.to (Label c.in-Choose.label)) (Some (Label c.in-Choose.label)) c.judge_choice.result refl c.judge_choice.ensures)

pub returns-in-Recv-clause-violation : goal.returns-in-Recv-clause-violation
returns-in-Recv-clause-violation c =
    rw (c.in-Receive.is, c.in-Recv.is) (violated (Receives c.in-Recv.peer c.in-Recv.sort) (In c.in-Receive.from (Some c.in-Receive.slot)) (option_copied c.args.first) c.judge_receipt.result (c.judge_receipt.ensures c.in-Receive.slot))

pub returns-in-Recv-clause-allowed : goal.returns-in-Recv-clause-allowed
returns-in-Recv-clause-allowed c =
    rw (c.in-Receive.is, c.in-Recv.is) (allowed (Receives c.in-Recv.peer c.in-Recv.sort) (In c.in-Receive.from (Some c.in-Receive.slot)) (option_copied c.args.first) c.judge_receipt.result (c.judge_receipt.ensures c.in-Receive.slot))

pub returns-in-Recv-clause-advance : goal.returns-in-Recv-clause-advance
returns-in-Recv-clause-advance c =
    rw (c.in-Receive.is, c.in-Recv.is) (goes_on (Receives c.in-Recv.peer c.in-Recv.sort) (In c.in-Receive.from (Some c.in-Receive.slot)) (option_copied c.args.first) c.judge_receipt.result tt (c.judge_receipt.ensures c.in-Receive.slot))

pub returns-in-Recv-clause-stay : goal.returns-in-Recv-clause-stay
returns-in-Recv-clause-stay c =
    rw c.in-Receive.is
    ((λ e. absurd (moves_on (Receives c.in-Recv.peer c.in-Recv.sort) (In c.in-Receive.from (Some c.in-Receive.slot)) (option_copied c.args.first) c.judge_receipt.result (c.judge_receipt.ensures c.in-Receive.slot) e)), λ e. absurd cc)

pub returns-in-Recv-clause-offered : goal.returns-in-Recv-clause-offered
returns-in-Recv-clause-offered c =
    rw c.in-Recv.is
    (value_offered c.in-Recv.peer c.in-Recv.sort (In c.in-Receive.from (Some c.in-Receive.slot)) (option_copied c.args.first) c.judge_receipt.result (c.judge_receipt.ensures c.in-Receive.slot))

pub returns-in-Branch-clause-violation : goal.returns-in-Branch-clause-violation
returns-in-Branch-clause-violation c =
    rw (c.in-Pick.is, c.in-Branch.is) (violated (Picks c.in-Branch.peer c.in-Branch.labels.now) (In c.in-Pick.from None) (option_copied c.args.first) c.judge_pick.result c.judge_pick.ensures)

pub returns-in-Branch-clause-allowed : goal.returns-in-Branch-clause-allowed
returns-in-Branch-clause-allowed c =
    rw (c.in-Pick.is, c.in-Branch.is) (allowed (Picks c.in-Branch.peer c.in-Branch.labels.now) (In c.in-Pick.from None) (option_copied c.args.first) c.judge_pick.result c.judge_pick.ensures)

pub returns-in-Branch-clause-advance : goal.returns-in-Branch-clause-advance
returns-in-Branch-clause-advance c =
    rw (c.in-Pick.is, c.in-Branch.is) (goes_on (Picks c.in-Branch.peer c.in-Branch.labels.now) (In c.in-Pick.from None) (option_copied c.args.first) c.judge_pick.result tt c.judge_pick.ensures)
