-- `rolls_back_one` may call `rolled_back`.
use Rattle.mps_global.specs.Global.{plain}
use Rattle.mps_local.specs.declared.merging.Merging.TheVariants.{Plain}
use Rattle.mps_session.proofs.SameProjections.{one_projection}
use Rattle.mps_test_memory.proofs.calls.rolls_back_one.Goals as goal

pub rolled_back-requires : goal.rolled_back-requires
rolled_back-requires c =
    let protocol = c.args.protocol.now in
    record { types = one_projection Plain protocol.roles.items (plain protocol.body) c.in_ok-session.session.types c.in_ok-untried.untried.types c.in_ok-session.ensures c.in_ok-untried.ensures }
