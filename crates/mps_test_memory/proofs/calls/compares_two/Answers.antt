-- `compares_two` may call `compares_both`.
use Rattle.mps_global.specs.Global.{plain}
use Rattle.mps_local.specs.declared.merging.Merging.TheVariants.{Plain}
use Rattle.mps_session.proofs.SameProjections.{one_projection}
use Rattle.mps_test_memory.proofs.calls.compares_two.Goals as goal

pub compares_both-requires : goal.compares_both-requires
compares_both-requires c =
    let protocol = c.args.protocol.now in
    record { types = one_projection Plain protocol.roles.items (plain protocol.body) c.in_ok-first.first.types c.in_ok-second.second.types c.in_ok-first.ensures c.in_ok-second.ensures }
