-- `are_same` may call `same`.
use Rattle.mps_global.specs.Global.{plain}
use Rattle.mps_local.specs.declared.merging.Merging.TheVariants.{Plain}
use Rattle.mps_session.proofs.SameProjections.{one_projection}
use Rattle.mps_test_sessions.proofs.comparisons.are_same.Goals as goal

-- a protocol has one list of projections
pub same-requires : goal.same-requires
same-requires g c =
    let protocol = c.args.protocol.now in
    record {
      types = one_projection Plain protocol.roles.items (plain protocol.body) _ _ c.after-a.ensures c.after-b.ensures;
    }
