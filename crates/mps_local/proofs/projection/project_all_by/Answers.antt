-- `project_all_by` meets its clause `fault` and keeps what holds in each turn of its loop, by the lemmas of Each.
use Rattle.std.proofs.Common.{rules, ◌≡◌, ℕ, ◌<◌, ◌∷◌, [], length, Some, ap, subst, arith}
use Rattle.std.proofs.lemmas.List.{length-append}
use Rattle.mps_global.specs.Global.{plain as global_type}
use Rattle.mps_local.specs.Local.{plain}
use Rattle.mps_local.specs.Outcome.{IsUnmerged, AreNotAll}
use Rattle.mps_local.specs.Projection.{projection}
use Rattle.mps_local.specs.Shape.{AllPeers}
use Rattle.mps_local.proofs.Each.{one_more, one_more_holds, not_all, passed_on}
use Rattle.mps_local.proofs.projection.project_all_by.Goals as goal

pub loop-place-preserved : goal.loop-place-preserved
loop-place-preserved c =
    let roles = c.args.protocol.now.roles.items in
    let types = c.loop-place.types.items in record {
      count = omega (arith, ap length c.in_ok-push.ensures.items, length-append types (c.in_ok-t.t ∷ []), c.loop-place.invariant.count);
      within = search rules;
      each = one_more c.args.merging roles (global_type c.args.protocol.now.body) types c.push.new.self.items c.in_ok-t.t c.loop-place.place c.loop-place.invariant.count c.in_ok-push.ensures.items c.loop-place.invariant.each (subst (λ (p : ℕ). projection c.args.merging roles p (global_type c.args.protocol.now.body) ≡ Some (plain c.in_ok-t.t)) c.new.ensures c.in_ok-t.ensures.ok);
      peers = one_more_holds (AllPeers (λ peer. peer < length roles)) types c.push.new.self.items c.in_ok-t.t c.in_ok-push.ensures.items c.loop-place.invariant.peers c.in_ok-t.ensures.peers;
    }

pub returns-in_err-t-clause-fault : goal.returns-in_err-t-clause-fault
returns-in_err-t-clause-fault c =
    let roles = c.args.protocol.now.roles.items in
    let tree = global_type c.args.protocol.now.body in
    passed_on c.from_residual-in_err-t.result (AreNotAll c.args.merging roles tree) _ c.from_residual-in_err-t.ensures.1
    (not_all c.args.merging roles tree c.loop-place.types.items c.loop-place.place _ (search rules) c.loop-place.invariant.count c.loop-place.invariant.each
    (subst (λ (p : ℕ). IsUnmerged c.args.merging roles p 0 tree c.in_err-t.field-0.0) c.new.ensures c.in_err-t.ensures.fault))
