-- `after` meets its contract, by the lemmas of Halving.
use Rattle.std.proofs.Common.{rules, ltb}
use Rattle.std.proofs.lemmas.List.Sorted.{IsPartitionPoint-from_clause}
use Rattle.std.specs.List.Sorted.{IsPartitionedBy}
use Rattle.mps_room.proofs.news.after.Goals as goal
use Rattle.mps_room.proofs.Halving.{parted, at_point}

pub returns : goal.returns
returns c = λ early late is below above.
    let known = c.args.known in
    let split : IsPartitionedBy (λ k. ltb k known) c.args.places.now = parted known c.args.places.now early late is below above in
    let point = IsPartitionPoint-from_clause (λ k. ltb k known) _ _ c.partition_point-first.ensures.partitioned split (λ a r q k. search rules) in
    at_point known c.args.places.now early late c.partition_point-first.result is below above c.partition_point-first.ensures.bound point
