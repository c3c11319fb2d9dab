-- `Draft::lay` and `Draft::lay_branches` meet their contracts and may call `lay_branches`, by the lemmas of Drafted.
use Rattle.std.proofs.Common.{rules, ap}
use Rattle.mps_local.specs.Local.{plain, plain_branches}
use Rattle.mps_table.specs.Private.Drafts.{places_of, Lays, LaysBranches}
use Rattle.mps_table.proofs.Drafted.{send_lays, recv_lays, more_lays, fits_then, on_ok}
use Rattle.mps_table.proofs.laying.Draft.+lay.Goals as goal

pub lay-returns-in_ok-push_row-in-Send : goal.lay-returns-in_ok-push_row-in-Send
lay-returns-in_ok-push_row-in-Send t c =
    let places = places_of c.args.bound.now in
    let laid = send_lays c.args.self.now c.push_row-in-Send.new.self c.lay-in-Send.new.self places c.in-Send.peer c.in-Send.sort c.start-node-in-Send.result c.len-in-Send.result
    (plain c.args.tree.now) (plain c.in-Send.next.value) (plain c.deref-in-Send.result.now) (plain c.deref-in-Send-2.result.now)
    (ap plain c.in-Send.is) (ap plain c.deref-in-Send.ensures) (ap plain c.deref-in-Send-2.ensures) (search rules) c.start-node-in-Send.ensures c.in_ok-push_row-in-Send.ensures in
    on_ok c.lay-in-Send.result (Lays c.push_row-in-Send.new.self c.lay-in-Send.new.self places (plain c.deref-in-Send-2.result.now))
    (Lays c.args.self.now c.lay-in-Send.new.self places (plain c.args.tree.now)) laid c.lay-in-Send.ensures

pub lay-returns-in_ok-push_row-in-Recv : goal.lay-returns-in_ok-push_row-in-Recv
lay-returns-in_ok-push_row-in-Recv t c =
    let places = places_of c.args.bound.now in
    let laid = recv_lays c.args.self.now c.push_row-in-Recv.new.self c.lay-in-Recv.new.self places c.in-Recv.peer c.in-Recv.sort c.start-node-in-Recv.result c.len-in-Recv.result
    (plain c.args.tree.now) (plain c.in-Recv.next.value) (plain c.deref-in-Recv.result.now) (plain c.deref-in-Recv-2.result.now)
    (ap plain c.in-Recv.is) (ap plain c.deref-in-Recv.ensures) (ap plain c.deref-in-Recv-2.ensures) (search rules) c.start-node-in-Recv.ensures c.in_ok-push_row-in-Recv.ensures in
    on_ok c.lay-in-Recv.result (Lays c.push_row-in-Recv.new.self c.lay-in-Recv.new.self places (plain c.deref-in-Recv-2.result.now))
    (Lays c.args.self.now c.lay-in-Recv.new.self places (plain c.args.tree.now)) laid c.lay-in-Recv.ensures

pub lay_branches-lay_branches-requires : goal.lay_branches-lay_branches-requires
lay_branches-lay_branches-requires t c =
    let fits = fits_then c.args.self.now c.lay.new.self (places_of c.args.bound.now) c.in-More.label (plain_branches c.args.branches.now) (plain c.in-More.next.value) (plain c.deref.result.now)
    (plain_branches c.in-More.others.value) (plain_branches c.deref-in-More.result.now)
    (ap plain_branches c.in-More.is) (ap plain c.deref.ensures) (ap plain_branches c.deref-in-More.ensures) c.in_ok-lay-in-More.ensures c.requires.rows c.requires.labels in
    (search rules, fits)

pub lay_branches-returns-in_ok-lay-in-More : goal.lay_branches-returns-in_ok-lay-in-More
lay_branches-returns-in_ok-lay-in-More t c =
    let places = places_of c.args.bound.now in
    let laid = more_lays c.args.self.now c.lay.new.self c.lay_branches.new.self places c.in-More.label (plain_branches c.args.branches.now) (plain c.in-More.next.value) (plain c.deref.result.now)
    (plain_branches c.in-More.others.value) (plain_branches c.deref-in-More.result.now)
    (ap plain_branches c.in-More.is) (ap plain c.deref.ensures) (ap plain_branches c.deref-in-More.ensures) c.in_ok-lay-in-More.ensures in
    on_ok c.lay_branches.result (LaysBranches c.lay.new.self c.lay_branches.new.self places (plain_branches c.deref-in-More.result.now))
    (LaysBranches c.args.self.now c.lay_branches.new.self places (plain_branches c.args.branches.now)) laid c.lay_branches.ensures
