-- `part` meets its clause `nodes`, by the lemmas of Updating.
use Rattle.std.proofs.Common.{ℕ, None, ◌∙◌, subst}
use Rattle.slab.specs.Slab.{Updates}
use Rattle.mps_arena.proofs.Updating.{updated, parted_is}
use Rattle.mps_arena.proofs.links.part.Goals as goal

pub returns-clause-nodes : goal.returns-clause-nodes
returns-clause-nodes c k =
    let old = c.args.nodes.now in
    let new = c.remove-node.new.self in
    let updates = subst (λ (j : ℕ). Updates old new j None) c.place.ensures.place c.remove-node.ensures.updates in
    c.set_matched.ensures.nodes k
    ∙ rw (c.set_next_send.ensures.nodes k, c.set_next_of_role.ensures.nodes k, c.set_prev.ensures.nodes k, c.set_next.ensures.nodes k, updated old new c.args.key None updates k, c.none-none.ensures)
    (parted_is c.remove-node.result k _)
