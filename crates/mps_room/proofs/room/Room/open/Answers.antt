-- `Room::open` gives what a room is, by the lemma of Opening.
use Rattle.std.proofs.Common.{map, ◌∙◌}
use Rattle.std.proofs.lemmas.List.{length-map}
use Rattle.mps_room.proofs.Opening.{opened}
use Rattle.mps_room.proofs.room.Room.open.Goals as goal

pub invariant_of-result : goal.invariant_of-result
invariant_of-result c =
    let heard = c.new-heard in
    opened c.args.names c.args.session c.requires.count c.requires.fresh heard.result.count (map (λ l. l.items) heard.result.lists) c.count.result heard.ensures.count c.count.ensures.count c.count.ensures.few
    (length-map heard.result.lists (λ l. l.items) ∙ heard.ensures.each) heard.ensures.lists
    c.new-2.result.owners.items c.new-2.result.places.items c.new.result.entries c.new-2.ensures.owners c.new-2.ensures.places c.new.ensures
