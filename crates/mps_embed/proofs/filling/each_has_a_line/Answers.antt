-- `each_has_a_line` meets its contract.
use Rattle.std.proofs.Common.{ℕ, List, length, sym, ap, ◌∙◌, subst}
use Rattle.mps_session.specs.Peers.{HavePeers}
use Rattle.mps_embed.proofs.filling.each_has_a_line.Goals as goal

pub returns : goal.returns
returns c k entry got =
    let room = c.args.room.now in
    let peers = subst HavePeers c.session.ensures.types c.roles-peers.ensures.peers in
    let many = ap (λ (names : List (List ℕ)). length names) (sym c.names-many.ensures.names) ∙ c.names-many.ensures.count in
    c.each_entry_can_be_written.ensures room.names room.types room.journal k entry peers many c.entries-legal.ensures.legal got
