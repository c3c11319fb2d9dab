-- `Configuration::remove_chosen` meets its clause `history`, keeps what holds in each turn of its loop, and may call `remove`, by the lemmas of RemoveMarked.
use Rattle.std.proofs.Common.{◌≡◌, ◌+◌, ℕ, List, Some, None, length, sym, subst, arith}
use Rattle.mps_arena.specs.Keys.{last_key}
use Rattle.mps_arena.specs.Neighbours.{CanGo}
use Rattle.mps_links.specs.Marks.{marked_keys}
use Rattle.mps_session.specs.Private.Configurations.{lists_of}
use Rattle.mps_session.proofs.RemoveMarked as rolling
use Rattle.mps_session.proofs.RemoveMarked.{AreGoing}
use Rattle.mps_session.proofs.configuration.Configuration.remove_chosen.Goals as goal
use Rattle.mps_session.proofs.configuration.Configuration.remove_chosen.Goals.{After-push_reserved}

newest : (c : After-push_reserved) → last_key None (marked_keys c.loop-key.self.log.keyed_steps) ≡ Some c.in-Some.key
newest c = sym c.in-Some.ensures.newest

can : (c : After-push_reserved) → CanGo c.loop-key.self.log.keyed_steps c.in-Some.key
can c = c.in-Some.ensures.free

fewer : (c : After-push_reserved) → length (marked_keys c.remove-id.new.self.log.keyed_steps) + 1 ≡ length (marked_keys c.loop-key.self.log.keyed_steps)
fewer c =
    rolling.fewer_left (lists_of c.args.self.now) (lists_of c.loop-key.self) (lists_of c.remove-id.new.self) c.args.ids.now.items c.loop-key.ids.items c.in-Some.key c.remove-id.result
    c.loop-key.invariant.going c.newest_chosen.ensures.sound (newest c) (can c) c.remove-id.ensures.id c.remove-id.ensures.left

pub remove-id-requires-clause-role : goal.remove-id-requires-clause-role
remove-id-requires-clause-role c =
    rolling.role_there c.loop-key.self.log.keyed_steps c.in-Some.key _ _ c.loop-key.self.cursors.ok.0 c.loop-key.invariant.going.members

pub loop-key-smaller : goal.loop-key-smaller
loop-key-smaller c = omega (arith, fewer ((goal.at.loop-key-smaller c).After-push_reserved))

pub loop-key-preserved : goal.loop-key-preserved
loop-key-preserved c =
    let k = (goal.at.loop-key-preserved c).After-push_reserved in
    record {
      going =
          subst (λ (ids : List ℕ). AreGoing (lists_of c.args.self.now) (lists_of c.remove-id.new.self) c.args.ids.now.items ids) (sym c.push_reserved.ensures.items)
          (rolling.turn (lists_of c.args.self.now) (lists_of c.loop-key.self) (lists_of c.remove-id.new.self) c.args.ids.now.items c.loop-key.ids.items c.in-Some.key c.remove-id.result
          c.loop-key.invariant.going c.newest_chosen.ensures.sound (newest k) (can k) c.remove-id.ensures.id c.remove-id.ensures.left);
      space = omega (arith, fewer k, c.loop-key.invariant.space, c.push_reserved.ensures.len, c.push_reserved.ensures.capacity);
    }

pub returns-clause-history : goal.returns-clause-history
returns-clause-history c =
    rolling.all_gone (lists_of c.args.self.now) (lists_of c.loop-key.self) c.args.ids.now.items c.loop-key.ids.items c.loop-key.invariant.going (c.newest_chosen.ensures.none c.in_default.is)
