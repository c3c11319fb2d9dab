-- In each turn of the loop of `newest_marked` the key is that of the newest marked step of the roles so far.
use Rattle.std.proofs.Common.{◌≡◌, ◌&&◌, None, nat_lt}
use Rattle.mps_arena.specs.Keys.{last_key}
use Rattle.mps_arena.specs.KeyedSteps.{keys_of}
use Rattle.mps_links.specs.Marks.{is_marked}
use Rattle.mps_links.specs.Private.Numbered.{key_of, HasNumber}
use Rattle.mps_links.proofs.marking.newest_marked.Given as goal

abbrev pub invariant-loop-role : goal.invariant-loop-role
invariant-loop-role l =
    (key_of l.newest ≡ last_key None (keys_of (λ s. nat_lt s.role l.role && is_marked l.arena.keyed_steps s.id) l.arena.keyed_steps))
    × HasNumber l.arena.keyed_steps l.newest
