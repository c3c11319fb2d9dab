-- In each turn of the loop of `least_final` the key is that of the least marked commit of the roles so far.
use Rattle.std.proofs.Common.{◌≡◌, ◌&&◌, nat_lt}
use Rattle.mps_arena.specs.Keys.{first_key}
use Rattle.mps_arena.specs.KeyedSteps.{keys_of}
use Rattle.mps_links.specs.Private.Numbered.{key_of, HasNumber}
use Rattle.mps_links.proofs.Commits.{is_final}
use Rattle.mps_links.proofs.finals.least_final.Given as goal

abbrev pub invariant-loop-role : goal.invariant-loop-role
invariant-loop-role l =
    (key_of l.first ≡ first_key (keys_of (λ s. nat_lt s.role l.role && is_final l.arena.keyed_steps s) l.arena.keyed_steps))
    × HasNumber l.arena.keyed_steps l.first
