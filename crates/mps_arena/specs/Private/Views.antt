-- What a caller sees of the fields of an arena.
use Rattle.std.specs.Prelude.{nat_lt, ◌+◌, ◌&&◌, ◌^◌, length, vec_len, vec_capacity, List}
use Rattle.slab.specs.Slab.{get, slab_len}
use Rattle.mps_arena.specs.declared.arena.Arena.TheInside.{Inside}
use Rattle.mps_arena.specs.KeyedSteps.{KeyedStep, ArenaState}
use Rattle.mps_arena.specs.Private.Walks.{walk}
use Rattle.mps_arena.specs.Private.Kept.{IsKept}

abbrev pub keyed_steps_of : Inside → List KeyedStep
keyed_steps_of a = walk (get a.nodes) (slab_len a.nodes) a.ends.first

-- an arena, as contracts see it
abbrev pub arena_value : Inside → ArenaState
arena_value a = record {
  keyed_steps = keyed_steps_of a;
  issued = length a.index.items;
  next_key = a.nodes.vacant_key;
  has_space =
      nat_lt (slab_len a.nodes) a.nodes.capacity && nat_lt (vec_len a.index) (vec_capacity a.index)
      && nat_lt (a.nodes.vacant_key + 1) (2 ^ 32);
}

abbrev pub IsArena : Inside → Type 0
IsArena a =
    IsKept (get a.nodes) (slab_len a.nodes) a.ends.first a.ends.last a.ends.last_of a.ends.last_send a.index.items
    (keyed_steps_of a)
