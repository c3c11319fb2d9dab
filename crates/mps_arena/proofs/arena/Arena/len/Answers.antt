-- `Arena::len` meets its clauses `count` and `sound`, by the lemmas of Keeping.
use Rattle.std.proofs.Common.{length, ap, ◌∙◌, subst}
use Rattle.mps_arena.specs.KeyedSteps.{ArenaState, AreSound}
use Rattle.mps_arena.proofs.Keeping.{kept_sound}
use Rattle.mps_arena.proofs.arena.Arena.len.Goals as goal

pub returns-clause-count : goal.returns-clause-count
returns-clause-count c =
    c.len.ensures ∙ c.self.invariant.count ∙ ap (λ (v : ArenaState). length v.keyed_steps) c.self.view_is

pub returns-clause-sound : goal.returns-clause-sound
returns-clause-sound c =
    subst (λ (v : ArenaState). AreSound v.keyed_steps) c.self.view_is (kept_sound _ _ _ _ _ _ _ _ c.self.invariant)
