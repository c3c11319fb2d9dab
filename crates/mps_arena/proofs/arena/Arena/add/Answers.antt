-- `Arena::add` meets its clauses `keyed_steps` and `sound` and keeps the invariant of its type, by the lemmas of Keeping.
use Rattle.std.proofs.Common.{arith, ◌≡◌, ℕ, ◌+◌, ◌∷◌, [], ◌++◌, Some, false, sym, ap, ◌∙◌, subst, cond}
use Rattle.std.specs.Prelude.{◌==◌}
use Rattle.std.specs.Option.{option_map}
use Rattle.slab.specs.Slab.{get, slab_len}
use Rattle.mps_base.specs.Effects.{effect}
use Rattle.mps_arena.specs.declared.node.Node.{Node}
use Rattle.mps_arena.specs.KeyedSteps.{ArenaState}
use Rattle.mps_arena.specs.Private.Kept.{IsKept}
use Rattle.mps_arena.specs.Private.Links.{joined}
use Rattle.mps_arena.specs.Neighbours.{IsSource}
use Rattle.mps_arena.specs.Private.Views.{keyed_steps_of}
use Rattle.mps_arena.proofs.Keeping.{kept_view, kept_whole, kept_sound, kept_add}
use Rattle.mps_arena.proofs.arena.Arena.add.Goals as goal
use Rattle.mps_arena.proofs.arena.Arena.add.Goals.{After-push_reserved}

kept : (c : After-push_reserved) → IsKept (get c.join.new.nodes) (slab_len c.join.new.nodes) c.push.new.self.first c.push.new.self.last c.push.new.self.last_of c.push.new.self.last_send c.push_reserved.new.self.items (keyed_steps_of c.self.inside ++ record { key = c.small-key.result; step = record { id = c.new-id.result; role = c.args.role; act = c.args.act }; before = c.args.before; marked = false } ∷ [])
kept c =
    let a = c.self.inside in
    let key = c.small-key.result in
    let node = c.node_after-node.result in
    let is : (i : ℕ) → get c.join.new.nodes i ≡ option_map (joined node key i) (cond (key == i) (Some node) (get a.nodes i)) = c.join.ensures.nodes in
    rw (c.join.ensures.len, c.push.ensures.first, c.push.ensures.last, c.push.ensures.last_of, c.push.ensures.last_send, c.push_reserved.ensures.items, c.node_after-node.ensures)
    (kept_add (get a.nodes) (get c.join.new.nodes) (slab_len a.nodes) a.ends.first a.ends.last a.ends.last_of a.ends.last_send a.index.items (keyed_steps_of a) c.self.invariant (record { id = c.new-id.result; role = c.args.role; act = c.args.act }) c.args.before c.args.source key
    (c.requires.role, c.requires.peer)
    (c.new-id.ensures ∙ ap (λ (n : ℕ). n + 1) (c.len.ensures ∙ a.index.ok.0))
    (subst (λ (v : ArenaState). IsSource v.keyed_steps c.args.role (effect c.args.act) c.args.source) (sym c.self.view_is) c.requires.source)
    c.join.ensures.vacant
    (subst (λ (n : Node). (i : ℕ) → get c.join.new.nodes i ≡ option_map (joined n key i) (cond (key == i) (Some n) (get a.nodes i))) c.node_after-node.ensures is))

pub invariant_of-self : goal.invariant_of-self
invariant_of-self c = kept_whole _ _ _ _ _ _ _ _ (kept c)

pub returns-clause-keyed_steps : goal.returns-clause-keyed_steps
returns-clause-keyed_steps c = grind (arith, kept_view _ _ _ _ _ _ _ _ (kept ((goal.at.returns-clause-keyed_steps c).After-push_reserved)))

pub returns-clause-sound : goal.returns-clause-sound
returns-clause-sound c =
    kept_sound _ _ _ _ _ _ _ _ (kept_whole _ _ _ _ _ _ _ _ (kept ((goal.at.returns-clause-sound c).After-push_reserved)))
