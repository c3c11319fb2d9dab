-- `Arena::remove` meets its clauses `keyed_steps`, `history` and `sound`, keeps the invariant of its type, and may call `part`, by the lemmas of Keeping and Histories.
use Rattle.std.proofs.Common.{arith, ◌≡◌, Some, not, sym, ap, ◌∙◌, subst}
use Rattle.std.specs.Prelude.{◌==◌}
use Rattle.std.specs.List.{filter}
use Rattle.slab.specs.Slab.{get, slab_len}
use Rattle.mps_arena.specs.KeyedSteps.{KeyedStep, ArenaState, steps, keyed_at}
use Rattle.std.specs.Option.{option_map}
use Rattle.mps_history.specs.Steps.{without}
use Rattle.mps_arena.specs.declared.node.Node.{Node}
use Rattle.mps_arena.specs.Private.Kept.{IsKept}
use Rattle.mps_arena.specs.Neighbours.{CanGo}
use Rattle.mps_arena.specs.Private.Views.{keyed_steps_of}
use Rattle.mps_arena.proofs.Keeping.{stands, kept_view, kept_whole, kept_sound, kept_remove, small_of}
use Rattle.mps_arena.proofs.Histories.{steps_without}
use Rattle.mps_arena.proofs.arena.Arena.remove.Goals as goal
use Rattle.mps_arena.proofs.arena.Arena.remove.Goals.{After-part}

pub part-requires : goal.part-requires
part-requires c = search (small_of, arith)

kept : (c : After-part) → IsKept (get c.part-node.new.nodes) (slab_len c.part-node.new.nodes) c.part.new.self.first c.part.new.self.last c.part.new.self.last_of c.part.new.self.last_send c.self.inside.index.items (filter (λ e. not (e.key == c.args.key)) (keyed_steps_of c.self.inside))
kept c =
    let a = c.self.inside in
    rw (c.part.ensures.first, c.part.ensures.last, c.part.ensures.last_of, c.part.ensures.last_send)
    (kept_remove (get a.nodes) (get c.part-node.new.nodes) (slab_len a.nodes) a.ends.first a.ends.last a.ends.last_of a.ends.last_send a.index.items (keyed_steps_of a) c.self.invariant
    (slab_len c.part-node.new.nodes) c.part-node.ensures.len c.args.key c.part-node.result c.part-node.ensures.node
    (subst (λ (v : ArenaState). CanGo v.keyed_steps c.args.key) (sym c.self.view_is) c.requires)
    c.part-node.ensures.nodes)

pub invariant_of-self : goal.invariant_of-self
invariant_of-self c = kept_whole _ _ _ _ _ _ _ _ (kept c)

pub returns-clause-keyed_steps : goal.returns-clause-keyed_steps
returns-clause-keyed_steps c = cc (kept_view _ _ _ _ _ _ _ _ (kept c))

pub returns-clause-history : goal.returns-clause-history
returns-clause-history c =
    let a = c.self.inside in
    let es = keyed_steps_of a in
    let node = c.part-node.result in
    let s = stands (get a.nodes) es c.args.key node c.self.invariant.linked c.part-node.ensures.node in
    let step : option_map (λ e. e.step) (keyed_at c.args.key es) ≡ Some node.step = ap (option_map (λ (e : KeyedStep). e.step)) s.found ∙ ap (λ (n : Node). Some n.step) (sym s.node_is) in
    let now = kept_view _ _ _ _ _ _ _ _ (kept ((goal.at.returns-clause-history c).After-part)) in
    subst (λ (v : ArenaState). steps (keyed_steps_of (record { nodes = c.part-node.new.nodes; ends = c.part.new.self; index = a.index })) ≡ without (steps v.keyed_steps) (λ m. m == node.step.id)) c.self.view_is
    (ap steps now ∙ steps_without es c.args.key node.step c.self.invariant.linked.distinct c.self.invariant.rising step)

pub returns-clause-sound : goal.returns-clause-sound
returns-clause-sound c =
    kept_sound _ _ _ _ _ _ _ _ (kept_whole _ _ _ _ _ _ _ _ (kept ((goal.at.returns-clause-sound c).After-part)))
