-- `Arena::by_id` meets its contract, by the lemmas of Numbers.
use Rattle.std.proofs.Common.{List, ℕ, ap, ◌∙◌}
use Rattle.std.specs.Prelude.{◌==◌}
use Rattle.std.specs.List.{find}
use Rattle.std.specs.Option.{option_map}
use Rattle.slab.specs.Slab.{get, slab_len}
use Rattle.mps_arena.specs.KeyedSteps.{ArenaState}
use Rattle.mps_arena.specs.Private.Links.{indexed_key}
use Rattle.mps_arena.specs.Private.Views.{keyed_steps_of}
use Rattle.mps_arena.proofs.Numbers.{number_leads}
use Rattle.mps_arena.proofs.arena.Arena.by_id.Goals as goal

pub returns : goal.returns
returns c =
    let a = c.self.inside in
    c.key_of.ensures
    ∙ ap (λ (l : List ℕ). indexed_key (get a.nodes) l c.args.id) c.as_slice.ensures.value
    ∙ number_leads (get a.nodes) (slab_len a.nodes) a.ends.first a.ends.last a.ends.last_of a.ends.last_send a.index.items (keyed_steps_of a) c.self.invariant c.args.id
    ∙ ap (λ (v : ArenaState). option_map (λ e. e.key) (find (λ e. e.step.id == c.args.id) v.keyed_steps)) c.self.view_is
