-- `history` keeps what holds in each turn of its loop.
use Rattle.std.proofs.Common.{ℕ, List, length, map, sym, ap, ◌∙◌, subst, ◌++◌}
use Rattle.std.specs.List.{AllByRecursion}
use Rattle.std.specs.Prelude.{Option}
use Rattle.mps_base.specs.declared.action.Message.{Message}
use Rattle.mps_base.specs.declared.action.Step.{Step}
use Rattle.mps_session.specs.Peers.{IsKnown}
use Rattle.mps_show.specs.Shown.{step_shown}
use Rattle.serde_json.specs.View.{view}
use Rattle.serde_json.specs.declared.value.Value.{Value as Json}
use Rattle.mps_show.proofs.json_state.history.Goals as goal

pub loop-moved-init : goal.loop-moved-init
loop-moved-init c =
    let names = c.args.names.now in
    record {
      rows = ap (λ (l : List Json). map view l ++ map (step_shown names) c.into_iter-moved-iterator.result) c.in_ok-rows.ensures.items
          ∙ ap (map (step_shown names)) (c.into_iter-moved-iterator.ensures.into_iter_gives ∙ c.moves-moved-items.ensures.moves);
      known = subst (λ (l : List (Step × Option Message)). AllByRecursion (λ m. IsKnown (length names) m.0) l) (sym c.into_iter-moved-iterator.ensures.into_iter_gives)
          (subst (λ (n : ℕ). AllByRecursion (λ m. IsKnown n m.0) c.moves-moved-items.result) (sym c.requires) c.moves-moved-items.ensures.known);
    }
