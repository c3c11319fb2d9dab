-- `role_at` meets its clause `small`, by the lemmas of Present.
use Rattle.std.proofs.Common.{◌≡◌, ◌<◌, ℕ, Some, sym, ap, ◌∙◌, subst}
use Rattle.std.specs.Option.{option_map}
use Rattle.mps_base.specs.declared.action.Step.{Step}
use Rattle.mps_arena.specs.KeyedSteps.{KeyedStep}
use Rattle.mps_links.proofs.Present.{there, small_at}
use Rattle.mps_links.proofs.pending.role_at.Goals as goal

pub returns-clause-small : goal.returns-clause-small
returns-clause-small c =
    let es = c.args.arena.now.keyed_steps in
    let w = there c.args.key es c.requires in
    let one : Some w.0.step ≡ Some c.get.result.now = ap (option_map (λ (e : KeyedStep). e.step)) (sym w.1) ∙ c.get.ensures in
    let same : w.0.step ≡ c.get.result.now = cc in
    subst (λ (n : ℕ). n < 8) (ap (λ (s : Step). s.role) same ∙ sym c.index.ensures.place) (small_at c.args.key es w.0 c.steps_are_sound.ensures.small w.1)
