-- `Configuration::unless_final` meets its clause `kept`, by the lemmas of RemoveMarked.
use Rattle.std.proofs.Common.{◌≡◌, ℕ, List, map, ap, ◌∙◌}
use mathlib.Core.Path.{ap₂}
use Rattle.mps_history.specs.Dependence.{consequences}
use Rattle.mps_arena.specs.KeyedSteps.{KeyedStep, steps}
use Rattle.mps_links.specs.Marks.{unmarked}
use Rattle.mps_session.specs.Private.Configurations.{Lists, lists_of}
use Rattle.mps_session.proofs.RemoveMarked as rolling
use Rattle.mps_session.proofs.configuration.Configuration.unless_final.Goals as goal
use Rattle.mps_session.proofs.configuration.Configuration.unless_final.Goals.{After-choose_none}

-- the marks that were put on are taken off
same : (c : After-choose_none) → ◌≡◌ {A = Lists} (record { cursors = c.args.self.now.cursors.items; keyed_steps = c.choose_none.new.self.keyed_steps; issued = c.choose_none.new.self.issued }) (lists_of c.args.self.now)
same c =
    ap₂ (λ (l : List KeyedStep) (i : ℕ). let d : Lists = record { cursors = c.args.self.now.cursors.items; keyed_steps = l; issued = i } in d)
    (c.choose_none.ensures.keyed_steps ∙ ap (map unmarked) c.choose_from.ensures.marks
    ∙ rolling.unmarked_again c.args.self.now.log.keyed_steps (consequences (steps c.args.self.now.log.keyed_steps) c.args.id) c.requires.unmarked)
    (c.choose_none.ensures.issued ∙ c.choose_from.ensures.issued)

pub returns-in-Some-clause-kept : goal.returns-in-Some-clause-kept
returns-in-Some-clause-kept c = same ((goal.at.returns-in-Some-clause-kept c).After-choose_none)

pub returns-in-None-clause-kept : goal.returns-in-None-clause-kept
returns-in-None-clause-kept c = same ((goal.at.returns-in-None-clause-kept c).After-choose_none)
