-- `Configuration::first_after` meets its contract and may call `get`, by the lemmas of AfterLastMark.
use Rattle.std.proofs.Common.{◌≡◌, ℕ, Option, None, Some, sym, ap, ◌∙◌}
use Rattle.std.specs.Option.{option_map, option_and_then}
use Rattle.mps_base.specs.declared.action.Step.{Step}
use Rattle.mps_arena.specs.KeyedSteps.{KeyedStep, keyed_at}
use Rattle.mps_arena.specs.Neighbours.{id_in}
use Rattle.mps_links.proofs.Present.{next_there}
use Rattle.mps_session.specs.Private.FirstNumber.{first_number}
use Rattle.mps_session.proofs.AfterLastMark as behind
use Rattle.mps_session.proofs.configuration.Configuration.first_after.Goals as goal
use Rattle.mps_session.proofs.configuration.Configuration.first_after.Goals.{After-next_of_role}

pub returns-in_err-mark : goal.returns-in_err-mark
returns-in_err-mark c =
    let none = sym c.last_mark.ensures ∙ c.in_err-mark.was in
    c.from_residual.ensures ∙ ap (option_map first_number) (sym (behind.no_mark c.args.name.now c.args.role c.args.self.now.log.keyed_steps none))

-- the number of the role's next step after the mark
next : (c : After-next_of_role) → option_map first_number (behind.since c.args.name.now c.args.role c.args.self.now.log.keyed_steps) ≡ Some (option_and_then (id_in c.args.self.now.log.keyed_steps) c.next_of_role.result)
next c =
    let es = c.args.self.now.log.keyed_steps in
    behind.after_mark c.args.name.now c.args.role es c.in_ok-mark.mark c.next_of_role.ensures.sound (sym c.last_mark.ensures ∙ c.in_ok-mark.was)
    ∙ ap (λ (o : Option ℕ). Some (option_and_then (id_in es) o)) (sym c.next_of_role.ensures.next)

pub returns-in_default : goal.returns-in_default
returns-in_default c =
    let k = (goal.at.returns-in_default c).After-next_of_role in
    sym (next k ∙ ap (λ (o : Option ℕ). Some (option_and_then (id_in c.args.self.now.log.keyed_steps) o)) c.in_default.is)

pub get-requires : goal.get-requires
get-requires c =
    next_there c.args.self.now.log.keyed_steps c.in_ok-mark.mark c.in-Some.next (sym c.next_of_role.ensures.next ∙ c.in-Some.is)

-- the number of the step that a keyed step has
number_of : (o : Option KeyedStep) (s : Step) → option_map (λ e. e.step) o ≡ Some s → option_map (λ e. e.step.id) o ≡ Some s.id
number_of None s is = absurd cc
number_of (Some e) s is = ap (option_map (λ (t : Step). t.id)) is

pub returns : goal.returns
returns c =
    let k = (goal.at.returns c).After-next_of_role in
    let es = c.args.self.now.log.keyed_steps in
    sym (next k ∙ ap (λ (o : Option ℕ). Some (option_and_then (id_in es) o)) c.in-Some.is ∙ ap Some (number_of (keyed_at c.in-Some.next es) c.get.result.now c.get.ensures))
