-- `Configuration::own_step` meets its clauses `fault` and `own` and may call `get`, by the lemmas of OwnStep.
use Rattle.std.proofs.Common.{◌≡◌, Some, refl, sym, ap, ◌∙◌}
use Rattle.std.specs.Prelude.{◌==◌}
use Rattle.std.specs.Option.{option_map}
use Rattle.mps_base.specs.declared.action.Step.{Step}
use Rattle.mps_machine.specs.Machine.{owner_fault}
use Rattle.mps_arena.specs.KeyedSteps.{KeyedStep, keyed_at}
use Rattle.mps_session.proofs.OwnStep as numbered
use Rattle.mps_session.proofs.OwnStep.{key_of}
use Rattle.mps_session.proofs.configuration.Configuration.own_step.Goals as goal
use Rattle.mps_session.proofs.configuration.Configuration.own_step.Goals.{In-Some}

at : (c : In-Some) → key_of c.args.self.now.log.keyed_steps c.args.id ≡ Some c.in-Some.key
at c = sym c.by_id.ensures.key ∙ c.in-Some.is

abbrev keyed : In-Some → KeyedStep
keyed c = numbered.keyed c.args.self.now.log.keyed_steps c.by_id.ensures.sound c.args.id c.in-Some.key (at c)

there : (c : In-Some) → keyed_at c.in-Some.key c.args.self.now.log.keyed_steps ≡ Some (keyed c)
there c = numbered.found c.args.self.now.log.keyed_steps c.by_id.ensures.sound c.args.id c.in-Some.key (at c)

step : (c : In-Some) (s : Step) → option_map (λ (e : KeyedStep). e.step) (keyed_at c.in-Some.key c.args.self.now.log.keyed_steps) ≡ Some s → (keyed c).step ≡ s
step c s is =
    let one : Some (keyed c).step ≡ Some s = sym (ap (option_map (λ (e : KeyedStep). e.step)) (there c)) ∙ is in
    cc

pub returns-in_default-clause-fault : goal.returns-in_default-clause-fault
returns-in_default-clause-fault c =
    ap (owner_fault c.args.role)
    (numbered.nothing_numbered c.args.self.now.log.keyed_steps c.args.id
    (sym c.by_id.ensures.key ∙ c.in_default.is))

pub get-requires : goal.get-requires
get-requires c = rw (there c) refl

pub returns-then-eq-clause-own : goal.returns-then-eq-clause-own
returns-then-eq-clause-own c =
    let k = (goal.at.returns-then-eq-clause-own c).In-Some in
    numbered.owned c.args.self.now.log.keyed_steps c.by_id.ensures.sound c.args.id c.in-Some.key (at k) c.args.role
    (ap (λ (s : Step). s.role == c.args.role) (step k c.get.result.now c.get.ensures) ∙ sym c.eq.ensures ∙ c.if-eq.true)

pub returns-else-eq-clause-fault : goal.returns-else-eq-clause-fault
returns-else-eq-clause-fault c =
    let k = (goal.at.returns-else-eq-clause-fault c).In-Some in
    numbered.not_owned c.args.self.now.log.keyed_steps c.by_id.ensures.sound c.args.id c.in-Some.key (at k) c.args.role
    (ap (λ (s : Step). s.role == c.args.role) (step k c.get.result.now c.get.ensures) ∙ sym c.eq.ensures ∙ c.if-eq.false)
