-- `Configuration::free_step` meets its clauses `fault` and `free` and may call `get`, by the lemmas of FreeStep and OwnStep.
use Rattle.std.proofs.Common.{◌≡◌, Some, refl, sym, ap, ◌∙◌}
use Rattle.std.specs.Option.{option_map}
use Rattle.mps_base.specs.declared.action.Step.{Step}
use Rattle.mps_history.specs.Commits.{is_commit}
use Rattle.mps_arena.specs.KeyedSteps.{KeyedStep}
use Rattle.mps_session.specs.Private.Configurations.{lists_of}
use Rattle.mps_session.proofs.FreeStep as free
use Rattle.mps_session.proofs.OwnStep as numbered
use Rattle.mps_session.proofs.configuration.Configuration.free_step.Goals as goal
use Rattle.mps_session.proofs.configuration.Configuration.free_step.Goals.{After-is_commit}

pub get-requires : goal.get-requires
get-requires c =
    let found = numbered.found c.args.self.now.log.keyed_steps c.in_ok-key.ensures.sound c.args.id c.in_ok-key.key c.in_ok-key.ensures.key in
    rw found refl

-- the step that is looked at is that of the number
same : (c : After-is_commit) → is_commit (free.x (lists_of c.args.self.now) c.in_ok-key.ensures.sound c.args.role c.args.id c.in_ok-key.key c.in_ok-key.ensures.key c.in_ok-key.ensures.own).step.act ≡ c.is_commit.result
same c =
    let es = c.args.self.now.log.keyed_steps in
    let x = numbered.keyed es c.in_ok-key.ensures.sound c.args.id c.in_ok-key.key c.in_ok-key.ensures.key in
    let found = numbered.found es c.in_ok-key.ensures.sound c.args.id c.in_ok-key.key c.in_ok-key.ensures.key in
    let one : Some x.step ≡ Some c.get.result.now = sym (ap (option_map (λ (e : KeyedStep). e.step)) found) ∙ c.get.ensures in
    let step : x.step ≡ c.get.result.now = cc in
    ap (λ (s : Step). is_commit s.act) step ∙ sym c.is_commit.ensures

pub returns-then-is_commit-clause-fault : goal.returns-then-is_commit-clause-fault
returns-then-is_commit-clause-fault c =
    free.committed (lists_of c.args.self.now) c.in_ok-key.ensures.sound c.args.role c.args.id c.in_ok-key.key c.in_ok-key.ensures.key c.in_ok-key.ensures.own
    (same ((goal.at.returns-then-is_commit-clause-fault c).After-is_commit) ∙ c.if-is_commit.true)

pub returns-in-Some-clause-fault : goal.returns-in-Some-clause-fault
returns-in-Some-clause-fault c =
    free.needed (lists_of c.args.self.now) c.in_ok-key.ensures.sound c.args.role c.args.id c.in_ok-key.key c.in_ok-key.ensures.key c.in_ok-key.ensures.own
    (same ((goal.at.returns-in-Some-clause-fault c).After-is_commit) ∙ c.if-is_commit.false) c.in-Some.by (sym c.in-Some.is ∙ c.least_dependent.ensures.least)

pub returns-in-None-clause-free : goal.returns-in-None-clause-free
returns-in-None-clause-free c =
    free.free (lists_of c.args.self.now) c.in_ok-key.ensures.sound c.args.role c.args.id c.in_ok-key.key c.in_ok-key.ensures.key c.in_ok-key.ensures.own
    (same ((goal.at.returns-in-None-clause-free c).After-is_commit) ∙ c.if-is_commit.false) (sym c.in-None.is ∙ c.least_dependent.ensures.least)
