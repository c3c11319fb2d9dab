-- `Configuration::take_back` meets its clauses `numbers`, `history`, `holds`, `unmarked` and `err` and may call `remove_chosen` and `with_copy`, by the lemmas of TypeAt and RemoveMarked.
use Rattle.std.proofs.Common.{◌≡◌, ◌++◌, ◌<◌, ℕ, Bool, List, length, map, sym, ap, ◌∙◌, subst, arith}
use mathlib.Core.Path.{ap₂}
use Rattle.std.specs.Prelude.{reverse}
use Rattle.std.specs.List.{AllByRecursion}
use Rattle.mps_base.specs.declared.action.Step.{Step}
use Rattle.mps_history.specs.Dependence.{consequences}
use Rattle.mps_history.specs.Steps.{numbers, within}
use Rattle.mps_arena.specs.KeyedSteps.{KeyedStep, steps}
use Rattle.mps_links.specs.Marks.{marked_keys, marked_steps, unmarked_steps, unmarked}
use Rattle.mps_links.proofs.Going.{unmarked_left, marked_count, marked_within}
use Rattle.mps_log.proofs.Remarked.{all_again}
use Rattle.mps_session.specs.Private.Configurations.{Lists, lists_of}
use Rattle.mps_session.specs.Private.Invariant.{Holds}
use Rattle.std.proofs.lemmas.List.{length-reverse}
use Rattle.mps_session.proofs.TypeAt.{length_map}
use Rattle.mps_session.proofs.RemoveMarked as rolling
use Rattle.mps_session.proofs.configuration.Configuration.take_back.Goals as goal
use Rattle.mps_session.proofs.configuration.Configuration.take_back.Goals.{After-choose_from-count, After-remove_chosen, After-choose_none}

-- what is marked
abbrev set : After-choose_from-count → ℕ → Bool
set c = consequences (steps c.args.self.now.log.keyed_steps) c.args.id

abbrev marks : After-choose_from-count → KeyedStep → Bool
marks c e = set c e.step.id

pub remove_chosen-requires-clause-members : goal.remove_chosen-requires-clause-members
remove_chosen-requires-clause-members c =
    let k = (goal.at.remove_chosen-requires-clause-members c).After-choose_from-count in
    let n = length c.args.self.now.cursors.items in
    subst (AllByRecursion (λ (e : KeyedStep). e.step.role < n)) (sym c.choose_from-count.ensures.marks) (all_again (marks k) (λ s. s.role < n) c.args.self.now.log.keyed_steps c.requires.members)

pub remove_chosen-requires-clause-space : goal.remove_chosen-requires-clause-space
remove_chosen-requires-clause-space c =
    let k = (goal.at.remove_chosen-requires-clause-space c).After-choose_from-count in
    let marked = ap (λ (l : List KeyedStep). length (marked_keys l)) c.choose_from-count.ensures.marks ∙ marked_count c.args.self.now.log.keyed_steps (set k) in
    omega (arith, marked, c.choose_from-count.ensures.count, c.in-Ok.ensures.none, c.in-Ok.ensures.first_space)

-- the numbers that were told
all : (c : After-remove_chosen) → c.remove_chosen.new.ids.items ≡ reverse (numbers (within (steps c.args.self.now.log.keyed_steps) (consequences (steps c.args.self.now.log.keyed_steps) c.args.id)))
all c =
    c.remove_chosen.ensures.numbers
    ∙ ap₂ (λ (ids : List ℕ) (h : List Step). ids ++ reverse (numbers h)) c.in-Ok.ensures.first
    (ap marked_steps c.choose_from-count.ensures.marks ∙ marked_within c.args.self.now.log.keyed_steps (consequences (steps c.args.self.now.log.keyed_steps) c.args.id))

pub with_copy-requires-clause-space : goal.with_copy-requires-clause-space
with_copy-requires-clause-space c =
    let k = (goal.at.with_copy-requires-clause-space c).After-remove_chosen in
    let gone = within (steps c.args.self.now.log.keyed_steps) (consequences (steps c.args.self.now.log.keyed_steps) c.args.id) in
    let long = ap (λ (l : List ℕ). length l) (all k) ∙ length-reverse (numbers gone) ∙ length_map (λ (s : Step). s.id) gone in
    omega (arith, c.in-Ok.ensures.copy_space, long, c.remove_chosen.new.ids.ok.0, c.choose_from-count.ensures.count)

pub returns-in-Ok-clause-numbers : goal.returns-in-Ok-clause-numbers
returns-in-Ok-clause-numbers c = c.with_copy.ensures.first ∙ all ((goal.at.returns-in-Ok-clause-numbers c).After-remove_chosen)

pub returns-in-Ok-clause-history : goal.returns-in-Ok-clause-history
returns-in-Ok-clause-history c =
    let k = (goal.at.returns-in-Ok-clause-history c).After-choose_from-count in
    c.remove_chosen.ensures.history ∙ ap unmarked_steps c.choose_from-count.ensures.marks ∙ unmarked_left c.args.self.now.log.keyed_steps (set k)

pub returns-in-Ok-clause-holds : goal.returns-in-Ok-clause-holds
returns-in-Ok-clause-holds c types holds =
    let k = (goal.at.returns-in-Ok-clause-holds c).After-choose_from-count in
    c.remove_chosen.ensures.holds types
    (rolling.again_holds_as types (lists_of c.args.self.now) (marks k) holds c.choose_from-count.new.self.keyed_steps c.choose_from-count.new.self.issued c.choose_from-count.ensures.marks c.choose_from-count.ensures.issued)

-- where memory runs out all is as it was
keyed_steps : (c : After-choose_none) → c.choose_none.new.self.keyed_steps ≡ c.args.self.now.log.keyed_steps
keyed_steps c =
    c.choose_none.ensures.keyed_steps ∙ ap (map unmarked) c.choose_from-count.ensures.marks
    ∙ rolling.unmarked_again c.args.self.now.log.keyed_steps (consequences (steps c.args.self.now.log.keyed_steps) c.args.id) c.requires.unmarked

same : (c : After-choose_none) → ◌≡◌ {A = Lists} (record { cursors = c.args.self.now.cursors.items; keyed_steps = c.choose_none.new.self.keyed_steps; issued = c.choose_none.new.self.issued }) (lists_of c.args.self.now)
same c =
    ap₂ (λ (l : List KeyedStep) (i : ℕ). let d : Lists = record { cursors = c.args.self.now.cursors.items; keyed_steps = l; issued = i } in d) (keyed_steps c) (c.choose_none.ensures.issued ∙ c.choose_from-count.ensures.issued)

pub returns-in-Err-clause-unmarked : goal.returns-in-Err-clause-unmarked
returns-in-Err-clause-unmarked c = ap marked_keys (keyed_steps ((goal.at.returns-in-Err-clause-unmarked c).After-choose_none)) ∙ c.requires.unmarked

pub returns-in-Err-clause-holds : goal.returns-in-Err-clause-holds
returns-in-Err-clause-holds c types holds = subst (Holds types) (sym (same ((goal.at.returns-in-Err-clause-holds c).After-choose_none))) holds

pub returns-in-Err-clause-err : goal.returns-in-Err-clause-err
returns-in-Err-clause-err c = same ((goal.at.returns-in-Err-clause-err c).After-choose_none)
