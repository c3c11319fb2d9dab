-- `newest_marked_of` meets its clause `newest` and may call `marked`.
use Rattle.std.proofs.Common.{arith, ◌≡◌, ◌==◌, ◌&&◌, Some, None, sym, ap, ◌∙◌, subst}
use Rattle.std.specs.Prelude.{IsSome}
use Rattle.std.specs.Option.{option_map}
use Rattle.std.proofs.lemmas.Bool.{and_left}
use Rattle.mps_arena.specs.Keys.{last_key}
use Rattle.mps_arena.specs.KeyedSteps.{KeyedStep, of_role, keyed_at, keys_of}
use Rattle.mps_links.specs.Private.Numbered.{key_of}
use Rattle.mps_links.specs.Marks.{is_marked}
use Rattle.mps_links.proofs.StepKeys.{keys_none, none_passes}
use Rattle.mps_links.proofs.Firsts.{keyed_in}
use Rattle.mps_links.proofs.Lasts.{IsLast, last_is, nothing_last}
use Rattle.mps_links.proofs.Newest.{last_marked, none_marked}
use Rattle.mps_links.proofs.marking.newest_marked_of.Goals as goal
use Rattle.mps_links.proofs.marking.newest_marked_of.Goals.{After-steps_are_sound}

last : (c : After-steps_are_sound) → IsLast (of_role c.args.role) c.args.arena.now.keyed_steps c.in_ok-key.key
last c = last_is (of_role c.args.role) c.args.arena.now.keyed_steps c.in_ok-key.key (sym c.last_of.ensures ∙ c.in_ok-key.was)

found : (c : After-steps_are_sound) → keyed_at c.in_ok-key.key c.args.arena.now.keyed_steps ≡ Some (last c).keyed
found c = grind (arith, last, keyed_in)

pub returns-in_err-key-clause-newest : goal.returns-in_err-key-clause-newest
returns-in_err-key-clause-newest c =
    let es = c.args.arena.now.keyed_steps in
    let p = c.args.role in
    let none = nothing_last (keys_of (of_role p) es) (sym c.last_of.ensures ∙ c.in_err-key.was) in
    ap key_of c.from_residual.ensures
    ∙ sym (ap (last_key None) (keys_none (λ s. s.role == p && is_marked es s.id) es (λ t i. and_left (t.role == p) (is_marked es t.id) (none_passes (of_role p) es t none i))))

pub marked-requires : goal.marked-requires
marked-requires c = subst IsSome (sym (found ((goal.at.marked-requires c).After-steps_are_sound))) cc

pub returns-clause-newest : goal.returns-clause-newest
returns-clause-newest c =
    let es = c.args.arena.now.keyed_steps in
    let w = last ((goal.at.returns-clause-newest c).After-steps_are_sound) in
    let is : Some w.keyed.marked ≡ Some c.marked.result = ap (option_map (λ (e : KeyedStep). e.marked)) (sym (found ((goal.at.returns-clause-newest c).After-steps_are_sound))) ∙ c.marked.ensures in
    let m : w.keyed.marked ≡ c.marked.result = cc in
    c.with_number.ensures.key
    ∙ ap Some (sym w.key)
    ∙ sym (last_marked es c.steps_are_sound.ensures c.requires.closed c.args.role w.before w.behind w.keyed w.parts w.passes w.none (m ∙ c.if-not-marked.false))

pub returns-then-not-marked-clause-newest : goal.returns-then-not-marked-clause-newest
returns-then-not-marked-clause-newest c =
    let es = c.args.arena.now.keyed_steps in
    let w = last ((goal.at.returns-then-not-marked-clause-newest c).After-steps_are_sound) in
    let is : Some w.keyed.marked ≡ Some c.marked.result = ap (option_map (λ (e : KeyedStep). e.marked)) (sym (found ((goal.at.returns-then-not-marked-clause-newest c).After-steps_are_sound))) ∙ c.marked.ensures in
    let m : w.keyed.marked ≡ c.marked.result = cc in
    sym (ap (last_key None) (none_marked es c.steps_are_sound.ensures c.requires.closed c.args.role w.before w.behind w.keyed w.parts w.passes w.none (m ∙ c.if-not-marked.true)))
