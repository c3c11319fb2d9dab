-- `newest_if_marked` meets its contract and may call `marked`.
use Rattle.std.proofs.Common.{◌≡◌, Some, sym, ap, ◌∙◌, subst, arith}
use Rattle.std.specs.Prelude.{IsSome}
use Rattle.std.specs.Option.{option_map}
use Rattle.mps_arena.specs.KeyedSteps.{KeyedStep, any_step, keyed_at}
use Rattle.mps_links.proofs.Firsts.{keyed_in}
use Rattle.mps_links.proofs.Lasts.{IsLast, last_is}
use Rattle.mps_links.proofs.Newest.{newest_of_all}
use Rattle.mps_links.proofs.marking.newest_if_marked.Goals as goal
use Rattle.mps_links.proofs.marking.newest_if_marked.Goals.{After-steps_are_sound}

last : (c : After-steps_are_sound) → IsLast any_step c.args.arena.now.keyed_steps c.in_ok-key.key
last c = last_is any_step c.args.arena.now.keyed_steps c.in_ok-key.key (sym c.last.ensures ∙ c.in_ok-key.was)

found : (c : After-steps_are_sound) → keyed_at c.in_ok-key.key c.args.arena.now.keyed_steps ≡ Some (last c).keyed
found c = grind (arith, last, keyed_in)

pub marked-requires : goal.marked-requires
marked-requires c = subst IsSome (sym (found ((goal.at.marked-requires c).After-steps_are_sound))) cc

pub returns : goal.returns
returns c =
    let es = c.args.arena.now.keyed_steps in
    let w = last ((goal.at.returns c).After-steps_are_sound) in
    let is : Some w.keyed.marked ≡ Some c.marked.result = ap (option_map (λ (e : KeyedStep). e.marked)) (sym (found ((goal.at.returns c).After-steps_are_sound))) ∙ c.marked.ensures in
    let m : w.keyed.marked ≡ c.marked.result = cc in
    newest_of_all es c.steps_are_sound.ensures w.before w.behind w.keyed w.parts w.none (m ∙ c.if-not-marked.false) ∙ ap Some w.key
