-- `first_final_of` meets its contract, keeps what holds in each turn of its loop, and may call `marked`, by the lemmas of Commits.
use Rattle.std.proofs.Common.{arith, ◌≡◌, Some, sym, ◌∙◌, subst}
use Rattle.std.specs.Prelude.{IsSome}
use Rattle.std.specs.Option.{option_map}
use Rattle.mps_arena.specs.KeyedSteps.{KeyedStep, keyed_at}
use Rattle.mps_links.proofs.Commits.{last, search_at, search_goes, ends_at_first, ends_unmarked}
use Rattle.mps_links.proofs.finals.first_final_of.Goals as goal
use Rattle.mps_links.proofs.finals.first_final_of.Goals.{After-steps_are_sound}

found : (c : After-steps_are_sound) → keyed_at c.in-Some.key c.args.arena.now.keyed_steps ≡ Some (last c.args.arena.now.keyed_steps c.args.role _ _ _ c.loop.invariant.search c.in-Some.key c.in-Some.is c.steps_are_sound.ensures).keyed
found c = search_at c.args.arena.now.keyed_steps c.args.role _ _ _ c.loop.invariant.search c.in-Some.key c.in-Some.is c.steps_are_sound.ensures

is_marked : (c : After-steps_are_sound) (m : _) → option_map (λ (e : KeyedStep). e.marked) (keyed_at c.in-Some.key c.args.arena.now.keyed_steps) ≡ Some m → (last c.args.arena.now.keyed_steps c.args.role _ _ _ c.loop.invariant.search c.in-Some.key c.in-Some.is c.steps_are_sound.ensures).keyed.marked ≡ m
is_marked c m e = grind (arith, last, found)

pub returns-in_default : goal.returns-in_default
returns-in_default c = ends_at_first c.args.arena.now.keyed_steps c.args.role _ _ _ c.loop.invariant.search c.in_default.is

pub marked-requires : goal.marked-requires
marked-requires c = subst IsSome (sym (found ((goal.at.marked-requires c).After-steps_are_sound))) cc

pub returns-then-not-marked : goal.returns-then-not-marked
returns-then-not-marked c =
    let off = is_marked ((goal.at.returns-then-not-marked c).After-steps_are_sound) c.marked.result c.marked.ensures ∙ c.if-not-marked.true in
    ends_unmarked c.args.arena.now.keyed_steps c.args.role _ _ _ c.loop.invariant.search c.in-Some.key c.in-Some.is c.steps_are_sound.ensures c.requires.closed off

pub loop-preserved : goal.loop-preserved
loop-preserved c =
    let es = c.args.arena.now.keyed_steps in
    let at = (goal.at.loop-preserved c).After-steps_are_sound in
    let on = is_marked at c.marked.result c.marked.ensures ∙ c.if-not-marked.false in
    let x = (last es c.args.role _ _ _ c.loop.invariant.search c.in-Some.key c.in-Some.is c.steps_are_sound.ensures).keyed in
    record {
      search = rw (c.prev_of_role-at.ensures, c.commit_or-first.ensures x (found at)) (search_goes es c.args.role _ _ _ c.loop.invariant.search c.in-Some.key c.in-Some.is c.steps_are_sound.ensures on);
      end = c.loop.invariant.end;
    }
