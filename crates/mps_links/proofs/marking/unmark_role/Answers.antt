-- `unmark_role` meets its clause `keyed_steps`, keeps what holds in each turn of its loop, and may call `marked`, by the lemmas of Unmarking.
use Rattle.std.proofs.Common.{◌≡◌, false, Some, sym, ap, ◌∙◌, subst, arith}
use Rattle.std.specs.Prelude.{IsSome}
use Rattle.std.specs.Option.{option_map}
use Rattle.mps_arena.specs.KeyedSteps.{KeyedStep, keyed_at}
use Rattle.mps_links.proofs.Unmarking.{last, walk_at, walk_goes, ends_at_first, ends_by_count, ends_unmarked}
use Rattle.mps_links.proofs.marking.unmark_role.Goals as goal
use Rattle.mps_links.proofs.marking.unmark_role.Goals.{After-steps_are_sound}

found : (c : After-steps_are_sound) → keyed_at c.in-Some.key c.loop.arena.keyed_steps ≡ Some (last c.args.role _ _ _ _ c.loop.invariant.walk c.in-Some.key c.in-Some.is).keyed
found c = walk_at c.args.role _ _ _ _ c.loop.invariant.walk c.in-Some.key c.in-Some.is c.steps_are_sound.ensures

pub marked-requires : goal.marked-requires
marked-requires c = subst IsSome (sym (found ((goal.at.marked-requires c).After-steps_are_sound))) cc

pub returns-in_default-clause-keyed_steps : goal.returns-in_default-clause-keyed_steps
returns-in_default-clause-keyed_steps c = ends_at_first c.args.role _ _ _ _ c.loop.invariant.walk c.in_default.is

pub returns-then-not-marked-clause-keyed_steps : goal.returns-then-not-marked-clause-keyed_steps
returns-then-not-marked-clause-keyed_steps c =
    let w = c.loop.invariant.walk in
    let x = (last c.args.role _ _ _ _ w c.in-Some.key c.in-Some.is).keyed in
    let is : Some x.marked ≡ Some c.marked.result = ap (option_map (λ (e : KeyedStep). e.marked)) (sym (found ((goal.at.returns-then-not-marked-clause-keyed_steps c).After-steps_are_sound))) ∙ c.marked.ensures in
    let off : x.marked ≡ false = cc in
    ends_unmarked c.args.role _ _ _ _ w c.in-Some.key c.in-Some.is c.requires.last off

pub loop-preserved : goal.loop-preserved
loop-preserved c =
    let i = c.loop.invariant in
    let set = c.set_mark.ensures in
    record {
      walk = rw (set.keyed_steps, c.prev_of_role-at.ensures) (walk_goes c.args.role _ _ _ _ i.walk c.in-Some.key c.in-Some.is c.steps_are_sound.ensures);
      end = i.end;
      issued = set.issued ∙ i.issued;
      space = set.space ∙ i.space;
      key = set.key ∙ i.key;
    }

pub returns-clause-keyed_steps : goal.returns-clause-keyed_steps
returns-clause-keyed_steps c =
    ends_by_count c.args.role _ _ _ _ c.loop.invariant.walk (omega arith)
