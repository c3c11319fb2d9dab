-- `unmark` meets its clauses `keyed_steps` and `none`, keeps what holds in each turn of its loop, and may call `unmark_role`, by the lemmas of Going and Unmarking.
use Rattle.std.proofs.Common.{◌≡◌, ℕ, map, refl, sym, ap, ◌∙◌, arith}
use Rattle.mps_links.specs.Marks.{marked_keys}
use Rattle.mps_links.specs.Private.RoleMarks.{unmarked_of}
use Rattle.mps_links.proofs.Going.{none_unmarked}
use Rattle.mps_links.proofs.Unmarking.{unmarked_below, below_none, below_more, below_all, last_marked_below}
use Rattle.mps_links.proofs.marking.unmark.Goals as goal

pub loop-role-init : goal.loop-role-init
loop-role-init c = record { keyed_steps = sym (below_none c.args.arena.now.keyed_steps); issued = refl; space = refl; key = refl }

pub unmark_role-requires-clause-last : goal.unmark_role-requires-clause-last
unmark_role-requires-clause-last c =
    let es = c.args.arena.now.keyed_steps in
    rw (c.new.ensures, c.loop-role.invariant.keyed_steps) (last_marked_below es c.steps_are_sound.ensures c.requires.closed c.loop-role.role)

pub loop-role-preserved : goal.loop-role-preserved
loop-role-preserved c =
    let es = c.args.arena.now.keyed_steps in
    let i = c.loop-role.invariant in
    record {
      keyed_steps =
          c.unmark_role.ensures.keyed_steps
          ∙ ap (λ (r : ℕ). map (unmarked_of r) c.loop-role.arena.keyed_steps) c.new.ensures
          ∙ ap (map (unmarked_of c.loop-role.role)) i.keyed_steps
          ∙ below_more c.loop-role.role es;
      issued = c.unmark_role.ensures.issued ∙ i.issued;
      space = c.unmark_role.ensures.space ∙ i.space;
      key = c.unmark_role.ensures.key ∙ i.key;
    }

pub returns-clause-keyed_steps : goal.returns-clause-keyed_steps
returns-clause-keyed_steps c =
    let es = c.args.arena.now.keyed_steps in
    let end : c.loop-role.role ≡ 8 = omega arith in
    c.loop-role.invariant.keyed_steps ∙ ap (λ (r : ℕ). map (unmarked_below r) es) end ∙ below_all es c.steps_are_sound.ensures.small

pub returns-clause-none : goal.returns-clause-none
returns-clause-none c = ap marked_keys (returns-clause-keyed_steps c) ∙ none_unmarked c.args.arena.now.keyed_steps
