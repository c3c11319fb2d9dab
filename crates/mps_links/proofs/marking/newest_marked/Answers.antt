-- `newest_marked` meets its clauses `newest`, `free` and `none` and keeps what holds in each turn of its loop.
use Rattle.std.proofs.Common.{◌≡◌, ℕ, ◌==◌, ◌&&◌, nat_lt, None, sym, ap, ◌∙◌, subst, arith}
use Rattle.std.proofs.lemmas.Bool.{and_left, le-ltb}
use Rattle.mps_arena.specs.Keys.{last_key}
use Rattle.mps_arena.specs.KeyedSteps.{keys_of}
use Rattle.mps_arena.specs.Neighbours.{CanGo}
use Rattle.mps_links.specs.Private.Numbered.{key_of}
use Rattle.mps_links.specs.Private.Order.{later}
use Rattle.mps_links.specs.Marks.{marked_keys, is_marked}
use Rattle.mps_links.proofs.StepKeys.{keys_none}
use Rattle.mps_links.proofs.Present.{if_some}
use Rattle.mps_links.proofs.Lasts.{nothing_last}
use Rattle.mps_links.proofs.Newest.{next_role, all_roles, newest_can_go}
use Rattle.mps_links.proofs.marking.newest_marked.Goals as goal

pub loop-role-init : goal.loop-role-init
loop-role-init c =
    let es = c.args.arena.now.keyed_steps in
    (sym (ap (last_key None) (keys_none (λ s. nat_lt s.role 0 && is_marked es s.id) es (λ t i. and_left (nat_lt t.role 0) (is_marked es t.id) (le-ltb t.role 0 (omega arith))))), tt)

pub loop-role-preserved : goal.loop-role-preserved
loop-role-preserved c =
    let es = c.args.arena.now.keyed_steps in
    let own : key_of c.newest_marked_of.result ≡ last_key None (keys_of (λ s. s.role == c.loop-role.role && is_marked es s.id) es) =
    subst (λ (r : ℕ). key_of c.newest_marked_of.result ≡ last_key None (keys_of (λ s. s.role == r && is_marked es s.id) es)) c.new.ensures c.newest_marked_of.ensures.newest in
    let both = c.later-newest.ensures es c.loop-role.invariant.1 c.newest_marked_of.ensures.number in (
      both.0
          ∙ ap (later es (key_of c.loop-role.newest)) own
          ∙ next_role es c.steps_are_sound.ensures c.requires.closed (key_of c.loop-role.newest) c.loop-role.role c.loop-role.invariant.0,
      both.1,
    )

pub returns-clause-newest : goal.returns-clause-newest
returns-clause-newest c =
    let es = c.args.arena.now.keyed_steps in
    let end : c.loop-role.role ≡ 8 = omega arith in
    c.key_of.ensures
    ∙ c.loop-role.invariant.0
    ∙ ap (λ (r : ℕ). last_key None (keys_of (λ s. nat_lt s.role r && is_marked es s.id) es)) end
    ∙ all_roles es c.steps_are_sound.ensures c.requires.closed

pub returns-clause-free : goal.returns-clause-free
returns-clause-free c =
    let es = c.args.arena.now.keyed_steps in
    if_some (CanGo es) c.key_of.result
    (λ k e. newest_can_go es c.steps_are_sound.ensures c.requires.closed k (sym (returns-clause-newest c) ∙ e))

pub returns-clause-none : goal.returns-clause-none
returns-clause-none c none = nothing_last (marked_keys c.args.arena.now.keyed_steps) (sym (returns-clause-newest c) ∙ none)

pub returns-in-Some-clause-free : goal.returns-in-Some-clause-free
returns-in-Some-clause-free c =
    newest_can_go c.args.arena.now.keyed_steps c.steps_are_sound.ensures c.requires.closed c.in-Some.key c.in-Some.ensures
