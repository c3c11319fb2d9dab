-- `least_final` meets its contract, keeps what holds in each turn of its loop, and may call `with_number`, by the lemmas of StepKeys and Commits.
use Rattle.std.proofs.Common.{◌≡◌, ℕ, ◌==◌, ◌&&◌, nat_lt, None, sym, ap, ◌∙◌, subst, arith}
use Rattle.std.specs.Option.{option_map}
use Rattle.std.proofs.lemmas.Bool.{and_left, le-ltb}
use Rattle.mps_arena.specs.Keys.{first_key}
use Rattle.mps_arena.specs.KeyedSteps.{keys_of}
use Rattle.mps_history.specs.Dependence.{least}
use Rattle.mps_links.specs.Private.Numbered.{key_of}
use Rattle.mps_links.specs.declared.order.NumberedKey.{NumberedKey}
use Rattle.mps_links.specs.Marks.{marked_commits}
use Rattle.mps_links.specs.Private.Order.{earlier}
use Rattle.mps_links.proofs.StepKeys.{keys_none}
use Rattle.mps_links.proofs.Commits.{is_final, first_there, next_role, least_number}
use Rattle.mps_links.proofs.finals.least_final.Goals as goal
use Rattle.mps_links.proofs.finals.least_final.Goals.{After-branch-first}

pub loop-role-init : goal.loop-role-init
loop-role-init c =
    let es = c.args.arena.now.keyed_steps in
    (sym (ap first_key (keys_none (λ s. nat_lt s.role 0 && is_final es s) es (λ t i. and_left (nat_lt t.role 0) (is_final es t) (le-ltb t.role 0 (omega arith))))), tt)

pub with_number-requires : goal.with_number-requires
with_number-requires c =
    let es = c.args.arena.now.keyed_steps in
    first_there es c.steps_are_sound.ensures (λ s. s.role == c.new.result && is_final es s) c.first_final_of-own.result c.first_final_of-own.ensures

pub loop-role-preserved : goal.loop-role-preserved
loop-role-preserved c =
    let es = c.args.arena.now.keyed_steps in
    let own : key_of c.with_number.result ≡ first_key (keys_of (λ s. s.role == c.loop-role.role && is_final es s) es) =
    subst (λ (r : ℕ). key_of c.with_number.result ≡ first_key (keys_of (λ s. s.role == r && is_final es s) es)) c.new.ensures (c.with_number.ensures.key ∙ c.first_final_of-own.ensures) in
    let both = c.earlier-first.ensures es c.loop-role.invariant.1 c.with_number.ensures.number in (
      both.0
          ∙ ap (earlier es (key_of c.loop-role.first)) own
          ∙ next_role es c.steps_are_sound.ensures (key_of c.loop-role.first) c.loop-role.role c.loop-role.invariant.0,
      both.1,
    )

found : (c : After-branch-first) → option_map (λ n. n.id) c.loop-role.first ≡ least (marked_commits c.args.arena.now.keyed_steps)
found c = least_number c.args.arena.now.keyed_steps c.steps_are_sound.ensures c.loop-role.first c.loop-role.role (omega arith) c.loop-role.invariant.0 c.loop-role.invariant.1

pub returns-in_err-first : goal.returns-in_err-first
returns-in_err-first c =
    let none : None ≡ least (marked_commits c.args.arena.now.keyed_steps) = ap (option_map (λ (n : NumberedKey). n.id)) (sym c.in_err-first.was) ∙ found ((goal.at.returns-in_err-first c).After-branch-first) in
    record { least = c.from_residual.ensures ∙ none }

pub returns : goal.returns
returns c = record { least = ap (option_map (λ (n : NumberedKey). n.id)) (sym c.in_ok-first.was) ∙ found ((goal.at.returns c).After-branch-first) }
