-- `least_dependent` meets its clauses `least` and `free` and may call `with_number`.
use Rattle.std.proofs.Common.{arith, ◌≡◌, ℕ, append_assoc, Some, None, sym, ap, ◌∙◌, subst}
use Rattle.std.specs.Prelude.{◌==◌, IsSome}
use Rattle.std.specs.List.{find}
use Rattle.std.specs.Option.{option_map, option_and_then}
use Rattle.mps_history.specs.Dependence.{least, dependents}
use Rattle.mps_arena.specs.KeyedSteps.{steps, keyed_at}
use Rattle.mps_arena.specs.Neighbours.{id_in, next_of_role_in, receipt_in, CanGo}
use Rattle.mps_links.specs.Private.Numbered.{key_of, HasNumber}
use Rattle.mps_links.specs.Private.Order.{earlier}
use Rattle.mps_links.proofs.Numbers.{IsNumbered, numbered}
use Rattle.mps_links.proofs.Firsts.{first_numbered}
use Rattle.mps_links.proofs.Present.{if_some, next_there, receipt_there}
use Rattle.mps_links.proofs.Links.{least_by_links, first_dependent, alone_can_go}
use Rattle.mps_links.proofs.dependent.least_dependent.Goals as goal
use Rattle.mps_links.proofs.dependent.least_dependent.Goals.{After-earlier}

step : (c : After-earlier) → IsNumbered c.args.arena.now.keyed_steps c.args.id
step c = numbered c.args.arena.now.keyed_steps c.args.id c.requires.present

key : (c : After-earlier) → c.in_ok-key.key ≡ (step c).keyed.key
key c =
    let one : Some c.in_ok-key.key ≡ Some (step c).keyed.key = sym c.in_ok-key.was ∙ c.by_id.ensures ∙ (step c).key in
    cc

-- the first step that depends on this one
first : (c : After-earlier) → key_of c.earlier.result ≡ earlier c.args.arena.now.keyed_steps (next_of_role_in c.args.arena.now.keyed_steps (step c).keyed.key) (receipt_in c.args.arena.now.keyed_steps (step c).keyed.key)
first c = grind (arith, key)

least_is : (c : After-earlier) → least (dependents (steps c.args.arena.now.keyed_steps) c.args.id) ≡ option_and_then (id_in c.args.arena.now.keyed_steps) (key_of c.earlier.result)
least_is c = grind (arith, step, least_by_links, first)

alone : (c : After-earlier) → option_and_then (id_in c.args.arena.now.keyed_steps) (key_of c.earlier.result) ≡ None → (k : ℕ) → option_map (λ e. e.key) (find (λ e. e.step.id == c.args.id) c.args.arena.now.keyed_steps) ≡ Some k → CanGo c.args.arena.now.keyed_steps k
alone c none k at = grind (arith, step, append_assoc, first_dependent, first, first_numbered, alone_can_go)

-- the step is there
pub returns-in_err-key-clause-least : goal.returns-in_err-key-clause-least
returns-in_err-key-clause-least c =
    let s = numbered c.args.arena.now.keyed_steps c.args.id c.requires.present in
    let no : None ≡ Some s.keyed.key = sym c.in_err-key.was ∙ c.by_id.ensures ∙ s.key in
    absurd cc

pub with_number-next-requires : goal.with_number-next-requires
with_number-next-requires c =
    let es = c.args.arena.now.keyed_steps in
    if_some (λ k. IsSome (keyed_at k es)) c.next_of_role.result (λ j e. next_there es c.in_ok-key.key j (sym c.next_of_role.ensures ∙ e))

pub with_number-receipt-requires : goal.with_number-receipt-requires
with_number-receipt-requires c =
    let es = c.args.arena.now.keyed_steps in
    if_some (λ k. IsSome (keyed_at k es)) c.receipt.result (λ j e. receipt_there es c.in_ok-key.key j (sym c.receipt.ensures ∙ e))

-- the number of the first, if there is one
told : (c : After-earlier) → HasNumber c.args.arena.now.keyed_steps c.earlier.result
told c = (c.earlier.ensures c.args.arena.now.keyed_steps c.with_number-next.ensures.number c.with_number-receipt.ensures.number).1

pub returns-in_err-first-clause-least : goal.returns-in_err-first-clause-least
returns-in_err-first-clause-least c =
    let is = least_is ((goal.at.returns-in_err-first-clause-least c).After-earlier) in
    c.from_residual-in_err-first.ensures ∙ sym (is ∙ ap (λ o. option_and_then (id_in c.args.arena.now.keyed_steps) (key_of o)) c.in_err-first.was)

pub returns-in_err-first-clause-free : goal.returns-in_err-first-clause-free
returns-in_err-first-clause-free c none =
    alone ((goal.at.returns-in_err-first-clause-free c).After-earlier) (ap (λ o. option_and_then (id_in c.args.arena.now.keyed_steps) (key_of o)) c.in_err-first.was)

pub returns-clause-least : goal.returns-clause-least
returns-clause-least c =
    let at = (goal.at.returns-clause-least c).After-earlier in
    let es = c.args.arena.now.keyed_steps in
    let number : id_in es c.in_ok-first.first.key ≡ Some c.in_ok-first.first.id = subst (HasNumber es) c.in_ok-first.was (told at) in
    sym (least_is at ∙ ap (λ o. option_and_then (id_in es) (key_of o)) c.in_ok-first.was ∙ number)
