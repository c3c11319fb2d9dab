-- `Log::step` meets its contract and may call `get`, by the lemmas of Waiting.
use Rattle.std.proofs.Common.{ℕ, [], Option, refl, sym, ap, ◌∙◌, eq-eqb}
use Rattle.std.specs.Prelude.{slice_get}
use Rattle.std.specs.Option.{option_and_then, option_map}
use Rattle.mps_arena.specs.Keys.{is_at}
use Rattle.mps_arena.specs.KeyedSteps.{KeyedStep, steps, keys_of, any_step, keyed_at}
use Rattle.mps_arena.proofs.KeyLists.{get_in}
use Rattle.mps_log.specs.Logged.{Logged}
use Rattle.mps_log.proofs.Waiting.{has_keyed, steps_at}
use Rattle.mps_log.proofs.log.Log.step.Goals as goal

pub returns-in_err-key : goal.returns-in_err-key
returns-in_err-key c =
    let es = c.self.inside.arena.keyed_steps in
    let none = ap (option_and_then (λ (k : ℕ). option_map (λ (e : KeyedStep). e.step) (keyed_at k es))) (sym c.nth.ensures ∙ c.in_err-key.was) in
    rw c.from_residual.ensures
    (sym (steps_at es c.self.invariant.sound [] es refl c.args.k ∙ none)
    ∙ ap (λ (l : Logged). slice_get (steps l.keyed_steps) c.args.k) c.self.view_is)

pub get-requires : goal.get-requires
get-requires c =
    let es = c.self.inside.arena.keyed_steps in
    let key = c.in_ok-key.key in
    has_keyed any_step es key (get_in (keys_of any_step es) c.args.k key (ap (λ (o : Option ℕ). is_at o key) (sym c.nth.ensures ∙ c.in_ok-key.was) ∙ eq-eqb key key refl))

pub returns : goal.returns
returns c =
    let es = c.self.inside.arena.keyed_steps in
    let some = ap (option_and_then (λ (k : ℕ). option_map (λ (e : KeyedStep). e.step) (keyed_at k es))) (sym c.nth.ensures ∙ c.in_ok-key.was) in
    sym c.get.ensures
    ∙ sym (steps_at es c.self.invariant.sound [] es refl c.args.k ∙ some)
    ∙ ap (λ (l : Logged). slice_get (steps l.keyed_steps) c.args.k) c.self.view_is
