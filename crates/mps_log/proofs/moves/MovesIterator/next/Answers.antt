-- `Moves::next` meets its clauses `steps` and `goes`, keeps the invariant of its type, and may call `get`, by the lemmas of Walks.
use Rattle.std.proofs.Common.{◌≡◌, ◌∷◌, length, arith, Option, Some, List, sym, ap, ◌∙◌}
use mathlib.Core.Path.{ap₂}
use Rattle.std.specs.Option.{option_map, option_and_then}
use Rattle.mps_base.specs.declared.action.Message.{Message}
use Rattle.mps_base.specs.declared.action.Step.{Step}
use Rattle.mps_arena.specs.KeyedSteps.{KeyedStep}
use Rattle.mps_log.specs.Shown.{Moved, moved_of}
use Rattle.mps_log.proofs.Walks.{y, there, goes_on, shows, shows_then, found}
use Rattle.mps_log.proofs.moves.MovesIterator.next.Goals as goal

pub get-requires : goal.get-requires
get-requires c = there c.self.inside c.self.invariant c.in_ok-key.key c.in_ok-key.was

pub invariant_of-self : goal.invariant_of-self
invariant_of-self c = goes_on c.self.inside c.self.invariant c.in_ok-key.key c.in_ok-key.was c.next-self-inside.result c.next-self-inside.ensures

pub returns-clause-steps : goal.returns-clause-steps
returns-clause-steps c =
    let m = c.self.inside in
    let es = m.arena.now.keyed_steps in
    let at = found m c.self.invariant c.in_ok-key.key c.in_ok-key.was in
    let head = y m c.self.invariant c.in_ok-key.key c.in_ok-key.was in
    let one : Some head.step ≡ Some c.get.result.now = sym (ap (option_map (λ (e : KeyedStep). e.step)) at) ∙ c.get.ensures in
    let moved = sym (ap (option_and_then (moved_of es)) at) ∙ sym c.moved_at.ensures in
    let after = shows_then m c.self.invariant c.in_ok-key.key c.in_ok-key.was c.next-self-inside.result c.next-self-inside.ensures in
    sym c.self.view_is
    ∙ shows m c.self.invariant c.in_ok-key.key c.in_ok-key.was
    ∙ ap₂ (λ (x : Moved) (l : List Moved). x ∷ l) (ap₂ (λ (s : Step) (o : Option Message). let x : Moved = (s, o) in x) (let same : head.step ≡ c.get.result.now = cc in same) moved) (sym after)

pub returns-clause-goes : goal.returns-clause-goes
returns-clause-goes c =
    let m = c.self.inside in
    let fewer = ap length (sym c.self.view_is ∙ shows m c.self.invariant c.in_ok-key.key c.in_ok-key.was) in
    let then = ap length (shows_then m c.self.invariant c.in_ok-key.key c.in_ok-key.was c.next-self-inside.result c.next-self-inside.ensures) in
    record { on = λ _. (tt, tt, omega (arith, fewer, then)); keeps = tt; rests = λ _. tt }
