-- `Log::mark` keeps the invariant of its type, by the lemmas of Settled.
use Rattle.std.proofs.Common.{◌≡◌, [], ◌∷◌, ◌++◌, List, false, refl, sym, ap, ◌∙◌, subst}
use Rattle.mps_base.specs.declared.action.Act.TheVariants.{Mark}
use Rattle.mps_arena.specs.KeyedSteps.{KeyedStep}
use Rattle.mps_queues.specs.Fronts.{AreFronts}
use Rattle.mps_queues.proofs.Moves.{idle_joins}
use Rattle.mps_stores.specs.Stores.{AreStores, slot_of, mark_of}
use Rattle.mps_stores.proofs.Bindings.{stores_idle_push}
use Rattle.mps_log.specs.Private.Logged.{HasNoCommit}
use Rattle.mps_log.proofs.Settled.{no_commit_joins}
use Rattle.mps_log.proofs.log.Log.mark.Goals as goal

pub invariant_of-self-2 : goal.invariant_of-self-2
invariant_of-self-2 c =
    let l = c.self.inside in
    let k = c.self.invariant in
    let es = l.arena.keyed_steps in
    let e : KeyedStep = record { key = c.reserve_one.new.self.next_key; step = record { id = c.add.result; role = c.args.role; act = Mark c.args.name }; before = record { at = c.args.at; bound = c.in_ok-bound.bound }; marked = false } in
    let whole : c.add.new.self.keyed_steps ≡ es ++ e ∷ [] = c.add.ensures.keyed_steps ∙ ap (λ (o : List KeyedStep). o ++ e ∷ []) c.reserve_one.ensures.keyed_steps in
    record {
      sound = c.add.ensures.sound;
      fronts = subst (λ (o : List KeyedStep). AreFronts o l.queues) (sym whole) (idle_joins e refl es l.queues k.fronts);
      slots = subst (λ (o : List KeyedStep). AreStores slot_of o l.slots) (sym whole) (stores_idle_push slot_of es e l.slots k.slots refl);
      marks = subst (λ (o : List KeyedStep). AreStores mark_of o c.bind.new.self) (sym whole) (c.in_ok-bound.ensures.follows mark_of es e k.marks (refl, refl) (sym c.in_ok-key.ensures.key) refl);
      settled = λ none. subst HasNoCommit (sym whole) (no_commit_joins es e refl (k.settled none));
    }
