-- `Log::remove` keeps the invariant of its type, by the lemmas of Settled.
use Rattle.std.proofs.Common.{List, not, sym, subst}
use Rattle.std.specs.Prelude.{◌==◌}
use Rattle.mps_arena.specs.KeyedSteps.{KeyedStep}
use Rattle.mps_queues.specs.Fronts.{AreFronts}
use Rattle.mps_stores.specs.Stores.{slot_of, mark_of, AreStores}
use Rattle.mps_log.specs.Private.Logged.{HasNoCommit}
use Rattle.mps_log.proofs.Settled.{no_commit_left}
use Rattle.mps_log.proofs.log.Log.remove.Goals as goal

pub invariant_of-self : goal.invariant_of-self
invariant_of-self c =
    let left = sym c.remove.ensures.keyed_steps in
    record {
      sound = c.remove.ensures.sound;
      fronts = subst (λ (l : List KeyedStep). AreFronts l c.give_back.new.queues) left c.give_back.ensures.fronts;
      slots = subst (λ (l : List KeyedStep). AreStores slot_of l c.give_back.new.slots) left c.give_back.ensures.slots;
      marks = subst (λ (l : List KeyedStep). AreStores mark_of l c.give_back.new.marks) left c.give_back.ensures.marks;
      settled = λ none. subst HasNoCommit left (no_commit_left (λ e. not (e.key == c.args.key)) c.self.inside.arena.keyed_steps (c.self.invariant.settled none));
    }
