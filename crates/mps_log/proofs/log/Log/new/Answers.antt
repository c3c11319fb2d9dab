-- `Log::new` keeps the invariant of its type.
use Rattle.std.proofs.Common.{List, sym, subst}
use Rattle.mps_arena.specs.KeyedSteps.{KeyedStep, AreSound}
use Rattle.mps_arena.proofs.Matched.{sound_nil}
use Rattle.mps_queues.specs.Fronts.{AreFronts}
use Rattle.mps_stores.specs.Stores.{slot_of, mark_of, AreStores}
use Rattle.mps_log.specs.Private.Logged.{HasNoCommit}
use Rattle.mps_log.proofs.log.Log.new.Goals as goal

pub invariant_of-result : goal.invariant_of-result
invariant_of-result c = record {
  sound = subst AreSound (sym c.new.ensures.keyed_steps) sound_nil;
  fronts = subst (λ (es : List KeyedStep). AreFronts es c.new-2.result) (sym c.new.ensures.keyed_steps) c.new-2.ensures;
  slots = subst (λ (es : List KeyedStep). AreStores slot_of es c.in_ok-new.field-0) (sym c.new.ensures.keyed_steps) (c.in_ok-new.ensures.stores slot_of);
  marks = subst (λ (es : List KeyedStep). AreStores mark_of es c.in_ok-new-2.field-0) (sym c.new.ensures.keyed_steps) (c.in_ok-new-2.ensures.stores mark_of);
  settled = λ none. subst HasNoCommit (sym c.new.ensures.keyed_steps) tt;
}
