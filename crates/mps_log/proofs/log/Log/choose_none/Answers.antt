-- `Log::choose_none` meets its clause `sound` and keeps the invariant of its type, by the lemmas of Remarked.
use Rattle.std.proofs.Common.{◌≡◌, List, Bool, false, sym, subst}
use Rattle.mps_history.specs.Commits.{is_commit}
use Rattle.mps_arena.specs.KeyedSteps.{KeyedStep, AreSound}
use Rattle.mps_queues.specs.Fronts.{AreFronts}
use Rattle.mps_stores.specs.Stores.{AreStores, slot_of, mark_of}
use Rattle.mps_log.specs.Private.Logged.{HasNoCommit}
use Rattle.mps_log.proofs.Remarked.{all_again, sound_again, fronts_again, stores_again}
use Rattle.mps_log.proofs.log.Log.choose_none.Goals as goal
use Rattle.mps_log.proofs.log.Log.choose_none.Goals.{After-unmark}

abbrev nowhere : KeyedStep → Bool
nowhere e = false

sound : (c : After-unmark) → AreSound c.unmark.new.arena.keyed_steps
sound c = subst AreSound (sym c.unmark.ensures.keyed_steps) (sound_again nowhere c.self.inside.arena.keyed_steps c.self.invariant.sound)

pub invariant_of-self : goal.invariant_of-self
invariant_of-self c =
    let l = c.self.inside in
    record {
      sound = sound ((goal.at.invariant_of-self c).After-unmark);
      fronts = subst (λ (es : List KeyedStep). AreFronts es l.queues) (sym c.unmark.ensures.keyed_steps) (fronts_again nowhere l.arena.keyed_steps l.queues c.self.invariant.fronts);
      slots = subst (λ (es : List KeyedStep). AreStores slot_of es l.slots) (sym c.unmark.ensures.keyed_steps) (stores_again nowhere slot_of l.arena.keyed_steps l.slots c.self.invariant.slots);
      marks = subst (λ (es : List KeyedStep). AreStores mark_of es l.marks) (sym c.unmark.ensures.keyed_steps) (stores_again nowhere mark_of l.arena.keyed_steps l.marks c.self.invariant.marks);
      settled = λ none. subst HasNoCommit (sym c.unmark.ensures.keyed_steps) (all_again nowhere (λ s. is_commit s.act ≡ false) l.arena.keyed_steps (c.self.invariant.settled none));
    }

pub returns-clause-sound : goal.returns-clause-sound
returns-clause-sound c = sound ((goal.at.returns-clause-sound c).After-unmark)
