-- `Log::choose_from` meets its clauses `sound` and `commits` and keeps the invariant of its type, by the lemmas of Remarked.
use Rattle.std.proofs.Common.{◌≡◌, List, Bool, false, sym, ap, ◌∙◌, subst}
use Rattle.mps_history.specs.Dependence.{consequences}
use Rattle.mps_history.specs.Commits.{is_commit, commits_from}
use Rattle.mps_arena.specs.KeyedSteps.{KeyedStep, steps, AreSound}
use Rattle.mps_queues.specs.Fronts.{AreFronts}
use Rattle.mps_stores.specs.Stores.{AreStores, slot_of, mark_of}
use Rattle.mps_links.specs.Marks.{marked_commits}
use Rattle.mps_links.proofs.Going.{marked_commits_are}
use Rattle.mps_log.specs.Logged.{Logged}
use Rattle.mps_log.specs.Private.Logged.{HasNoCommit}
use Rattle.mps_log.proofs.Remarked.{all_again, sound_again, fronts_again, stores_again}
use Rattle.mps_log.proofs.log.Log.choose_from.Goals as goal
use Rattle.mps_log.proofs.log.Log.choose_from.Goals.{After-mark_from}

-- which keyed steps are marked
abbrev marks : After-mark_from → KeyedStep → Bool
marks c e = consequences (steps c.self.inside.arena.keyed_steps) c.args.id e.step.id

sound : (c : After-mark_from) → AreSound c.mark_from.new.arena.keyed_steps
sound c = subst AreSound (sym c.mark_from.ensures.marks) (sound_again (marks c) c.self.inside.arena.keyed_steps c.self.invariant.sound)

pub invariant_of-self : goal.invariant_of-self
invariant_of-self c =
    let k = (goal.at.invariant_of-self c).After-mark_from in
    let l = c.self.inside in
    record {
      sound = sound k;
      fronts = subst (λ (es : List KeyedStep). AreFronts es l.queues) (sym c.mark_from.ensures.marks) (fronts_again (marks k) l.arena.keyed_steps l.queues c.self.invariant.fronts);
      slots = subst (λ (es : List KeyedStep). AreStores slot_of es l.slots) (sym c.mark_from.ensures.marks) (stores_again (marks k) slot_of l.arena.keyed_steps l.slots c.self.invariant.slots);
      marks = subst (λ (es : List KeyedStep). AreStores mark_of es l.marks) (sym c.mark_from.ensures.marks) (stores_again (marks k) mark_of l.arena.keyed_steps l.marks c.self.invariant.marks);
      settled = λ none. subst HasNoCommit (sym c.mark_from.ensures.marks) (all_again (marks k) (λ s. is_commit s.act ≡ false) l.arena.keyed_steps (c.self.invariant.settled none));
    }

pub returns-clause-sound : goal.returns-clause-sound
returns-clause-sound c = sound ((goal.at.returns-clause-sound c).After-mark_from)

pub returns-clause-commits : goal.returns-clause-commits
returns-clause-commits c =
    let es = c.self.inside.arena.keyed_steps in
    ap marked_commits c.mark_from.ensures.marks
    ∙ marked_commits_are es c.args.id
    ∙ ap (λ (l : Logged). commits_from (steps l.keyed_steps) c.args.id) c.self.view_is
