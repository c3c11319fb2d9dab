-- `ScriptRun::feed` meets its clauses `short` and `answered` and keeps what holds in each turn of its loop, by the lemmas of Answering, Carrying and Feeding.
use Rattle.std.proofs.Common.{◌≡◌, ℕ, ◌≤◌, List, [], ◌++◌, length, take, refl, ap, ◌∙◌, arith, length-take}
use Rattle.std.proofs.lemmas.Result.{on_ok_weaker}
use Rattle.mps_room.specs.declared.entry.Entry.{Entry}
use Rattle.mps_wire.specs.Answers.{Answering}
use Rattle.mps_lines.specs.Lines.{most_kept, front}
use Rattle.mps_wire.specs.Private.Places.{answering_of, place_of_run}
use Rattle.mps_wire.proofs.Answering.{by_front}
use Rattle.mps_wire.proofs.Carrying.{carried}
use Rattle.mps_wire.proofs.Feeding.{feeding_begins, feeds_on, feeding_ends}
use Rattle.mps_wire.proofs.script.ScriptRun.feed.Goals as goal

front_short_enough : (line new : List ℕ) → new ≡ front line → length new ≤ most_kept
front_short_enough line new e = omega (arith, ap length e, length-take most_kept line)

pub loop-k-init : goal.loop-k-init
loop-k-init c = record {
  names = refl;
  types = refl;
  short = c.requires;
  feeding = feeding_begins (answering_of c.args.self.now) [] (place_of_run c.args.self.now) c.args.bytes.now;
}

pub loop-k-preserved : goal.loop-k-preserved
loop-k-preserved c =
    let i = c.loop-k.invariant in
    let a = c.in_ok-end_line.ensures.answer in
    let answers = answering_of c.args.self.now in
    let line =
    carried _ _ _ _ i.names i.types
    (λ (answers : Answering (List Entry)). answers (front (c.loop-k.self.line.items ++ take c.in-Some.k c.loop-k.rest.now)) c.loop-k.self.room.journal a.0 c.end_line.new.self.room.journal) a.2 in
    record {
      names = c.in_ok-end_line.ensures.names ∙ i.names;
      types = c.in_ok-end_line.ensures.types ∙ i.types;
      short = omega (arith, ap length c.in_ok-end_line.ensures.next);
      feeding =
          feeds_on answers [] (place_of_run c.args.self.now) c.args.bytes.now (by_front c.args.self.now.room.names c.args.self.now.room.types)
          c.loop-k.rest.now (front (c.loop-k.self.line.items ++ take c.in-Some.k c.loop-k.rest.now)) a.0 c.in-Some.k (place_of_run c.loop-k.self) (place_of_run c.end_line.new.self) i.feeding
          c.in-Some.ensures.within c.in-Some.ensures.end c.in-Some.ensures.before refl line a.1 c.in_ok-end_line.ensures.next;
    }

pub returns-clause-short : goal.returns-clause-short
returns-clause-short c = on_ok_weaker c.keep.result (λ e. front_short_enough _ _ e) c.keep.ensures.ok

pub returns-clause-answered : goal.returns-clause-answered
returns-clause-answered c =
    on_ok_weaker c.keep.result
    (λ e. feeding_ends (answering_of c.args.self.now) [] (place_of_run c.args.self.now) c.args.bytes.now c.loop-k.rest.now (place_of_run c.loop-k.self)
    (record { kept = c.keep.new.line.items; state = c.loop-k.self.room.journal; waiting = c.loop-k.self.answers.items })
    c.loop-k.invariant.feeding c.in_default.ensures.none e refl refl)
    c.keep.ensures.ok
