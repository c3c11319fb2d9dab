-- `tell_sessions` meets its clauses `told` and `lost`, by the lemmas of Telling.
use Rattle.std.proofs.Common.{ℕ, ◌+◌, ◌∷◌, Option, Some, OnOk, IfErr, refl, sym, ap, ◌∙◌, subst}
use Rattle.mps_room.specs.RoomState.{RoomState}
use Rattle.mps_program.specs.Served.{AreLinesUpTo, AreSessionLines, IfLost, IsSessionLine, served_of}
use Rattle.mps_program.specs.Private.Served.{TookOne}
use Rattle.mps_program.proofs.Telling.{first_served, first_unserved, lost_rest, lost_same, told_rest, told_same}
use Rattle.mps_program.proofs.serving.+tell_sessions.Goals.{then-is_first_served+in-Some-first+in_ok-tell_session-in-Some-first, else-is_first_served}
use Rattle.mps_program.proofs.serving.+tell_sessions.Goals as goal

pub returns-clause-told : goal.returns-clause-told
returns-clause-told g t c =
    let later = c.in-Some.later.now in
    let next = c.args.session + 1 in
    let others = served_of next c.past_first.result.now later in
    let took = g.W.Sink.taken c.args.writer.now in
    let taken = g.W.Sink.taken c.tell_sessions.new.writer in
    elim c.if-is_first_served.branch [
      | then-is_first_served+in-Some-first+in_ok-tell_session-in-Some-first w ↦
          let m = w.in-Some-first.room in
          told_rest c.tell_sessions.result c.args.session m _ others took (g.W.Sink.taken c.if-is_first_served.writer) taken
          (first_served c.args.session next c.args.keepers.now c.past_first.result.now (Some m) c.args.rooms.now later (sym c.is_first_served.ensures ∙ w.if-is_first_served.true) (c.in-Some.ensures.cases.0 ∙ ap (λ (r : Option RoomState). r ∷ later) w.in-Some-first.is) refl c.past_first.ensures)
          (subst (λ (n : ℕ). TookOne (IsSessionLine c.args.session n) took (g.W.Sink.taken c.if-is_first_served.writer)) w.entries.ensures.count
          (subst (λ writer. TookOne (IsSessionLine c.args.session w.entries.result) took (g.W.Sink.taken writer)) (sym w.writer-is) w.in_ok-tell_session-in-Some-first.ensures.told))
          c.tell_sessions.ensures.told
      | else-is_first_served w ↦
          told_same c.tell_sessions.result _ others took taken
          (first_unserved c.args.session next c.args.keepers.now c.past_first.result.now c.in-Some.first.now c.args.rooms.now later (sym c.is_first_served.ensures ∙ w.if-is_first_served.false) c.in-Some.ensures.cases.0 refl c.past_first.ensures)
          (subst (λ writer. OnOk c.tell_sessions.result (TookOne (AreSessionLines others) (g.W.Sink.taken writer) taken)) w.writer-is c.tell_sessions.ensures.told)
    ]

pub returns-clause-lost : goal.returns-clause-lost
returns-clause-lost g t c =
    let later = c.in-Some.later.now in
    let next = c.args.session + 1 in
    let others = served_of next c.past_first.result.now later in
    let took = g.W.Sink.taken c.args.writer.now in
    let taken = g.W.Sink.taken c.tell_sessions.new.writer in
    elim c.if-is_first_served.branch [
      | then-is_first_served+in-Some-first+in_ok-tell_session-in-Some-first w ↦
          let m = w.in-Some-first.room in
          lost_rest c.tell_sessions.result c.args.session m _ others took (g.W.Sink.taken c.if-is_first_served.writer) taken
          (first_served c.args.session next c.args.keepers.now c.past_first.result.now (Some m) c.args.rooms.now later (sym c.is_first_served.ensures ∙ w.if-is_first_served.true) (c.in-Some.ensures.cases.0 ∙ ap (λ (r : Option RoomState). r ∷ later) w.in-Some-first.is) refl c.past_first.ensures)
          (subst (λ (n : ℕ). TookOne (IsSessionLine c.args.session n) took (g.W.Sink.taken c.if-is_first_served.writer)) w.entries.ensures.count
          (subst (λ writer. TookOne (IsSessionLine c.args.session w.entries.result) took (g.W.Sink.taken writer)) (sym w.writer-is) w.in_ok-tell_session-in-Some-first.ensures.told))
          c.tell_sessions.ensures.lost
      | else-is_first_served w ↦
          lost_same c.tell_sessions.result _ others took taken
          (first_unserved c.args.session next c.args.keepers.now c.past_first.result.now c.in-Some.first.now c.args.rooms.now later (sym c.is_first_served.ensures ∙ w.if-is_first_served.false) c.in-Some.ensures.cases.0 refl c.past_first.ensures)
          (subst (λ writer. IfErr c.tell_sessions.result (IfLost (λ k. TookOne (AreLinesUpTo others k) (g.W.Sink.taken writer) taken))) w.writer-is c.tell_sessions.ensures.lost)
    ]
