-- `serve_to` meets its clauses `told` and `lost`, by the lemmas of Telling.
use Rattle.std.proofs.Common.{OnOk, IfErr, subst}
use Rattle.mps_program.specs.Served.{AreLinesUpTo, AreSessionLines, IfLost, served_of}
use Rattle.mps_program.specs.Private.Served.{TookOne}
use Rattle.mps_program.proofs.Telling.{on_ok, served, served_broken_off}
use Rattle.mps_program.proofs.serving.serve_to.Goals as goal

pub returns-clause-told : goal.returns-clause-told
returns-clause-told g c =
    let took = g.W.Sink.taken c.serve_hub.new.writer in
    let taken = g.W.Sink.taken c.tell_sessions.new.writer in
    on_ok c.tell_sessions.result _ _ (λ h. served c.args.entrance.port c.args.hub.first c.first-first.result c.args.keepers.items c.args.hub.cells c.serve_hub.new.hub.cells (g.W.Sink.taken c.args.writer.now) took taken
    c.in_ok-rooms.rooms.items c.as_slice.result.now c.first-first.ensures c.in_ok-serve_hub.ensures.same c.as_slice.ensures.value c.in_ok-serve_hub.ensures.told c.in_ok-rooms.ensures h)
    (subst (λ keepers. OnOk c.tell_sessions.result (TookOne (AreSessionLines (served_of c.first-first.result keepers c.as_slice.result.now)) took taken)) c.deref-2.ensures.value c.tell_sessions.ensures.told)

pub returns-clause-lost : goal.returns-clause-lost
returns-clause-lost g c =
    let took = g.W.Sink.taken c.serve_hub.new.writer in
    let taken = g.W.Sink.taken c.tell_sessions.new.writer in
    served_broken_off c.tell_sessions.result c.args.entrance.port c.args.hub.first c.first-first.result c.args.keepers.items c.args.hub.cells c.serve_hub.new.hub.cells (g.W.Sink.taken c.args.writer.now) took taken
    c.in_ok-rooms.rooms.items c.as_slice.result.now c.first-first.ensures c.in_ok-serve_hub.ensures.same c.as_slice.ensures.value c.in_ok-serve_hub.ensures.told c.in_ok-rooms.ensures
    (subst (λ keepers. IfErr c.tell_sessions.result (IfLost (λ k. TookOne (AreLinesUpTo (served_of c.first-first.result keepers c.as_slice.result.now) k) took taken))) c.deref-2.ensures.value c.tell_sessions.ensures.lost)
