-- `undo` keeps what holds in each turn of its loop.
use Rattle.std.proofs.Common.{sym, ◌∙◌, subst}
use Rattle.mps_links.specs.Marks.{AreMarksClosed}
use Rattle.mps_test_sessions.proofs.dependents.undo.Goals as goal

pub loop-preserved : goal.loop-preserved
loop-preserved g c =
    let es = c.loop.arena.keyed_steps in
    let newest = sym c.newest_marked.ensures.newest ∙ c.expect-key.ensures in
    subst AreMarksClosed (sym c.remove.ensures.keyed_steps) (c.marks_stay_closed.ensures es c.expect-key.result c.len.ensures.sound c.loop.invariant newest)
