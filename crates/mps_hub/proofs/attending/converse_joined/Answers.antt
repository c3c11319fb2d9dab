-- `converse_joined` meets its clauses `cell`, `opening` and `told`, by the lemmas of Telling.
use Rattle.std.proofs.Common.{sym, ◌∙◌}
use Rattle.mps_wire.specs.Streams.{streams}
use Rattle.mps_wire.proofs.Making.{ended_keeps}
use Rattle.mps_keeper.specs.Holds.{records_of, whole_of}
use Rattle.mps_cell.specs.Calls.{Calls}
use Rattle.mps_hub.specs.SharedCalls.{keeps_value}
use Rattle.mps_hub.proofs.Telling.{idle_whole, unused, idle_stays, ends_told}
use Rattle.mps_hub.proofs.attending.converse_joined.Goals as goal

pub returns-in-Ok-clause-cell : goal.returns-in-Ok-clause-cell
returns-in-Ok-clause-cell g c = ended_keeps _ (λ h. h.inner.inner.pass.cell) (λ h x a k t. keeps_value (λ h x a k. Calls h.pass x a k.pass) (λ h. h.pass.cell) (λ h x a k t. t.pass.cell) h.inner.left h.inner.inner x a k.inner.left k.inner.inner t.call) (g.V.Vigil.waits c.args.vigil.now) (streams g.R.Source g.W.Sink c.args.reader.now c.send.new.writer) (streams g.R.Source g.W.Sink c.converse_waiting.new.reader c.converse_waiting.new.writer) _ _ c.converse_waiting.result c.converse_waiting.ensures.ending

pub returns-in-Ok-clause-opening : goal.returns-in-Ok-clause-opening
returns-in-Ok-clause-opening g c = ended_keeps _ (λ h. h.inner.inner.pass.opening) (λ h x a k t. keeps_value (λ h x a k. Calls h.pass x a k.pass) (λ h. h.pass.opening) (λ h x a k t. t.pass.opening) h.inner.left h.inner.inner x a k.inner.left k.inner.inner t.call) (g.V.Vigil.waits c.args.vigil.now) (streams g.R.Source g.W.Sink c.args.reader.now c.send.new.writer) (streams g.R.Source g.W.Sink c.converse_waiting.new.reader c.converse_waiting.new.writer) _ _ c.converse_waiting.result c.converse_waiting.ensures.ending

-- where nothing is recorded nothing is lost
pub returns-in-Ok-clause-told : goal.returns-in-Ok-clause-told
returns-in-Ok-clause-told g c = λ idle whole.
    let old = streams g.R.Source g.W.Sink c.args.reader.now c.send.new.writer in
    let new = streams g.R.Source g.W.Sink c.converse_waiting.new.reader c.converse_waiting.new.writer in
    let before = c.args.caller.now.recorder in
    let after = c.converse_waiting.new.caller.recorder in
    let same = ended_keeps _ (λ h. records_of h.recorder) (λ h x a k t. t.same) (g.V.Vigil.waits c.args.vigil.now) old new _ _ c.converse_waiting.result c.converse_waiting.ensures.ending in
    let fate = ended_keeps _ (λ h. idle_whole records_of whole_of h.recorder) (λ h x a k t. idle_stays records_of whole_of h.recorder k.recorder t.same t.idle) (g.V.Vigil.waits c.args.vigil.now) old new _ _ c.converse_waiting.result c.converse_waiting.ensures.ending in
    ends_told (whole_of after) c.converse_waiting.result c.converse_waiting.ensures.untold (sym (unused records_of whole_of after (same ∙ idle)) ∙ fate ∙ unused records_of whole_of before idle ∙ whole)
