-- Proves the law `what_is_answered_is_recorded`, clauses `whole`, `broken_off` and `told`, by the lemmas of Recording.
use Rattle.std.proofs.Common.{refl}
use Rattle.mps_keeper.proofs.Recording.{lines_lead, broken_leads, written_is_recorded, recorded}
use Rattle.mps_keeper.proofs.laws.what_is_answered_is_recorded.Goals as goal

pub returns-clause-whole : goal.returns-clause-whole
returns-clause-whole g c = λ waits asked before out after t s w.
    (lines_lead _ (λ r. g.K.Recorder.records r.recorder) (λ r. g.K.Recorder.whole r.recorder) (λ r. g.K.Recorder.taken r.recorder) (λ b x a d h. record {
      names = g.met.C.Caller.same_names b.inner x a d.inner h.call;
      same = h.same;
      before = h.once_whole;
      goes = recorded g.K.Recorder g.C.Caller b.recorder b.inner x d.recorder d.inner a h (g.met.C.Caller.grows b.inner x a d.inner h.call);
      more = h.more;
    }) waits asked before out after t).goes s w

pub returns-clause-broken_off : goal.returns-clause-broken_off
returns-clause-broken_off g c = λ waits asked before out after t s w.
    (broken_leads _ (λ r. g.K.Recorder.records r.recorder) (λ r. g.K.Recorder.whole r.recorder) (λ r. g.K.Recorder.taken r.recorder) (λ b x a d h. record {
      names = g.met.C.Caller.same_names b.inner x a d.inner h.call;
      same = h.same;
      before = h.once_whole;
      goes = recorded g.K.Recorder g.C.Caller b.recorder b.inner x d.recorder d.inner a h (g.met.C.Caller.grows b.inner x a d.inner h.call);
      more = h.more;
    }) waits asked before out after t).goes s w

pub returns-clause-told : goal.returns-clause-told
returns-clause-told g c = λ waits asked before written after t s w.
    written_is_recorded _ (λ r. g.K.Recorder.records r.recorder) (λ r. g.K.Recorder.whole r.recorder) (λ r. g.K.Recorder.taken r.recorder) (λ b x a d h. record {
      names = g.met.C.Caller.same_names b.inner x a d.inner h.call;
      same = h.same;
      before = h.once_whole;
      goes = recorded g.K.Recorder g.C.Caller b.recorder b.inner x d.recorder d.inner a h (g.met.C.Caller.grows b.inner x a d.inner h.call);
      more = h.more;
    }) waits (λ r. refl) asked before written after s w t
