-- Proves the law `a_guest_is_answered_as_its_caller`, by the lemmas of Guests and Recording.
use Rattle.std.proofs.Common.{◌≡◌, true, false, refl}
use Rattle.mps_keeper.proofs.Guests.{replies_within, by_calls}
use Rattle.mps_keeper.proofs.Recording.{replied, recorded}
use Rattle.mps_keeper.proofs.laws.a_guest_is_answered_as_its_caller.Goals as goal

pub returns-clause-replies : goal.returns-clause-replies
returns-clause-replies g c = λ waits line before reply after r.
    replies_within _ g.C.Caller (λ b. b.inner) (record { names = λ b. refl; last = λ b. refl; kept = λ b. refl; calls = λ b x a d h. h.call }) waits line before reply after r

pub returns-clause-recorded : goal.returns-clause-recorded
returns-clause-recorded g c = λ waits line before reply after r s w.
    (replied _ (λ b. g.K.Recorder.records b.recorder) (λ b. g.K.Recorder.whole b.recorder) (λ b. g.K.Recorder.taken b.recorder) (λ b x a d h. record {
      names = g.met.C.Caller.same_names b.inner x a d.inner h.call;
      same = h.same;
      before = h.once_whole;
      goes = recorded g.K.Recorder g.C.Caller b.recorder b.inner x d.recorder d.inner a h (g.met.C.Caller.grows b.inner x a d.inner h.call);
      more = h.more;
    }) waits line before reply after r).goes s w

pub returns-clause-once : goal.returns-clause-once
returns-clause-once g c = λ waits line before reply after r.
    by_calls _ (λ b d. g.K.Recorder.whole d.recorder ≡ true → g.K.Recorder.whole b.recorder ≡ true) (λ b w. w) (λ b x a d h. h.once_whole) waits line before reply after r

pub returns-clause-same : goal.returns-clause-same
returns-clause-same g c = λ waits line before reply after r.
    by_calls _ (λ b d. g.K.Recorder.records d.recorder ≡ g.K.Recorder.records b.recorder) (λ b. refl) (λ b x a d h. h.same) waits line before reply after r

pub returns-clause-idle : goal.returns-clause-idle
returns-clause-idle g c = λ waits line before reply after r.
    by_calls _ (λ b d. g.K.Recorder.records b.recorder ≡ false → d.recorder ≡ b.recorder) (λ b off. refl) (λ b x a d h. h.idle) waits line before reply after r
