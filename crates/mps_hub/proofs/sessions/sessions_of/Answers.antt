-- `sessions_of` keeps what holds in each turn of its loop.
use Rattle.std.proofs.Common.{◌≡◌, List, sym, subst, arith}
use Rattle.std.specs.Prelude.{All, map}
use Rattle.std.proofs.lemmas.List.Elements.{All-push}
use Rattle.mps_local.specs.Local.{plain}
use Rattle.mps_machine.specs.Machine.{initial}
use Rattle.mps_session.specs.SessionState.{SessionState}
use Rattle.mps_hub.proofs.sessions.sessions_of.Goals as goal

pub loop-preserved : goal.loop-preserved
loop-preserved c =
    let h = c.loop.invariant in
    let p = c.push_reserved.ensures in
    let m : SessionState = record { types = map plain c.args.types.now; state = initial } in
    record {
      count = omega (arith, p.len, h.count);
      space = omega (arith, p.capacity, h.space);
      all = subst (All (λ (s : SessionState). s ≡ m)) (sym {A = List SessionState} p.items) (All-push (λ (s : SessionState). s ≡ m) c.loop.made.items c.in_ok-session_of.field-0 h.all c.in_ok-session_of.ensures.new);
    }
