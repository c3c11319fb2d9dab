-- Where a number is the last one, the answer that `call_numbered` leaves as kept is its own.
use Rattle.std.proofs.Common.{◌∙◌, refl}
use Rattle.mps_room.proofs.caller.call_numbered.Goals as goal

pub returns-in-Last : goal.returns-in-Last
returns-in-Last g c =
    let place = c.in-Last.ensures in
    let again = place.0 ∙ c.last.ensures in
    let kept = g.met.C.Caller.keeps c.args.caller.now (λ none. place.1 (again ∙ none)) in
    record { again = again; some = place.1; answer = kept.0; told = kept.1; unchanged = refl }
