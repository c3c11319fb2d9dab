-- `kept_room` meets its clause `led`, by the lemmas of Opening.
use Rattle.std.proofs.Common.{ℕ, List, [], map, ap, ◌∙◌}
use mathlib.Core.Path.{ap₂}
use Rattle.mps_local.specs.Local.{LocalType, plain}
use Rattle.mps_file.specs.Rooms.{IsNewRoom}
use Rattle.mps_room.specs.RoomState.{RoomState}
use Rattle.mps_session.specs.SessionState.{SessionState}
use Rattle.mps_embed.proofs.Opening.{led}
use Rattle.mps_embed.proofs.kept.kept_room.Goals as goal

pub returns-clause-led : goal.returns-clause-led
returns-clause-led c =
    let names = c.args.opening.roles in
    let types = map plain c.args.opening.types.items in
    let new : IsNewRoom names types c.in_ok-room.room = record {
      room = c.in_ok-room.ensures.room ∙ ap₂ (λ (ns : List (List ℕ)) (ts : List LocalType). let m : RoomState = record { names = ns; types = ts; journal = [] } in m) c.in_ok-roles.ensures.roles (ap (λ (s : SessionState). s.types) c.in_ok-roles.ensures.new);
      none = c.in_ok-room.ensures.none;
    } in
    led names types c.restore.new.room c.of_restored.result (c.in_ok-restored.ensures.room names types new) c.of_restored.ensures.room c.of_restored.ensures.numbers
