-- `serve_watched` meets its contract, by the lemmas of Causes.
use Rattle.std.proofs.Common.{List, ap, length, ◌∙◌}
use Rattle.std.specs.Option.{option_map}
use Rattle.mps_cell.specs.Cells.{Opened}
use Rattle.mps_program.specs.Served.{IsServeFault}
use Rattle.mps_program.proofs.Causes.{server_fails, session_fails, told}
use Rattle.mps_program.proofs.serving.serve_watched.Goals as goal

pub returns : goal.returns
returns g c = record { fault = server_fails c.serve_to.result c.args.file _ _ _ _ _ _ c.in_ok-rooms.ensures.keepers (c.waiting-hub.ensures.first ∙ c.sharing.ensures.first ∙ c.in_ok-of_restored.ensures.first) (ap (λ (l : List Opened). length l) (c.waiting-hub.ensures.cells ∙ c.sharing.ensures.cells) ∙ c.in_ok-of_restored.ensures.cells.count ∙ c.in_ok-rooms.ensures.rooms) c.serve_to.ensures.fault }

-- each session was refused
pub returns-in_err-tell_refused : goal.returns-in_err-tell_refused
returns-in_err-tell_refused g c =
    let folder = option_map (λ j. j.folder.now) c.args.service.journal in
    record {
      fault = told _ (IsServeFault c.args.file folder c.args.service.first c.args.service.sessions) _ c.from_residual-in_err-tell_refused.ensures.1
          (session_fails c.args.file folder c.args.service.first c.args.service.sessions _ _ _ c.in_err-tell_refused.ensures.1 c.in_ok-rooms.ensures.refused);
    }
