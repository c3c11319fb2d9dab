-- `serve_opened` gives `serve_hub` no more keepers than the hub has cells: one.
use Rattle.std.proofs.Common.{List, ap, arith, length}
use Rattle.mps_cell.specs.Cells.{Opened}
use Rattle.mps_hub.proofs.hosting.Hosting.serve_opened.Goals as goal

pub serve_hub-served-requires-clause-recorded : goal.serve_hub-served-requires-clause-recorded
serve_hub-served-requires-clause-recorded g c κs within =
    omega (arith, c.requires.one, c.requires.few, ap length c.as_slice-2.ensures.value, ap (λ (l : List Opened). length l) c.waiting.ensures.cells, ap (λ (l : List Opened). length l) c.sharing-hub.ensures.cells, c.in_ok-of_restored.ensures.cells.count)
