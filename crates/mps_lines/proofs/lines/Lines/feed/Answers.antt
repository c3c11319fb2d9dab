-- `Lines::feed` meets its clause `ok` and keeps the invariant of its type, by the lemmas of Cutting.
use Rattle.std.proofs.Common.{◌≡◌, ◌+◌, ◌<◌, ◌≤◌, length, take, arith}
use Rattle.mps_lines.specs.Cuts.{cut}
use Rattle.mps_lines.proofs.Cutting.{IsKept, cut_splits, kept_piece, kept_rest, kept_view}
use Rattle.mps_lines.proofs.lines.Lines.feed.Goals as goal
use Rattle.mps_lines.proofs.lines.Lines.feed.Goals.{After-extend_from_slice, then-start-eq0, else-start-eq0}

-- what is kept of the piece
kept : (c : After-extend_from_slice) → IsKept (cut c.self.inside.bytes.items).rest c.args.piece.now (take (c.last_start-start.result + c.min-count.result) c.args.piece.now) (c.if-start-eq0.had + c.min-count.result)
kept c =
    let items = c.self.inside.bytes.items in
    let start = c.last_start-start in
    let had = c.if-start-eq0.had in
    let few : length (cut items).rest ≤ 513 = omega (arith, c.self.invariant.0, c.self.invariant.1) in
    let begun : start.result ≡ 0 → had ≡ length (cut items).rest = grind (arith, then-start-eq0, else-start-eq0) in
    let behind : 0 < start.result → had ≡ 0 = λ e. elim c.if-start-eq0.branch [
      | then-start-eq0 w ↦ absurd (omega (arith, w.if-start-eq0.true))
      | else-start-eq0 w ↦ w.had-is
    ] in
    kept_piece (cut items).rest c.args.piece.now start.result had c.min-count.result (cut_splits items).unended few start.ensures.within start.ensures.rest begun behind c.min-count.ensures

pub invariant_of-self-2 : goal.invariant_of-self-2
invariant_of-self-2 c =
    let l = (goal.at.invariant_of-self-2 c).After-extend_from_slice in
    kept_rest c.self.inside.bytes.items _ _ _ _ (kept l) c.in_ok-extend_from_slice.ensures.ok

pub returns-clause-ok : goal.returns-clause-ok
returns-clause-ok c =
    let l = (goal.at.returns-clause-ok c).After-extend_from_slice in
    cc (kept_view c.self.inside.bytes.items _ _ _ _ (kept l) c.in_ok-extend_from_slice.ensures.ok)
