-- `Pieces::read` meets its clauses `left` and `bytes`, by the lemmas of PiecesLeft.
use Rattle.std.proofs.Common.{◌≡◌, ◌<◌, [], ◌++◌, arith, get_or, length, min, map, take, drop, vec_items}
use Rattle.std.proofs.lemmas.Grind.{common_steps}
use Rattle.mps_dev.specs.Pieces.{first_piece, left_from}
use Rattle.mps_dev.proofs.PiecesLeft.{left_from-read, concat-left_from-read}
use Rattle.mps_dev.proofs.memory.PiecesSource.read.Goals as goal

pub returns-else-n-eq0-clause-left : goal.returns-else-n-eq0-clause-left
returns-else-n-eq0-clause-left c = grind (arith, common_steps, left_from-read)

pub returns-else-n-eq0-clause-bytes : goal.returns-else-n-eq0-clause-bytes
returns-else-n-eq0-clause-bytes c =
    let pieces = map vec_items c.match-get.self-inside.pieces.items in
    let left = c.args.self.now.pieces in
    let n = c.match-get.n in
    let same : left_from c.first_left-next.result.0 c.first_left-next.result.1 pieces ≡ left = grind (arith, common_steps) in
    let count : n ≡ min (length (first_piece left)) (length c.args.buf.now) = grind (arith, common_steps) in
    let copied : c.match-get.buf ≡ take n (first_piece left) ++ drop n c.args.buf.now = grind (arith, common_steps) in
    let found : c.first_left-next.result.0 < length pieces → c.first_left-next.result.1 < length (get_or pieces c.first_left-next.result.0 []) =
    grind (arith, common_steps) in
    let read = concat-left_from-read _ _ n pieces left c.args.buf.now c.match-get.buf found same count copied in
    (read.0, λ none room. read.1 none (omega arith))
