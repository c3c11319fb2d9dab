-- `Pieces::new` meets its clause `bytes`, by the lemmas of PiecesLeft.
use Rattle.mps_dev.proofs.PiecesLeft.{concat-left_from_start}
use Rattle.mps_dev.proofs.memory.Pieces.new.Goals as goal

pub returns-clause-bytes : goal.returns-clause-bytes
returns-clause-bytes c = concat-left_from_start c.args.pieces.items
