-- `RestoredRoom::restore_lines` meets its clause `err` and keeps what holds in each turn of its loop, by the lemmas of Restoring.
use Rattle.std.proofs.Common.{◌∙◌, inl}
use Rattle.mps_local.proofs.Each.{passed_on}
use Rattle.mps_keeper.specs.Restored.{standing_of}
use Rattle.mps_keeper.specs.RestoredFaults.{IsFaultOf}
use Rattle.mps_keeper.proofs.Restoring.{goes_on, breaks, faulty_of, next_of}
use Rattle.mps_keeper.proofs.restored_room.RestoredRoom.restore_lines.Goals as goal

pub returns-in_err-lines-clause-err : goal.returns-in_err-lines-clause-err
returns-in_err-lines-clause-err c =
    let v = c.loop-k.invariant in
    passed_on _ (IsFaultOf c.args.self.now.room.names c.args.self.now.room.types c.args.first (standing_of c.args.self.now) c.args.bytes.now) _ c.from_residual.ensures.1
    (inl (breaks _ _ _ _ _ _ _ _ _ _ c.in-Some.k _ v.restoring c.in-Some.ensures.within c.in-Some.ensures.end (faulty_of _ _ _ _ _ _ _ _ _ v.names v.types c.in_err-lines.ensures.faulty)))

pub loop-k-preserved : goal.loop-k-preserved
loop-k-preserved c = let v = c.loop-k.invariant in record {
  names = c.in_ok-lines.ensures.names ∙ v.names;
  types = c.in_ok-lines.ensures.types ∙ v.types;
  restoring = goes_on _ _ _ _ _ _ _ _ _ _ _ _ c.in-Some.k _ v.restoring c.in-Some.ensures.within c.in-Some.ensures.end c.in-Some.ensures.before c.in_ok-lines.ensures.one (next_of _ _ _ _ _ _ _ _ _ _ v.names v.types c.in_ok-lines.ensures.ok);
}
