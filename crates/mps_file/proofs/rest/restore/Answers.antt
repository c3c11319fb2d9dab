-- `restore` meets its contract, by the lemmas of Leading.
use Rattle.mps_file.proofs.Leading.{on_ok, restored_room}
use Rattle.mps_file.proofs.rest.restore.Goals as goal

pub returns : goal.returns
returns c = record {
  room = λ names types new.
      on_ok c.restore_from.result _ _ c.restore_from.ensures.ok
      (λ x ok. restored_room names types c.args.room.now c.restore_from.new.self ok.restored.bodies new c.restore_from.ensures.names c.restore_from.ensures.types ok.restored.all.restored);
}
