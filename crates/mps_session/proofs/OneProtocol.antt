-- A session can be opened with the types of one protocol, and never refuses the message that waits.
use Rattle.std.proofs.Common.{◌≢◌, ℕ, List, Err, sym, ap, subst, arith}
use Rattle.mps_command.specs.Acts.{act_of}
use Rattle.mps_command.specs.declared.answer.Refusal.{Refusal}
use Rattle.mps_command.specs.declared.answer.Refusal.TheVariants.{Violation as Violates}
use Rattle.mps_command.specs.declared.answer.Violation.TheVariants.{Mismatch}
use Rattle.mps_command.specs.declared.command.Change.TheVariants.{Forward as Commanded}
use Rattle.mps_command.specs.declared.command.Forward.{Forward}
use Rattle.mps_global.proofs.Sound.{sound_protocol}
use Rattle.mps_local.specs.Local.{LocalType}
use Rattle.mps_local.specs.declared.faults.LocalFault.{LocalFault}
use Rattle.mps_local.proofs.Faultless.{faultless}
use Rattle.mps_machine.specs.Machine.{State, IsSound, forward, stepped}
use Rattle.mps_machine.specs.View.{type_at}
use Rattle.mps_fidelity.specs.Fidelity.{AreOfOneProtocol}
use Rattle.mps_fidelity.proofs.Faithful.{type_is, opening_peers}
use Rattle.mps_fidelity.proofs.Refusals.{sound_other}
use Rattle.mps_machine.specs.Answering.{IsAnswer}
use Rattle.mps_session.specs.Peers.{HasPeers, IsFirstBad, IsFirstFaulty, CanOpen}

pub can_open : (types : List LocalType) → AreOfOneProtocol types → CanOpen types
can_open types own =
    let count = own.projections.count in
    let sound = (sound_protocol own.roles own.tree own.faultless).session.count in record {
      roles = record { some = omega (arith, count, sound.some); few = omega (arith, count, sound.few) };
      peers = λ p l. subst (λ (n : ℕ). HasPeers n p (type_at types p)) (sym count) (opening_peers types own p);
      faultless = λ p l. faultless own.merging own.roles p own.tree (type_at types p) own.faultless (type_is types own p l);
    }

pub no_bad_peer : (types : List LocalType) → AreOfOneProtocol types → (p : ℕ) → IsFirstBad types p → ⊥
no_bad_peer types own p first = first.bad ((can_open types own).peers p first.within)

pub no_fault : (types : List LocalType) → AreOfOneProtocol types → (p : ℕ) (fault : LocalFault) → IsFirstFaulty types p fault → ⊥
no_fault types own p fault first = grind (arith, can_open)

-- and no command is refused there for the message that waits
pub no_mismatch : (types : List LocalType) (st : State) (p : ℕ) (command : Forward) (refusal : Refusal) → IsSound types st → IsAnswer (Err refusal) (forward types st p (act_of command)).0 → AreOfOneProtocol types → refusal ≢ Violates Mismatch
no_mismatch types st p command refusal ok h own e =
    let same = subst (λ (r : Refusal). IsAnswer (Err r) (forward types st p (act_of command)).0) e h in
    sound_other types st p (Commanded command) own ok (ap stepped (sym same))
