-- Why a text gives no session.
use Rattle.std.proofs.Common.{ℕ, List}
use Rattle.mps_global.specs.Global.{GlobalType}
use Rattle.mps_local.specs.declared.merging.Merging.{Merging}
use Rattle.mps_open.specs.Faults.{GivesNoOpening, GivesNoSession}
use Rattle.mps_open.specs.Texts.{IsProtocolText}
use Rattle.mps_open.specs.declared.fault.Fault.{Fault}
use Rattle.mps_open.specs.declared.fault.Fault.TheVariants.{Text, Protocol, Projection, Memory}

pub no_session : (merging : Merging) (text : List ℕ) (roles : List (List ℕ)) (tree : GlobalType) (fault : Fault) → IsProtocolText text roles tree → GivesNoOpening merging roles tree fault → GivesNoSession merging text fault
no_session merging text roles tree (Text at kind) read h = absurd h
no_session merging text roles tree (Protocol fault) read h = record { roles = roles; tree = tree; spelled = read; why = h }
no_session merging text roles tree (Projection role name choice) read h = record { roles = roles; tree = tree; spelled = read; why = h }
no_session merging text roles tree Memory read h = read.limits.short
