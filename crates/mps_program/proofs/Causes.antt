-- From the faults of one step to those of all.
use Rattle.std.proofs.Common.{◌≡◌, ℕ, ◌≤◌, Bool, true, false, List, length, map, Option, Some, None, Result, Ok, Err, IsErrAnd, IfErr, sym, subst, inl, inr}
use Rattle.std.specs.Io.KnownBytes.{Consumes, IsAtEnd}
use Rattle.mps_global.specs.Global.{plain as global_type}
use Rattle.mps_local.specs.Local.{plain}
use Rattle.mps_local.specs.declared.merging.Merging.{Merging}
use Rattle.mps_open.specs.Faults.{GivesNoSession}
use Rattle.mps_open.specs.Texts.{AreTypesOf, IsProtocolText}
use Rattle.mps_open.specs.declared.opening.Opening.{Opening}
use Rattle.mps_open.specs.declared.fault.Fault.{Fault}
use Rattle.mps_open.specs.declared.fault.Fault.TheVariants as opening
use Rattle.mps_program.specs.Check.{GivesNoTypes, of_opening}
use Rattle.mps_program.specs.Files.{longest}
use Rattle.mps_program.specs.Streams.{HasGivenOpening}
use Rattle.mps_program.specs.Faults.{as_told, without}
use Rattle.std.specs.Prelude.{slice_get, All}
use Rattle.std.proofs.lemmas.Option.{slice_get_within, get_or_from_slice_get}
use Rattle.mps_program.specs.Hosted.{IsHostFault}
use Rattle.mps_program.specs.Journals.{IsFileFaultOf, IsSessionsFault, recorded_of}
use Rattle.mps_program.specs.Served.{IsOutFault, IsServeFault}
use Rattle.mps_program.specs.declared.faults.ToolFault.{ToolFault}
use Rattle.mps_words.specs.declared.command.ProtocolFile.{ProtocolFile}
use Rattle.mps_program.specs.declared.faults.ToolFault.TheVariants.{Bind, File, JournalFile, JournalLine, JournalLost, Read}

-- a fault that `?` hands on
pub told : {A : Type 0} (r : Result A ToolFault) (P : ToolFault → Type 0) (e : ToolFault) → IsErrAnd r (λ x. x ≡ e) → P e → IfErr r P
told (Ok x) P e is h = absurd is
told (Err x) P e is h = subst P (sym is) h

-- how a server fails that has the sessions of this file
pub server_fails : {A : Type 0} (r : Result A ToolFault) (file : ProtocolFile) (folder : Option (List ℕ)) (recorded first first' n n' : ℕ) → recorded ≡ recorded_of folder n → first' ≡ first → n' ≡ n → IfErr r (IsOutFault recorded first' n') → IfErr r (IsServeFault file folder first n)
server_fails (Ok x) file folder recorded first first' n n' same number count h = tt
server_fails (Err e) file folder recorded first first' n n' same number count h =
    inr (inr (subst (λ (k : ℕ × (ℕ × ℕ)). IsOutFault k.0 k.1.0 k.1.1 e) (λ i. (same i, (number i, count i))) h))

-- how it fails where each of its sessions was refused, by one of these faults
pub session_fails : (file : ProtocolFile) (folder : Option (List ℕ)) (first n : ℕ) (refused : List ToolFault) (i : ℕ) (fault : ToolFault) → slice_get refused i ≡ Some fault → All (IsSessionsFault folder first n) refused → IsServeFault file folder first n fault
session_fails file folder first n refused i fault at all = inr (inl (subst (IsSessionsFault folder first n) (get_or_from_slice_get refused i fault fault at) (all i fault (slice_get_within refused i fault at))))

-- sessions that were refused while others go on, one step after the other
pub refused_on : (first first' n n' : ℕ) (before mid after : List ToolFault) → first' ≡ first → n' ≡ n → (All (IsFileFaultOf first n) before → All (IsFileFaultOf first n) mid) → (All (IsFileFaultOf first' n') mid → All (IsFileFaultOf first' n') after) → All (IsFileFaultOf first n) before → All (IsFileFaultOf first n) after
refused_on first first' n n' before mid after same count earlier more all =
    subst (λ (k : ℕ × ℕ). All (IsFileFaultOf k.0 k.1) after) (λ i. (same i, count i))
    (more (subst (λ (k : ℕ × ℕ). All (IsFileFaultOf k.0 k.1) mid) (λ i. (sym same i, sym count i)) (earlier all)))

-- without what the system says of it a server's fault is one of the same kind
bare_server : (file : ProtocolFile) (folder : Option (List ℕ)) (first n : ℕ) (fault : ToolFault) → IsServeFault file folder first n fault → IsServeFault file folder first n (without fault)
bare_server file None first n (File name why) h = h
bare_server file None first n (Read why) h = h
bare_server file None first n (Bind why) h = h
bare_server file None first n (JournalFile session why) h = h
bare_server file None first n (JournalLine session line why) h = h
bare_server file None first n (JournalLost session why) h = h
bare_server file (Some folder) first n (File name why) h = h
bare_server file (Some folder) first n (Read why) h = h
bare_server file (Some folder) first n (Bind why) h = h
bare_server file (Some folder) first n (JournalFile session why) h = h
bare_server file (Some folder) first n (JournalLine session line why) h = h
bare_server file (Some folder) first n (JournalLost session why) h = h
bare_server file folder first n fault h = h

pub server_told : {A : Type 0} (verbose : Bool) (done : Result A ToolFault) (file : ProtocolFile) (folder : Option (List ℕ)) (first n : ℕ) → IfErr done (IsServeFault file folder first n) → IfErr (as_told verbose done) (IsServeFault file folder first n)
server_told true done file folder first n h = h
server_told false (Ok x) file folder first n h = tt
server_told false (Err fault) file folder first n h = bare_server file folder first n fault h

-- nor is a host's
bare_host : (file : ProtocolFile) (folder : Option (List ℕ)) (fault : ToolFault) → IsHostFault file folder fault → IsHostFault file folder (without fault)
bare_host file None (File name why) h = h
bare_host file None (Read why) h = h
bare_host file None (Bind why) h = h
bare_host file None (JournalFile session why) h = h
bare_host file None (JournalLine session line why) h = h
bare_host file None (JournalLost session why) h = h
bare_host file (Some folder) (File name why) h = h
bare_host file (Some folder) (Read why) h = h
bare_host file (Some folder) (Bind why) h = h
bare_host file (Some folder) (JournalFile session why) h = h
bare_host file (Some folder) (JournalLine session line why) h = h
bare_host file (Some folder) (JournalLost session why) h = h
bare_host file folder fault h = h

pub host_told : {A : Type 0} (verbose : Bool) (done : Result A ToolFault) (file : ProtocolFile) (folder : Option (List ℕ)) → IfErr done (IsHostFault file folder) → IfErr (as_told verbose done) (IsHostFault file folder)
host_told true done file folder h = h
host_told false (Ok x) file folder h = tt
host_told false (Err fault) file folder h = bare_host file folder fault h

-- why a text gives no session, as the program tells it
pub no_types : (merging : Merging) (text : List ℕ) (why : Fault) → GivesNoSession merging text why → GivesNoTypes merging text (of_opening why)
no_types merging text (opening.Text at kind) h = h
no_types merging text (opening.Protocol fault) h = h
no_types merging text (opening.Projection role name choice) h = (role, h)
no_types merging text opening.Memory h = h

-- a text that was given to its end, of this opening
pub given_opening : (merging : Merging) (given left : Option (List ℕ)) (text : List ℕ) (o : Opening) → Consumes given left text → (length text ≤ longest → IsAtEnd left) → o.merging ≡ merging → AreTypesOf merging text o.roles (map plain o.types.items) → IsProtocolText text o.protocol.roles.items (global_type o.protocol.body) → HasGivenOpening merging given left o
given_opening merging given left text o bytes whole is typed read = record {
  merging_is = is;
  loaded = record { text = text; bytes = bytes; over = whole typed.read.limits.short; typed = typed };
  read = read;
}
