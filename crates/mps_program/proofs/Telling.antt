-- From the parts of what a server tells to the whole.
use Rattle.std.specs.Prelude.{if◌then◌else◌}
use Rattle.std.proofs.Common.{◌≡◌, ℕ, suc, Bool, true, false, ◌+◌, List, [], ◌∷◌, ◌++◌, Option, Some, None, Result, Ok, Err, IfErr, IsErrAnd, OnOk, length, refl, sym, ap, ◌∙◌, subst, arith}
use Rattle.mps_room.specs.RoomState.{RoomState}
use Rattle.mps_cell.specs.Cells.{Opened}
use Rattle.mps_hub.specs.Halls.{AreClosed}
use Rattle.mps_wire.proofs.Bytes.{Appends-none, Appends-trans}
use Rattle.mps_program.specs.Served.{IsSessionLine, AreSessionLines, AreLinesUpTo, HasServed, HasServedUpTo, IfLost, IsTellFault, IsOutFault, is_first_served, past_first, served_of}
use Rattle.mps_program.specs.Private.Served.{TookOne, TellsPort, IsHubFault, of_serving}
use Rattle.mps_hub.specs.Serving.{IsServeFaultOf}
use Rattle.mps_hub.specs.declared.server.ServeFault.{ServeFault}
use Rattle.mps_hub.specs.declared.server.ServeFault.TheVariants.{Accept as NotAccepted, Memory as OutOfMemory, NoneLeft, Unrecorded}
use Rattle.mps_program.specs.Faults.{after_writes, failed_writes}
use Rattle.mps_program.specs.declared.faults.ToolFault.{ToolFault}
use Rattle.mps_program.specs.declared.faults.ToolFault.TheVariants.{Write, Bind, Accept, JournalBroken, Lost, Memory}

pub on_ok : {A E : Type 0} (r : Result A E) (P Q : Type 0) → (P → Q) → OnOk r P → OnOk r Q
on_ok (Ok x) P Q f h = f h
on_ok (Err e) P Q f h = tt

pub on_err : {A : Type 0} (r : Result A ToolFault) (P Q : ToolFault → Type 0) → ((e : ToolFault) → P e → Q e) → IfErr r P → IfErr r Q
on_err (Ok x) P Q f h = tt
on_err (Err e) P Q f h = f e h

-- the first session was served, and so are some of the others
pub first_served : {K : Type 0} (session next : ℕ) (keepers others : List (Option K)) (room : Option RoomState) (rooms later : List (Option RoomState)) → is_first_served keepers ≡ true → rooms ≡ room ∷ later → next ≡ session + 1 → others ≡ past_first keepers → served_of session keepers rooms ≡ (session, room) ∷ served_of next others later
first_served session next keepers others room rooms later is split at same =
    let step : suc session ≡ next = omega (arith, at) in
    ap (λ (l : List (Option RoomState)). served_of session keepers l) split
    ∙ ap (λ b. if b then (session, room) ∷ served_of (suc session) (past_first keepers) later else served_of (suc session) (past_first keepers) later) is
    ∙ ap (λ n. (session, room) ∷ served_of n (past_first keepers) later) step ∙ ap (λ ks. (session, room) ∷ served_of next ks later) (sym same)

-- it wasn't
pub first_unserved : {K : Type 0} (session next : ℕ) (keepers others : List (Option K)) (room : Option RoomState) (rooms later : List (Option RoomState)) → is_first_served keepers ≡ false → rooms ≡ room ∷ later → next ≡ session + 1 → others ≡ past_first keepers → served_of session keepers rooms ≡ served_of next others later
first_unserved session next keepers others room rooms later is split at same =
    let step : suc session ≡ next = omega (arith, at) in
    ap (λ (l : List (Option RoomState)). served_of session keepers l) split
    ∙ ap (λ b. if b then (session, room) ∷ served_of (suc session) (past_first keepers) later else served_of (suc session) (past_first keepers) later) is
    ∙ ap (λ n. served_of n (past_first keepers) later) step ∙ ap (λ ks. served_of next ks later) (sym same)

-- one session's line, and those after it
one_more : (session : ℕ) (m : RoomState) (others : List (ℕ × Option RoomState)) (took mid taken : Option (List ℕ)) → TookOne (IsSessionLine session (length m.journal)) took mid → TookOne (AreSessionLines others) mid taken → TookOne (AreSessionLines ((session, Some m) ∷ others)) took taken
one_more session m others took mid taken (line, is, sent) (rest, are, more) = (line ++ rest, (line, rest, is, refl, are), Appends-trans took mid taken line rest sent more)

-- the same, where the lines after it may not all be told
pub told_rest : {A : Type 0} (r : Result A ToolFault) (session : ℕ) (m : RoomState) (all others : List (ℕ × Option RoomState)) (took mid taken : Option (List ℕ)) → all ≡ (session, Some m) ∷ others → TookOne (IsSessionLine session (length m.journal)) took mid → OnOk r (TookOne (AreSessionLines others) mid taken) → OnOk r (TookOne (AreSessionLines all) took taken)
told_rest r session m all others took mid taken split first rest =
    on_ok r (TookOne (AreSessionLines others) mid taken) (TookOne (AreSessionLines all) took taken)
    (λ h. subst (λ (l : List (ℕ × Option RoomState)). TookOne (AreSessionLines l) took taken) (sym split) (one_more session m others took mid taken first h)) rest

-- where the first wasn't served
pub told_same : {A : Type 0} (r : Result A ToolFault) (all others : List (ℕ × Option RoomState)) (took taken : Option (List ℕ)) → all ≡ others → OnOk r (TookOne (AreSessionLines others) took taken) → OnOk r (TookOne (AreSessionLines all) took taken)
told_same r all others took taken same h = subst (λ (l : List (ℕ × Option RoomState)). OnOk r (TookOne (AreSessionLines l) took taken)) (sym same) h

pub lost_same : {A : Type 0} (r : Result A ToolFault) (all others : List (ℕ × Option RoomState)) (took taken : Option (List ℕ)) → all ≡ others → IfErr r (IfLost (λ k. TookOne (AreLinesUpTo others k) took taken)) → IfErr r (IfLost (λ k. TookOne (AreLinesUpTo all k) took taken))
lost_same r all others took taken same h = subst (λ (l : List (ℕ × Option RoomState)). IfErr r (IfLost (λ k. TookOne (AreLinesUpTo l k) took taken))) (sym same) h

-- of no sessions nothing is told
pub none_told : (all : List (ℕ × Option RoomState)) (took : Option (List ℕ)) → all ≡ [] → TookOne (AreSessionLines all) took took
none_told all took split = ([], subst (λ (l : List (ℕ × Option RoomState)). AreSessionLines l []) (sym split) refl, Appends-none took)

-- the port's line, and those of the sessions
pub served : {K : Type 0} (wanted first number : ℕ) (keepers : List (Option K)) (cells cells' : List Opened) (took mid taken : Option (List ℕ)) (rooms slice : List (Option RoomState)) → number ≡ first → cells' ≡ cells → slice ≡ rooms → TookOne (TellsPort wanted) took mid → AreClosed cells' rooms → TookOne (AreSessionLines (served_of number keepers slice)) mid taken → HasServed wanted first keepers cells took taken
served wanted first number keepers cells cells' took mid taken rooms slice at same value (opening, (port, port_is, listening), sent) closed (lines, told, more) = record {
  port = port;
  port_is = port_is;
  rooms = rooms;
  opening = opening;
  lines = lines;
  listening = listening;
  closed = subst (λ (c : List Opened). AreClosed c rooms) same closed;
  told = subst (λ (n : ℕ). AreSessionLines (served_of n keepers rooms) lines) at (subst (λ (r : List (Option RoomState)). AreSessionLines (served_of number keepers r) lines) value told);
  sent = Appends-trans took mid taken opening lines sent more;
}

-- a line that fails to be told names no session that is lost
pub none_lost : (P : ℕ → Type 0) (fault : ToolFault) → IsTellFault 1 0 fault → IfLost P fault
none_lost P (Lost k) h = absurd (omega (arith, h.0, h.1))
none_lost P fault h = tt

pub hub_lost : (first recorded : ℕ) (P : ℕ → Type 0) (fault : ToolFault) → IsHubFault first recorded fault → IfLost P fault
hub_lost first recorded P (Lost k) h = absurd h
hub_lost first recorded P fault h = tt

if_lost : (P Q : ℕ → Type 0) → ((k : ℕ) → P k → Q k) → (fault : ToolFault) → IfLost P fault → IfLost Q fault
if_lost P Q f (Lost k) h = f k h
if_lost P Q f fault h = tt

-- the first session is lost
pub first_lost : (session : ℕ) (all others : List (ℕ × Option RoomState)) (took : Option (List ℕ)) → all ≡ (session, None) ∷ others → TookOne (AreLinesUpTo all session) took took
first_lost session all others took split = ([], subst (λ (l : List (ℕ × Option RoomState)). AreLinesUpTo l session []) (sym split) (refl, refl), Appends-none took)

-- one session's line, and those after it up to the first that is lost
pub lost_rest : {A : Type 0} (r : Result A ToolFault) (session : ℕ) (m : RoomState) (all others : List (ℕ × Option RoomState)) (took mid taken : Option (List ℕ)) → all ≡ (session, Some m) ∷ others → TookOne (IsSessionLine session (length m.journal)) took mid
    → IfErr r (IfLost (λ k. TookOne (AreLinesUpTo others k) mid taken)) → IfErr r (IfLost (λ k. TookOne (AreLinesUpTo all k) took taken))
lost_rest r session m all others took mid taken split (line, is, sent) rest =
    on_err r (IfLost (λ k. TookOne (AreLinesUpTo others k) mid taken)) (IfLost (λ k. TookOne (AreLinesUpTo all k) took taken))
    (if_lost (λ k. TookOne (AreLinesUpTo others k) mid taken) (λ k. TookOne (AreLinesUpTo all k) took taken) (λ k h. (
      line ++ h.0,
      subst (λ (l : List (ℕ × Option RoomState)). AreLinesUpTo l k (line ++ h.0)) (sym split) (line, h.0, is, refl, h.1),
      Appends-trans took mid taken line h.0 sent h.2,
    ))) rest

-- the port's line, and those of the sessions up to the first that is lost
pub served_broken_off : {A K : Type 0} (r : Result A ToolFault) (wanted first number : ℕ) (keepers : List (Option K)) (cells cells' : List Opened) (took mid taken : Option (List ℕ)) (rooms slice : List (Option RoomState)) → number ≡ first → cells' ≡ cells → slice ≡ rooms → TookOne (TellsPort wanted) took mid → AreClosed cells' rooms
    → IfErr r (IfLost (λ k. TookOne (AreLinesUpTo (served_of number keepers slice) k) mid taken)) → IfErr r (IfLost (HasServedUpTo wanted first keepers cells took taken))
served_broken_off r wanted first number keepers cells cells' took mid taken rooms slice at same value (opening, (port, port_is, listening), sent) closed rest =
    on_err r (IfLost (λ k. TookOne (AreLinesUpTo (served_of number keepers slice) k) mid taken)) (IfLost (HasServedUpTo wanted first keepers cells took taken))
    (if_lost (λ k. TookOne (AreLinesUpTo (served_of number keepers slice) k) mid taken) (HasServedUpTo wanted first keepers cells took taken) (λ k h. record {
      port = port;
      port_is = port_is;
      rooms = rooms;
      opening = opening;
      lines = h.0;
      listening = listening;
      closed = subst (λ (c : List Opened). AreClosed c rooms) same closed;
      told = subst (λ (n : ℕ). AreLinesUpTo (served_of n keepers rooms) k h.0) at (subst (λ (l : List (Option RoomState)). AreLinesUpTo (served_of number keepers l) k h.0) value h.1);
      sent = Appends-trans took mid taken opening h.0 sent h.2;
    })) rest

-- a line that fails to be told is no lost session
pub any_tell : (session n : ℕ) (fault : ToolFault) → IsTellFault 1 0 fault → IsTellFault session n fault
any_tell session n (Lost k) h = absurd (omega (arith, h.0, h.1))
any_tell session n Write h = tt
any_tell session n Memory h = tt
any_tell session n fault h = absurd h

pub later_tell : (session n : ℕ) (fault : ToolFault) → IsTellFault (session + 1) n fault → IsTellFault session (n + 1) fault
later_tell session n (Lost k) h = (omega (arith, h.0), omega (arith, h.1))
later_tell session n Write h = tt
later_tell session n Memory h = tt
later_tell session n fault h = absurd h

pub out_tell : (recorded first n : ℕ) (fault : ToolFault) → IsTellFault first n fault → IsOutFault recorded first n fault
out_tell recorded first n (Bind why) h = tt
out_tell recorded first n Accept h = tt
out_tell recorded first n (JournalBroken session) h = absurd h
out_tell recorded first n fault h = h

pub hub_out : (recorded first n : ℕ) (fault : ToolFault) → IsHubFault first recorded fault → IsOutFault recorded first n fault
hub_out recorded first n Write h = tt
hub_out recorded first n (Bind why) h = tt
hub_out recorded first n Accept h = tt
hub_out recorded first n Memory h = tt
hub_out recorded first n (JournalBroken session) h = h
hub_out recorded first n fault h = absurd h

-- the port's line fails to be told
pub tell_hub : (first recorded : ℕ) (fault : ToolFault) → IsTellFault 1 0 fault → IsHubFault first recorded fault
tell_hub first recorded Write h = tt
tell_hub first recorded Memory h = tt
tell_hub first recorded (Lost k) h = absurd (omega (arith, h.0, h.1))
tell_hub first recorded fault h = absurd h

-- the serving ends
pub serving_hub : (strict : Bool) (first recorded : ℕ) (fault : ServeFault) → IsServeFaultOf strict first recorded fault → IsHubFault first recorded (of_serving fault)
serving_hub strict first recorded NotAccepted h = tt
serving_hub strict first recorded OutOfMemory h = tt
serving_hub strict first recorded (Unrecorded session) h = h.1
serving_hub strict first recorded NoneLeft h = tt

pub serving_writes : (fault : ServeFault) → failed_writes (of_serving fault) ≡ 0
serving_writes NotAccepted = refl
serving_writes OutOfMemory = refl
serving_writes (Unrecorded session) = refl
serving_writes NoneLeft = refl

-- a fault that is handed on, and is no failed write
pub same_writes : {A : Type 0} (r : Result A ToolFault) (e : ToolFault) (before : ℕ) → IsErrAnd r (λ x. x ≡ e) → failed_writes e ≡ 0 → before ≡ after_writes r before
same_writes (Ok x) e before is none = absurd is
same_writes (Err x) e before is none = let same : failed_writes x ≡ failed_writes e = ap failed_writes is in omega (arith, same, none)
