-- From what the parts of a comparison say to what the whole says.
use Rattle.std.proofs.Common.{◌≡◌, ℕ, List, [], Result, Err, IfErr, inl, inr, sym, subst}
use Rattle.mps_local.specs.Local.{LocalType}
use Rattle.mps_room.specs.Journal.{run}
use Rattle.mps_room.specs.declared.entry.Entry.{Entry}
use Rattle.mps_session.specs.SessionState.{SessionState}
use Rattle.mps_wire.specs.Streams.{Streams}
use Rattle.mps_wire.specs.Runs.{Ran}
use Rattle.mps_wire.specs.Script.{AnswersLine}
use Rattle.mps_program.specs.Compared.{CantCompare, HasCompared, HasRun, HasStopped}
use Rattle.mps_program.specs.Private.Compared.{CantFollow, HasFollowed}
use Rattle.mps_program.specs.Faults.{IsBreak, IsSameButForReads, IsScriptsFault, of_script}
use Rattle.mps_program.specs.declared.faults.ToolFault.{ToolFault}
use Rattle.mps_program.specs.declared.faults.ToolFault.TheVariants.{Read}
use Rattle.mps_wire.specs.declared.script.ReplayFault.{ReplayFault}
use Rattle.mps_wire.specs.declared.script.ReplayFault.TheVariants.{Open, ReadFault, WriteFault, Turns, Memory}

-- what is told of a session and of the one that the second script left is told of the two scripts, where the first left that session
pub followed : (names : List (List ℕ)) (types : List LocalType) (first : List Entry) (session : SessionState) → session ≡ record { types = types; state = run types first } → (before after before' after' : Streams) (line : List ℕ) (status : ℕ) → HasRun names types before after first → HasFollowed names session before' after' line status → HasCompared names types before after before' after' line status
followed names types first session is before after before' after' line status ran h =
    let seen = subst (λ (m : SessionState). HasFollowed names m before' after' line status) is h in
    record {
      first = first;
      second = seen.second;
      first_ran = ran;
      second_ran = seen.ran;
      views = seen.views;
      swaps = seen.swaps;
    }

-- the same, where the types are the first script's
on_types : (names : List (List ℕ)) (types : List LocalType) (first : List Entry) (before after before' after' : Streams) (fault : ToolFault) → HasRun names types before after first → CantFollow names types before' after' fault → CantCompare names types before after before' after' fault
on_types names types first before after before' after' fault ran (inl stopped) = inr (inl (first, ran, stopped))
on_types names types first before after before' after' fault ran (inr h) = inr (inr (first, h.0, ran, h.1, h.2))

-- why nothing is told after the second script is why nothing is told of the two
pub cant_follow : (names : List (List ℕ)) (types : List LocalType) (first : List Entry) (types' : List LocalType) → types' ≡ types → (before after before' after' : Streams) (fault : ToolFault) → HasRun names types before after first → CantFollow names types' before' after' fault → CantCompare names types before after before' after' fault
cant_follow names types first types' same before after before' after' fault ran h = on_types names types first before after before' after' fault ran
    (subst (λ (t : List LocalType). CantFollow names t before' after' fault) same h)

-- ---- faults

-- how the run of a script breaks off
end_breaks : (names : List (List ℕ)) (types : List LocalType) (before after : Streams) (end : ReplayFault) → Ran (AnswersLine names types) [] before after (Err end) → IsBreak (of_script end)
end_breaks names types before after (Open fault) h = absurd h
end_breaks names types before after ReadFault h = tt
end_breaks names types before after WriteFault h = tt
end_breaks names types before after Turns h = tt
end_breaks names types before after Memory h = tt

stop_breaks : (names : List (List ℕ)) (types : List LocalType) (before after : Streams) (fault : ToolFault) → HasStopped names types before after fault → IsBreak fault
stop_breaks names types before after fault (end, is, ran) = subst IsBreak (sym is) (end_breaks names types before after end ran)

-- nothing is told of two scripts since a run broke off, or memory ran out
cant_break : (names : List (List ℕ)) (types : List LocalType) (before after before' after' : Streams) (fault : ToolFault) → CantCompare names types before after before' after' fault → IsBreak fault
cant_break names types before after before' after' fault (inl h) = stop_breaks names types before after fault h.0
cant_break names types before after before' after' fault (inr (inl h)) = stop_breaks names types before' after' fault h.2
cant_break names types before after before' after' fault (inr (inr h)) = subst IsBreak (sym h.4) tt

same_break : (fault told : ToolFault) → IsSameButForReads fault told → IsBreak fault → IsBreak told
same_break (Read why) told is b = subst IsBreak (sym is.1) tt
same_break fault told is b = subst IsBreak (sym is) b

at_err : {A : Type 0} (r : Result A ToolFault) (fault : ToolFault) (P : ToolFault → Type 0) → r ≡ Err fault → IfErr r P → P fault
at_err {A = A} r fault P is h = subst (λ (x : Result A ToolFault). IfErr x P) is h

-- the fault of two scripts, once it was looked at twice for what the system said
pub scripts_fail : {A : Type 0} (names : List (List ℕ)) (types : List LocalType) (before after before' after' : Streams) (verdict once : Result A ToolFault) (told : ToolFault) (script other : List ℕ) → IfErr verdict (CantCompare names types before after before' after')
    → IfErr once (λ t. (fault : ToolFault) × (verdict ≡ Err fault) × IsSameButForReads fault t) → ((fault : ToolFault) × (once ≡ Err fault) × IsSameButForReads fault told) → IsScriptsFault script other told
scripts_fail names types before after before' after' verdict once told script other cant first (middle, is, same) =
    let was = at_err once middle (λ t. (fault : ToolFault) × (verdict ≡ Err fault) × IsSameButForReads fault t) is first in
    let breaks = cant_break names types before after before' after' was.0 (at_err verdict was.0 (CantCompare names types before after before' after') was.1 cant) in
    inl (inr (same_break middle told same (same_break was.0 middle was.2 breaks)))
