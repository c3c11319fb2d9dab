-- The entries of a journal can be written as lines.
use Rattle.std.proofs.Common.{arith, rules, ◌≡◌, ℕ, ◌<◌, zero, suc, true, List, [], ◌∷◌, ◌++◌, length, None, Some, slice_get, sym, ap, ◌∙◌, subst}
use Rattle.mps_base.specs.declared.action.Act.{Act}
use Rattle.mps_base.specs.declared.action.Step.{Step}
use Rattle.mps_command.specs.Acts.{act_of}
use Rattle.mps_command.specs.declared.command.Change.TheVariants as changes
use Rattle.mps_command.specs.declared.command.Command.{Command}
use Rattle.mps_command.specs.declared.command.Command.TheVariants.{Forward, Undo, Rollback, Back, News, Show, Stand}
use Rattle.mps_command.specs.declared.command.Forward.{Forward as Wanted}
use Rattle.mps_line.specs.Commands.{NamesRolesOf}
use Rattle.mps_line.specs.JournalLines.{CanBeWritten}
use Rattle.mps_local.specs.Local.{LocalType}
use Rattle.mps_machine.specs.Machine.{State, initial, serve, view_of, IsSound}
use Rattle.mps_machine.specs.View.{View, opening}
use Rattle.mps_machine.specs.Violations.{violation}
use Rattle.mps_machine.proofs.Defined.{allowed_step}
use Rattle.mps_machine.proofs.Sound.{initial_sound, view_is}
use Rattle.mps_room.specs.Journal.{run, limited, answer_to, is_accepted, FollowsOn}
use Rattle.mps_room.specs.declared.entry.Entry.{Entry}
use Rattle.mps_room.proofs.Faithful.{run_sound}
use Rattle.mps_session.specs.Peers.{HavePeers, IsPeerKnown}
use Rattle.mps_session.proofs.StepsNameRoles.{step_peers, replay_peers, opening_peers}

-- the peer of an act is the one that the command names
named_peer : (names : List (List ℕ)) (n : ℕ) (wanted : Wanted) → length names ≡ n → IsPeerKnown n (act_of wanted) → NamesRolesOf names (Forward wanted)
named_peer names n wanted many known = grind arith

module _ (types : List LocalType) (peers : HavePeers types) (st : State) (ok : IsSound types st) (p : ℕ) where
  -- an act that is allowed names one of the roles
  allowed_peer : (act : Act) → violation (view_of types st.history) p act ≡ None → IsPeerKnown (length types) act
  allowed_peer act fine =
      let s : Step = record { id = st.next; role = p; act = act } in
      let now = replay_peers (length types) (opening types) ok.view st.history (opening_peers types peers) ok.replayed in
      let step = allowed_step ok.view s (subst (λ (v : View). violation v p act ≡ None) (view_is types st ok) fine) in
      (step_peers (length types) ok.view step.0 s now step.1).0

  -- a step that is accepted is allowed
  allowed : (n : ℕ) (wanted : Wanted) → is_accepted (limited n (serve types st p (changes.Forward wanted)).0) ≡ true → violation (view_of types st.history) p (act_of wanted) ≡ None
  allowed n wanted e = grind arith

module _ (names : List (List ℕ)) (types : List LocalType) (peers : HavePeers types) (many : length names ≡ length types) where
  accepted_written : (before : List Entry) (p : ℕ) (c : Command) → p < length types → is_accepted (answer_to names types before p c) ≡ true → CanBeWritten names p c
  accepted_written before p (Forward wanted) known e =
      let st = run types before in
      let ok = run_sound types initial before (initial_sound types) in
      let peer = allowed_peer types peers st ok p (act_of wanted) (allowed types peers st ok p (length before) wanted e) in
      record { known = omega arith; named = named_peer names (length types) wanted many peer; asks = search rules }
  accepted_written before p (Undo n) known e = grind arith
  accepted_written before p (Rollback n) known e = grind arith
  accepted_written before p (Back name) known e = grind arith
  accepted_written before p (News n) known e = absurd cc
  accepted_written before p Show known e = absurd cc
  accepted_written before p Stand known e = absurd cc

  -- each entry of a journal was accepted
  pub entry_written : (before j : List Entry) (k : ℕ) (e : Entry) → FollowsOn names types before j → slice_get j k ≡ Some e → CanBeWritten names e.role e.command
  entry_written before [] k e all got = absurd cc
  entry_written before (f ∷ j) zero e all got =
      let a = all.0 in
      subst (λ (x : Entry). CanBeWritten names x.role x.command) (let same : f ≡ e = cc in same)
      (accepted_written before f.role f.command a.known (ap is_accepted (sym a.answer) ∙ a.accepted))
  entry_written before (f ∷ j) (suc k) e all got = entry_written (before ++ f ∷ []) j k e all.1 got
