-- What a room keeps, one entry later.
use Rattle.std.proofs.Common.{arith, ◌≡◌, ℕ, ◌<◌, true, false, List, [], ◌∷◌, ◌++◌, Option, sym, ap, ◌∙◌, subst}
use Rattle.std.proofs.lemmas.List.{length-map}
use Rattle.std.specs.Prelude.{length, slice_index_or}
use Rattle.mps_base.specs.declared.action.Step.{Step}
use Rattle.mps_command.specs.Changes.{command_of}
use Rattle.mps_command.specs.declared.answer.Answer.{Answer}
use Rattle.mps_command.specs.declared.command.Change.{Change}
use Rattle.mps_command.specs.declared.command.Command.{Command}
use Rattle.mps_machine.specs.Machine.{serve}
use Rattle.mps_session.specs.Answers.{answer_of, source_of, IsGistFor, IsSent}
use Rattle.mps_session.specs.SessionState.{SessionState}
use Rattle.mps_session.specs.declared.gist.Gist.{Gist}
use Rattle.mps_room.specs.Journal.{most_entries, undone_by, is_accepted, grown, answer_to}
use Rattle.mps_room.specs.Private.Forms.{narrow_answer, narrow, source_place, Fits}
use Rattle.mps_room.specs.Private.Heard.{hears, with_place, takes_others, AreHeard}
use Rattle.mps_room.specs.Private.Owners.{owns, owners_after}
use Rattle.mps_room.specs.Private.Rooms.{IsRoom}
use Rattle.mps_room.specs.Private.Narrow.{Narrow, whole, journal_of, IsGiven}
use Rattle.mps_room.specs.declared.entry.Entry.{Entry}
use Rattle.mps_room.proofs.Fitting.{fits_gist, IsOfKind}
use Rattle.mps_room.proofs.Consistency as consistency
use Rattle.mps_room.proofs.Tracing as tracing

module _ (names : List (List ℕ)) (m : SessionState) (owners places : List ℕ) (count : ℕ) (lists : List (List ℕ)) (js : List Narrow) (old : IsRoom names m owners places count lists js) (p : ℕ) (known : p < length m.types) (change : Change) (a : Answer) (is : a ≡ (serve m.types m.state p change).0) (kept : is_accepted a ≡ true) (space : length js < most_entries) (command : Command) (asks : command ≡ command_of change) (gist : Gist) (kind : IsGistFor command gist) (sent : IsSent m.state.history (source_of gist)) (of : a ≡ answer_of m.state.history gist) where
  abbrev h : List Step
  h = m.state.history

  abbrev place : Option ℕ
  place = source_place places gist

  abbrev pub entry : Narrow
  entry = narrow p command gist place

  abbrev answered : Entry
  answered = record { role = p; command = command; answer = a }

  count_is : length (journal_of js) ≡ length js
  count_is = length-map js (whole js)

  room : length (journal_of js) < most_entries
  room = subst (λ (n : ℕ). n < most_entries) (sym count_is) space

  given : IsGiven js place
  given = tracing.given_there js places owners h old.sent gist sent

  -- the answer is of the command's kind, and so is its gist
  pub fits : (ps : List ℕ) → ps ≡ places → Fits command gist (source_place ps gist)
  fits ps same =
      let of_kind = consistency.kind_as names m owners count lists (journal_of js) old.consistent p known change a is kept room command asks in
      subst (λ (q : List ℕ). Fits command gist (source_place q gist)) (sym same)
      (fits_gist js h places command gist kind (subst (IsOfKind command) of of_kind) given (tracing.taken_there js places owners h old.sent gist sent))

  joined : (l : List Narrow) → l ≡ js ++ entry ∷ [] → journal_of l ≡ journal_of js ++ answered ∷ []
  joined l more =
      ap journal_of more
      ∙ tracing.journal_with js entry old.sent.sources given
      ∙ ap (λ (w : Entry). journal_of js ++ w ∷ []) (tracing.whole_there js places owners h old.sent p command gist a sent of)

  pub grown_as : (l : List Narrow) → l ≡ js ++ entry ∷ [] → journal_of l ≡ grown (journal_of js) p command a
  grown_as l more = grind (arith, room, joined)

  pub answered_as : answer_to names m.types (journal_of js) p command ≡ a
  answered_as = consistency.answered_as names m owners count lists (journal_of js) old.consistent p known change a is kept room command asks

  owned_is : (os : List ℕ) (k : ℕ) → owners_after os k (narrow_answer gist) ≡ owners_after os k a
  owned_is os k = tracing.narrow_owners h gist os k ∙ ap (owners_after os k) (sym of)

  undone_is : undone_by (narrow_answer gist) ≡ undone_by a
  undone_is = tracing.narrow_undone h gist ∙ ap undone_by (sym of)

  -- the lists of what each role hears of
  heard_as : (heard : List (List ℕ)) → length heard ≡ 8
      → (takes_others command ≡ true → (q : ℕ) → q < count → slice_index_or heard q [] ≡ with_place (hears (owns owners q) q p (undone_by (narrow_answer gist))) (length js) (slice_index_or lists q []))
      → (takes_others command ≡ false → heard ≡ lists)
      → AreHeard count heard (journal_of js ++ record { role = p; command = command_of change; answer = a } ∷ [])
  heard_as heard each told same =
      consistency.heard_as names m owners count lists (journal_of js) old.consistent p known change a is kept room command asks heard each
      (grind (arith, undone_is, count_is))
      same

  pub kept_as : (now : SessionState) (os ps : List ℕ) (n : ℕ) (heard : List (List ℕ)) (l : List Narrow) → now.types ≡ m.types → now.state ≡ (serve m.types m.state p change).1
      → os ≡ owners_after owners p (narrow_answer gist) → ps ≡ owners_after places (length js) (narrow_answer gist) → n ≡ count → length heard ≡ 8
      → (takes_others command ≡ true → (q : ℕ) → q < count → slice_index_or heard q [] ≡ with_place (hears (owns owners q) q p (undone_by (narrow_answer gist))) (length js) (slice_index_or lists q []))
      → (takes_others command ≡ false → heard ≡ lists)
      → l ≡ js ++ entry ∷ [] → IsRoom names now os ps n heard l
  kept_as now os ps n heard l types state owned placed counted each told same more =
      record {
        consistent = consistency.consistent_as names m owners count lists (journal_of js) old.consistent p known change a is kept room command asks
            now os n heard (journal_of l) types state (owned ∙ owned_is owners p) counted (heard_as heard each told same) (joined l more);
        sent = tracing.traced_as m.types m.state p change js places owners old.consistent.owners.next old.sent entry asks given a is kept
            ps os now.state.history l (placed ∙ owned_is places (length js)) (owned ∙ owned_is owners p) (ap (λ st. st.history) state) more;
      }
