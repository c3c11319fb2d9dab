-- What a room keeps, one entry later.
use Rattle.std.proofs.Common.{◌≡◌, ℕ, ◌<◌, true, false, List, [], ◌∷◌, ◌++◌, Err, ap, ◌∙◌, arith}
use Rattle.std.specs.Prelude.{length, slice_index_or}
use Rattle.mps_command.specs.Changes.{command_of}
use Rattle.mps_command.specs.declared.answer.Answer.{Answer}
use Rattle.mps_command.specs.declared.answer.Answer.TheVariants.{Refused}
use Rattle.mps_command.specs.declared.answer.Refusal.{Refusal}
use Rattle.mps_command.specs.declared.command.Change.{Change}
use Rattle.mps_command.specs.declared.command.Command.{Command}
use Rattle.mps_machine.specs.Answering.{IsChanged}
use Rattle.mps_machine.specs.Machine.{State, serve}
use Rattle.mps_session.specs.SessionState.{SessionState}
use Rattle.mps_room.specs.Journal.{most_entries, undone_by, is_accepted, grown, answer_to, MayAnswer}
use Rattle.mps_room.specs.Private.Heard.{AreHeard, hears, with_place, takes_others}
use Rattle.mps_room.specs.Private.Owners.{owns, owners_after}
use Rattle.mps_room.specs.Private.Rooms.{IsConsistent}
use Rattle.mps_room.proofs.Fitting.{fits_command, IsOfKind}
use Rattle.mps_room.specs.declared.entry.Entry.{Entry}
use Rattle.mps_room.proofs.Growing as growing
use Rattle.mps_room.proofs.Refusing.{refused_too}
use Rattle.mps_room.proofs.Owning.{owners_with}
use Rattle.mps_room.proofs.Telling.{given_with, heard_with}

module _ (names : List (List ℕ)) (m : SessionState) (owners : List ℕ) (count : ℕ) (lists : List (List ℕ)) (j : List Entry) (old : IsConsistent names m owners count lists j) (p : ℕ) (known : p < length m.types) (change : Change) (a : Answer) (is : a ≡ (serve m.types m.state p change).0) (kept : is_accepted a ≡ true) (space : length j < most_entries) where
  abbrev pub one_more : List Entry
  one_more = j ++ record { role = p; command = command_of change; answer = a } ∷ []

  -- the session after the change is that of the journal with its entry
  pub recorded_with : (now : SessionState) (heard : List (List ℕ)) → now.types ≡ m.types → now.state ≡ (serve m.types m.state p change).1 → AreHeard count heard one_more → IsConsistent names now (owners_after owners p a) count heard one_more
  recorded_with now heard types state hears =
      let by_run = is ∙ ap (λ (st : State). (serve m.types st p change).0) old.state in
      let legal = growing.legal_with names m.types j p change a by_run known old.legal space kept in
      let ran = growing.state_with names m.types j p change a by_run now.state (state ∙ ap (λ (st : State). (serve m.types st p change).1) old.state) in
      grind (arith, owners_with m.types m.state j p change owners old.owners a is kept, given_with m.types m.state j p change owners old.owners old.given a is kept)

  -- the lists after the change
  pub heard_as : (command : Command) → command ≡ command_of change → (heard : List (List ℕ)) → length heard ≡ 8
      → (takes_others command ≡ true → (q : ℕ) → q < count → slice_index_or heard q [] ≡ with_place (hears (owns owners q) q p (undone_by a)) (length j) (slice_index_or lists q []))
      → (takes_others command ≡ false → heard ≡ lists)
      → AreHeard count heard one_more
  heard_as command asks heard each told same =
      heard_with m.types m.state j p change owners old.owners old.given a is kept (owners_with m.types m.state j p change owners old.owners a is kept) count lists heard old.heard each
      (λ q known others. told (ap takes_others asks ∙ others) q known)
      (λ own. same (ap takes_others asks ∙ own))

  -- the answer is the one that is wanted
  pub answered : answer_to names m.types j p (command_of change) ≡ a
  answered = grind arith

  -- the same, of a command that asks for the change
  module _ (command : Command) (asks : command ≡ command_of change) where
    abbrev pub entry : Entry
    entry = record { role = p; command = command; answer = a }

    pub consistent_as : (now : SessionState) (o : List ℕ) (n : ℕ) (heard : List (List ℕ)) (l : List Entry) → now.types ≡ m.types → now.state ≡ (serve m.types m.state p change).1 → o ≡ owners_after owners p a → n ≡ count → AreHeard count heard one_more → l ≡ j ++ entry ∷ [] → IsConsistent names now o n heard l
    consistent_as now o n heard l types state owned counted hears joined = grind (arith, recorded_with)

    pub grown_as : (l : List Entry) → l ≡ j ++ entry ∷ [] → l ≡ grown j p command a
    grown_as l joined = (cc)

    -- the answer is of the command's kind
    pub kind_as : IsOfKind command a
    kind_as = fits_command m.types m.state p change command asks a is kept (omega (arith, old.owners.next, old.owners.few, space))

    pub answered_as : answer_to names m.types j p command ≡ a
    answered_as = ap (answer_to names m.types j p) asks ∙ answered

-- a refusal of the session is the room's
module _ (names : List (List ℕ)) (m : SessionState) (owners : List ℕ) (count : ℕ) (lists : List (List ℕ)) (j : List Entry) (old : IsConsistent names m owners count lists j) (p : ℕ) (change : Change) (command : Command) (asks : command ≡ command_of change) (space : length j < most_entries) where
  pub refused_as : (new : State) (refusal : Refusal) → IsChanged m.types p change (Err refusal) m.state new → MayAnswer (Refused refusal) (answer_to names m.types j p command)
  refused_as new refusal h = grind (arith, refused_too m.types m.state new p (length j) change refusal space h)
