-- What holds of a room.
use Rattle.std.specs.Prelude.{◌≡◌, ℕ, ◌<◌, ◌≤◌, List, length}
use Rattle.mps_command.specs.declared.answer.Refusal.{Refusal}
use Rattle.mps_command.specs.declared.answer.Refusal.TheVariants.{Full, Memory}
use Rattle.mps_session.specs.SessionState.{SessionState}
use Rattle.mps_room.specs.Journal.{most_entries, run, IsLegal}
use Rattle.mps_room.specs.declared.entry.Entry.{Entry}
use Rattle.mps_room.specs.Private.Heard.{AreHeard}
use Rattle.mps_room.specs.Private.Owners.{AreOwners, AreGiven}
use Rattle.mps_room.specs.Private.Narrow.{Narrow, journal_of, AreFound}

-- what is missing for one entry more after n: there are as many as there may be, or there are fewer and memory ran out
abbrev pub IsLack : ℕ → Refusal → Type 0
IsLack n Full = most_entries ≤ n
IsLack n Memory = n < most_entries
IsLack n refusal = ⊥

-- the journal is legal, the session is as its commands leave it, and the owners and what each role hears of are known
pub record IsConsistent (names : List (List ℕ)) (session : SessionState) (owned : List ℕ) (hearers : ℕ)
    (lists : List (List ℕ)) (j : List Entry) : Type 0 where
  pub count : length names ≡ length session.types
  pub legal : IsLegal names session.types j
  pub state : session.state ≡ run session.types j
  pub owners : AreOwners owned session.state.next j
  pub given : AreGiven owned session.state.history j
  pub roles : hearers ≡ length session.types
  pub heard : AreHeard hearers lists j

-- the same of a journal of narrow entries, in which the entries that receipts name are found: what holds of a room
pub record IsRoom (names : List (List ℕ)) (session : SessionState) (owned places : List ℕ) (hearers : ℕ)
    (lists : List (List ℕ)) (js : List Narrow) : Type 0 where
  pub consistent : IsConsistent names session owned hearers lists (journal_of js)
  pub sent : AreFound places owned session.state.history js
