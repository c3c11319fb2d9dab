-- Narrow entries: the entries that receipts name are found there also when one entry more has joined.
use Rattle.std.proofs.Common.{◌≡◌, ℕ, zero, suc, ◌+◌, true, List, [], ◌∷◌, ◌++◌, length, map, Option, Some, refl, sym, subst, arith, length-append}
use Rattle.std.specs.Prelude.{nat_lt, slice_get, IsSome}
use Rattle.std.specs.List.{AllByRecursion}
use Rattle.std.specs.Option.{option_and_then}
use Rattle.std.proofs.lemmas.Bool.{eqb-true}
use Rattle.std.proofs.lemmas.List.{map-append}
use Rattle.std.proofs.lemmas.Option.{slice_get-map}
use Rattle.mps_base.specs.declared.action.Message.{Message}
use Rattle.mps_base.specs.declared.action.Step.{Step}
use Rattle.mps_command.specs.Acts.{act_of}
use Rattle.mps_command.specs.Changes.{command_of}
use Rattle.mps_command.specs.declared.answer.Answer.{Answer}
use Rattle.mps_command.specs.declared.answer.Answer.TheVariants.{Done as Stepped, Undone}
use Rattle.mps_command.specs.declared.command.Change.{Change}
use Rattle.mps_command.specs.declared.command.Change.TheVariants.{Forward}
use Rattle.mps_command.specs.declared.command.Command.{Command}
use Rattle.mps_local.specs.Local.{LocalType}
use Rattle.mps_machine.specs.Machine.{State, most_numbers, view_of, serve}
use Rattle.mps_machine.specs.Violations.{violation}
use Rattle.mps_session.specs.Answers.{answer_of, source_of, taken_of, IsSent}
use Rattle.mps_session.specs.declared.gist.Gist.{Gist}
use Rattle.mps_session.specs.declared.gist.Gist.TheVariants as gists
use Rattle.mps_room.specs.Journal.{undone_by, is_accepted}
use Rattle.mps_room.specs.Private.Forms.{narrow_answer, narrow, source_place}
use Rattle.mps_room.specs.Private.Owners.{owners_after}
use Rattle.mps_room.specs.Private.Heard.{undone_at}
use Rattle.mps_room.specs.Private.Narrow.{Narrow, given_in, message_at, taken_at, with_message, whole, journal_of, place_of, given_at, IsFound, IsGiven, AreFound}
use Rattle.mps_room.specs.declared.entry.Entry.{Entry}
use Rattle.mps_room.proofs.Hearing.{all_along, all_push, found, serve_history, step_joined}
use Rattle.mps_room.proofs.Owning.{none_stepped}

-- ---- one entry more

get_last : (places : List ℕ) (k : ℕ) → slice_get (places ++ k ∷ []) (length places) ≡ Some k
get_last [] k = refl
get_last (x ∷ places) k = get_last places k

given_last : (js : List Narrow) (e : Narrow) → message_at (js ++ e ∷ []) (length js) ≡ given_in e.entry.command
given_last [] e = refl
given_last (x ∷ js) e = given_last js e

-- what an entry gave it gave later too
given_stays : (js : List Narrow) (e : Narrow) (k : ℕ) → IsSome (message_at js k) → message_at (js ++ e ∷ []) k ≡ message_at js k
given_stays [] e k some = absurd cc
given_stays (x ∷ js) e zero some = refl
given_stays (x ∷ js) e (suc k) some = given_stays js e k some

others_stay : (js : List Narrow) (e : Narrow) (part : List Narrow) → AllByRecursion (λ s. IsGiven js s.source) part → map (whole (js ++ e ∷ [])) part ≡ map (whole js) part
others_stay js e [] all = refl
others_stay js e (s ∷ part) all = grind (arith, given_stays, others_stay js e part all.1)

pub journal_with : (js : List Narrow) (e : Narrow) → AllByRecursion (λ s. IsGiven js s.source) js → IsGiven js e.source → journal_of (js ++ e ∷ []) ≡ journal_of js ++ whole js e ∷ []
journal_with js e all given = grind (arith, map-append, others_stay, given_stays)

-- ---- steps that are found

some_given : (js : List Narrow) (place : Option ℕ) (e : Narrow) (m : Message) → option_and_then (message_at js) place ≡ Some m → option_and_then (message_at (js ++ e ∷ [])) place ≡ Some m
some_given js place e m is = grind (arith, given_stays)

at_place : (js : List Narrow) (places : List ℕ) (p n : ℕ) (m : Message) → option_and_then (message_at js) (slice_get places n) ≡ Some m → option_and_then (message_at js) (slice_get (places ++ p ∷ []) n) ≡ Some m
at_place js [] p n m is = absurd cc
at_place js (x ∷ places) p zero m is = is
at_place js (x ∷ places) p (suc n) m is = at_place js places p n m is

place_more : (js : List Narrow) (places : List ℕ) (p n : ℕ) (m : Message) → given_at places js n ≡ Some m → given_at (places ++ p ∷ []) js n ≡ Some m
place_more js places p n m is = grind (arith, at_place)

module _ (js : List Narrow) (places owners : List ℕ) (h : List Step) (traced : AreFound places owners h js) where
  taken_found : (source : Option ℕ) → IsSent h source → option_and_then (message_at js) (option_and_then (place_of places) source) ≡ taken_of h source
  taken_found source sent = grind (arith, found, eqb-true)

  pub taken_there : (gist : Gist) → IsSent h (source_of gist) → option_and_then (message_at js) (source_place places gist) ≡ taken_of h (source_of gist)
  taken_there gist sent = taken_found (source_of gist) sent

  pub given_there : (gist : Gist) → IsSent h (source_of gist) → IsGiven js (source_place places gist)
  given_there gist sent = grind (arith, found, eqb-true)

  pub whole_there : (p : ℕ) (command : Command) (gist : Gist) (a : Answer) → IsSent h (source_of gist) → a ≡ answer_of h gist → ◌≡◌ {A = Entry} (whole js (narrow p command gist (source_place places gist))) (record { role = p; command = command; answer = a })
  whole_there p command gist a sent is = grind (arith, taken_there)

-- what was taken back, and to whom a new step belongs, is told without its message
pub narrow_undone : (h : List Step) (gist : Gist) → undone_by (narrow_answer gist) ≡ undone_by (answer_of h gist)
narrow_undone h gist = grind arith

pub narrow_owners : (h : List Step) (gist : Gist) (owners : List ℕ) (p : ℕ) → owners_after owners p (narrow_answer gist) ≡ owners_after owners p (answer_of h gist)
narrow_owners h gist owners p = grind arith

-- ---- the steps after a change

module _ (types : List LocalType) (st : State) (p : ℕ) (change : Change) (js : List Narrow) (places owners : List ℕ) (next : st.next ≡ length owners + 1) (old : AreFound places owners st.history js) (e : Narrow) (asks : e.entry.command ≡ command_of change) (given : IsGiven js e.source) where
  abbrev one_more : List Narrow
  one_more = js ++ e ∷ []

  sources_with : AllByRecursion (λ s. IsGiven one_more s.source) one_more
  sources_with = grind (arith, all_push, all_along, given_stays)

  -- the new step is found at the new entry
  new_found : (step : _) → change ≡ Forward step → IsFound (places ++ length js ∷ []) one_more (record { id = st.next; role = p; act = act_of step })
  new_found step is m gave = grind (arith, get_last places (length js), given_last js e)

  found_with : (done : _) → Stepped done ≡ (serve types st p change).0 → (c : Change) → change ≡ c → Stepped done ≡ (serve types st p c).0 → AllByRecursion (λ s. IsFound (places ++ length js ∷ []) one_more s) (serve types st p c).1.history
  found_with done is (Forward step) same served =
      let new : Step = record { id = st.next; role = p; act = act_of step } in
      subst (λ h. AllByRecursion (λ s. IsFound (places ++ length js ∷ []) one_more s) h)
      (sym (step_joined types st p (act_of step) done (violation (view_of types st.history) p (act_of step)) (nat_lt most_numbers st.next) served))
      (all_push (λ s. IsFound (places ++ length js ∷ []) one_more s) st.history new
      (all_along (λ s. IsFound places js s) (λ s. IsFound (places ++ length js ∷ []) one_more s) st.history
      (λ s there m gave. some_given js (place_of (places ++ length js ∷ []) s.id) e m (place_more js places (length js) s.id m (there m gave))) old.found)
      (new_found step same))
  found_with done is other same served = grind (arith, none_stepped)

  traced_with : (a : Answer) → a ≡ (serve types st p change).0 → is_accepted a ≡ true → AreFound (owners_after places (length js) a) (owners_after owners p a) (serve types st p change).1.history one_more
  traced_with (Stepped done) is kept =
      record {
        count = omega (arith, old.count, length-append places (length js ∷ []), length-append owners (p ∷ []));
        found = found_with done is change refl is;
        sources = sources_with;
      }
  traced_with (Undone ids) is kept =
      record {
        count = old.count;
        found = serve_history (λ s. IsFound places one_more s) st
            (all_along (λ s. IsFound places js s) (λ s. IsFound places one_more s) st.history (λ s there m gave. some_given js (place_of places s.id) e m (there m gave)) old.found)
            types p change ids is;
        sources = sources_with;
      }
  traced_with other is kept = absurd cc

  pub traced_as : (a : Answer) → a ≡ (serve types st p change).0 → is_accepted a ≡ true → (ps os : List ℕ) (h : List Step) (l : List Narrow) → ps ≡ owners_after places (length js) a → os ≡ owners_after owners p a → h ≡ (serve types st p change).1.history → l ≡ one_more → AreFound ps os h l
  traced_as a is kept ps os h l placed owned after more = grind (arith, traced_with a is kept)

-- what an entry took back is told without its message
taken_alike : (got : Option Message) (a : Answer) → undone_by (with_message got a) ≡ undone_by a
taken_alike got a = grind arith

pub undone_alike : (js : List Narrow) (k : ℕ) → undone_at (journal_of js) k ≡ taken_at js k
undone_alike js k = grind (arith, slice_get-map, taken_alike)
