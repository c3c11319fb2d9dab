-- `Room::change` meets its clauses `answer` and `journal`, keeps the invariant of its type, and may call `keep`.
use Rattle.std.proofs.Common.{◌≡◌, ◌<◌, ◌∷◌, [], ◌++◌, true, List, ℕ, Ok, length, map, sym, ap, ◌∙◌, subst, arith}
use Rattle.std.proofs.lemmas.List.{length-map}
use Rattle.std.specs.Prelude.{slice_index_or}
use Rattle.mps_command.specs.Changes.{command_of}
use Rattle.mps_command.specs.declared.answer.Answer.{Answer}
use Rattle.mps_command.specs.declared.answer.Answer.TheVariants.{Refused}
use Rattle.mps_command.specs.declared.command.Change.{Change}
use Rattle.mps_machine.specs.Machine.{serve}
use Rattle.mps_machine.specs.Answering.{IsChanged}
use Rattle.mps_machine.proofs.Answering.{from_ok}
use Rattle.mps_room.specs.Journal.{most_entries, undone_by, is_accepted, grown, answer_to, MayAnswer}
use Rattle.mps_room.specs.Private.Forms.{narrow_answer, narrow, source_place}
use Rattle.mps_room.specs.Private.Heard.{hears, with_place}
use Rattle.mps_room.specs.Private.Owners.{owns, owners_after}
use Rattle.mps_room.specs.Private.Narrow.{Narrow, whole, journal_of}
use Rattle.mps_room.specs.RoomState.{RoomState}
use Rattle.mps_room.proofs.Accepting.{accepting}
use Rattle.mps_room.proofs.Growing.{asked}
use Rattle.mps_room.proofs.Keeping as keeping
use Rattle.mps_room.proofs.Lists.{map_each}
use Rattle.mps_room.proofs.Consistency as consistency
use Rattle.mps_room.proofs.Refusing.{accepted_answer}
use Rattle.mps_room.proofs.room.Room.change.Goals as goal
use Rattle.mps_room.proofs.room.Room.change.Goals.{After-keep}

-- the change that is asked for, and what the session says of it
abbrev change_in : After-keep → Change
change_in c = (asked c.args.command c.requires.change).0

is_asked : (c : After-keep) → c.args.command ≡ command_of (change_in c)
is_asked c = (asked c.args.command c.requires.change).2

served : (c : After-keep) → IsChanged c.self.inside.session.types c.args.role (change_in c) (Ok c.in-Ok.answer) c.self.inside.session.state c.attempt.new.self.state
served c = c.in-Ok.ensures.accepted (change_in c) (asked c.args.command c.requires.change).1

-- the answer is the machine's, and accepts
answered : (c : After-keep) → c.in-Ok.answer ≡ (serve c.self.inside.session.types c.self.inside.session.state c.args.role (change_in c)).0
answered c = from_ok c.in-Ok.answer _ (served c).answer

kept : (c : After-keep) → is_accepted c.in-Ok.answer ≡ true
kept c =
    let s = c.self.inside.session in
    accepting s.types s.state c.args.role (change_in c) c.in-Ok.answer (served c).answer

known : (c : After-keep) → c.args.role < length c.self.inside.session.types
known c = subst (λ (m : RoomState). c.args.role < length m.types) (sym c.self.view_is) c.requires.role

-- the entry joins the journal
joined : (c : After-keep) → c.keep.new.journal.entries ≡ c.self.inside.journal.entries ++ narrow c.args.role c.args.command c.in-Ok.gist (source_place c.self.inside.steps.places.items c.in-Ok.gist) ∷ []
joined c =
    let gist = c.in-Ok.gist in
    let entry_by = λ (ps : List ℕ). narrow c.args.role c.args.command gist (source_place ps gist) in
    c.keep.ensures.journal
    ∙ ap (λ (l : List Narrow). l ++ entry_by c.reserve_entry.new.steps.places.items ∷ []) c.reserve_entry.ensures.journal
    ∙ ap (λ (ps : List ℕ). c.self.inside.journal.entries ++ entry_by ps ∷ []) c.reserve_entry.ensures.places

pub invariant_of-self-in-Ok : goal.invariant_of-self-in-Ok
invariant_of-self-in-Ok c =
    let l = (goal.at.invariant_of-self-in-Ok c).After-keep in
    let r = c.self.inside in
    let told = c.in-Ok in
    let room = c.reserve_entry.ensures in
    let hear = λ (owners : List ℕ) (q : ℕ). hears (owns owners q) q c.args.role (undone_by (narrow_answer told.gist)) in
    keeping.kept_as r.names r.session r.steps.owners.items r.steps.places.items r.heard.count (map (λ v. v.items) r.heard.lists) r.journal.entries c.self.invariant c.args.role (known l) (change_in l) told.answer (answered l) (kept l) c.in_default.ensures.few c.args.command (is_asked l)
    told.gist told.ensures.kind told.ensures.sent told.ensures.gist
    c.attempt.new.self c.keep.new.steps.owners.items c.keep.new.steps.places.items c.keep.new.heard.count (map (λ v. v.items) c.keep.new.heard.lists) c.keep.new.journal.entries told.ensures.types (served l).state
    (c.keep.ensures.owners ∙ ap (λ (o : List ℕ). owners_after o c.args.role (narrow_answer told.gist)) room.owners)
    (c.keep.ensures.places
    ∙ ap (λ (ps : List ℕ). owners_after ps (length c.reserve_entry.new.journal.entries) (narrow_answer told.gist)) room.places
    ∙ ap (λ (k : List Narrow). owners_after r.steps.places.items (length k) (narrow_answer told.gist)) room.journal)
    (c.keep.ensures.hearers ∙ room.hearers)
    (length-map c.keep.new.heard.lists (λ v. v.items) ∙ c.keep.ensures.lists)
    (λ others q there.
    map_each (λ v. v.items) (λ p. p < c.reserve_entry.new.heard.count) (λ p k. with_place (hear c.reserve_entry.new.steps.owners.items p) (length c.reserve_entry.new.journal.entries) k)
    c.reserve_entry.new.heard.lists c.keep.new.heard.lists (c.keep.ensures.lists ∙ sym room.lists)
    (λ p d inside. c.keep.ensures.heard others p d inside) q (subst (λ (n : ℕ). q < n) (sym room.hearers) there)
    (omega (arith, there, room.lists, c.self.invariant.consistent.heard.few))
    ∙ ap (λ (o : List ℕ). with_place (hear o q) (length c.reserve_entry.new.journal.entries) (slice_index_or (map (λ v. v.items) c.reserve_entry.new.heard.lists) q [])) room.owners
    ∙ ap (λ (k : List Narrow). with_place (hear r.steps.owners.items q) (length k) (slice_index_or (map (λ v. v.items) c.reserve_entry.new.heard.lists) q [])) room.journal
    ∙ ap (λ (k : List (List ℕ)). with_place (hear r.steps.owners.items q) (length r.journal.entries) (slice_index_or k q [])) room.heard)
    (λ own. ap (λ k. map (λ v. v.items) k) (c.keep.ensures.unheard own) ∙ room.heard)
    (joined l)

pub keep-requires-clause-fits : goal.keep-requires-clause-fits
keep-requires-clause-fits c =
    let r = c.self.inside in
    let told = c.in-Ok in
    let found = asked c.args.command c.requires.change in
    let served = told.ensures.accepted found.0 found.1 in
    keeping.fits r.names r.session r.steps.owners.items r.steps.places.items r.heard.count (map (λ v. v.items) r.heard.lists) r.journal.entries c.self.invariant c.args.role
    (subst (λ (m : RoomState). c.args.role < length m.types) (sym c.self.view_is) c.requires.role)
    found.0 told.answer (from_ok told.answer _ served.answer) (accepting r.session.types r.session.state c.args.role found.0 told.answer served.answer) c.in_default.ensures.few c.args.command found.2
    told.gist told.ensures.kind told.ensures.sent told.ensures.gist c.reserve_entry.new.steps.places.items c.reserve_entry.ensures.places

pub returns-in-Ok-clause-answer : goal.returns-in-Ok-clause-answer
returns-in-Ok-clause-answer c =
    let l = (goal.at.returns-in-Ok-clause-answer c).After-keep in
    let r = c.self.inside in
    let told = c.in-Ok in
    let is =
    keeping.answered_as r.names r.session r.steps.owners.items r.steps.places.items r.heard.count (map (λ v. v.items) r.heard.lists) r.journal.entries c.self.invariant c.args.role (known l) (change_in l) told.answer (answered l) (kept l) c.in_default.ensures.few c.args.command (is_asked l)
    told.gist told.ensures.kind told.ensures.sent told.ensures.gist
    in
    subst (λ (m : RoomState). MayAnswer told.answer (answer_to m.names m.types m.journal c.args.role c.args.command)) c.self.view_is
    (subst (λ (w : Answer). MayAnswer told.answer w) (sym is) (accepted_answer told.answer (kept l)))

pub returns-in-Ok-clause-journal : goal.returns-in-Ok-clause-journal
returns-in-Ok-clause-journal c =
    let l = (goal.at.returns-in-Ok-clause-journal c).After-keep in
    let r = c.self.inside in
    let told = c.in-Ok in
    keeping.grown_as r.names r.session r.steps.owners.items r.steps.places.items r.heard.count (map (λ v. v.items) r.heard.lists) r.journal.entries c.self.invariant c.args.role (known l) (change_in l) told.answer (answered l) (kept l) c.in_default.ensures.few c.args.command (is_asked l)
    told.gist told.ensures.kind told.ensures.sent told.ensures.gist c.keep.new.journal.entries (joined l)
    ∙ ap (λ (m : RoomState). grown m.journal c.args.role c.args.command told.answer) c.self.view_is

pub returns-clause-answer : goal.returns-clause-answer
returns-clause-answer c =
    let r = c.self.inside in
    let found = asked c.args.command c.requires.change in
    let refusal = c.in-Err-attempt.refusal in
    subst (λ (m : RoomState). MayAnswer (Refused refusal) (answer_to m.names m.types m.journal c.args.role c.args.command)) c.self.view_is
    (consistency.refused_as r.names r.session r.steps.owners.items r.heard.count (map (λ v. v.items) r.heard.lists) (journal_of r.journal.entries) c.self.invariant.consistent c.args.role found.0 c.args.command found.2
    (subst (λ (n : ℕ). n < most_entries) (sym (length-map r.journal.entries (whole r.journal.entries))) c.in_default.ensures.few) c.attempt.new.self.state refusal (c.in-Err-attempt.ensures.accepted found.0 found.1))
