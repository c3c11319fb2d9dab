-- `Room::would` meets its clause `refusal`, by the lemmas of Foreseeing.
use Rattle.std.proofs.Common.{◌≡◌, ◌<◌, refl, Some, None, sym, ap, ◌∙◌, arith}
use Rattle.std.specs.Prelude.{length}
use Rattle.std.proofs.lemmas.List.{length-map}
use Rattle.mps_machine.specs.Faults.{fault}
use Rattle.mps_machine.specs.Machine.{State}
use Rattle.mps_room.specs.Journal.{most_entries, run}
use Rattle.mps_room.specs.Private.Narrow.{whole}
use Rattle.mps_room.specs.RoomState.{RoomState}
use Rattle.mps_room.proofs.Foreseeing.{foreseen, foreseen_full, foreseen_taken}
use Rattle.mps_room.proofs.room.Room.would.Goals as goal

pub returns-in-Err-clause-refusal : goal.returns-in-Err-clause-refusal
returns-in-Err-clause-refusal c =
    let r = c.self.inside in
    let m = c.args.self.now in
    let command = c.args.command.now in
    let told : fault r.session.types r.session.state c.args.role command ≡ Some c.in-Err.refusal = sym c.in-Err.ensures.fault in
    sym (foreseen m.names m.types m.journal c.args.role command c.in-Err.refusal
    (ap (λ (k : RoomState). fault k.types (run k.types k.journal) c.args.role command) (sym c.self.view_is)
    ∙ ap (λ (st : State). fault r.session.types st c.args.role command) (sym c.self.invariant.consistent.state)
    ∙ told))

pub returns-then-len-ge-MAX_ENTRIES-clause-refusal : goal.returns-then-len-ge-MAX_ENTRIES-clause-refusal
returns-then-len-ge-MAX_ENTRIES-clause-refusal c =
    let r = c.self.inside in
    let m = c.args.self.now in
    let command = c.args.command.now in
    let told : fault r.session.types r.session.state c.args.role command ≡ None = sym c.in_default.ensures.fault in
    sym (foreseen_full m.names m.types m.journal c.args.role command (c.if-not-is_change.ensures.0 refl)
    (omega (arith, c.if-len-ge-MAX_ENTRIES.true, c.len.ensures, length-map r.journal.entries (whole r.journal.entries), ap (λ (k : RoomState). length k.journal) c.self.view_is))
    (ap (λ (k : RoomState). fault k.types (run k.types k.journal) c.args.role command) (sym c.self.view_is)
    ∙ ap (λ (st : State). fault r.session.types st c.args.role command) (sym c.self.invariant.consistent.state)
    ∙ told))

pub returns-clause-refusal : goal.returns-clause-refusal
returns-clause-refusal c =
    let r = c.self.inside in
    let m = c.args.self.now in
    let command = c.args.command.now in
    let told : fault r.session.types r.session.state c.args.role command ≡ None = sym c.in_default.ensures.fault in
    let room : length m.journal < most_entries = omega (arith, c.if-len-ge-MAX_ENTRIES.false, c.len.ensures, length-map r.journal.entries (whole r.journal.entries), ap (λ (k : RoomState). length k.journal) c.self.view_is) in
    sym (foreseen_taken m.names m.types m.journal c.args.role command room
    (omega (arith, room, ap (λ (k : RoomState). length k.journal) c.self.view_is, c.self.invariant.consistent.owners.few, c.self.invariant.consistent.owners.next, ap (λ (k : RoomState). (run k.types k.journal).next) c.self.view_is, ap (λ (st : State). st.next) c.self.invariant.consistent.state))
    (ap (λ (k : RoomState). fault k.types (run k.types k.journal) c.args.role command) (sym c.self.view_is)
    ∙ ap (λ (st : State). fault r.session.types st c.args.role command) (sym c.self.invariant.consistent.state)
    ∙ told))
