-- `Room::refused` meets its clause `refused`, by the lemmas of Refusing.
use Rattle.std.proofs.Common.{◌≡◌, Some, None, sym, ap, ◌∙◌, arith}
use Rattle.std.specs.Prelude.{length}
use Rattle.mps_machine.specs.Faults.{fault}
use Rattle.mps_machine.specs.Machine.{State}
use Rattle.mps_room.specs.Journal.{run}
use Rattle.mps_room.specs.RoomState.{RoomState}
use Rattle.mps_room.proofs.Refusing.{refused, lack_answer}
use Rattle.mps_room.proofs.room.Room.refused.Goals as goal

pub returns-in-Err-clause-refused : goal.returns-in-Err-clause-refused
returns-in-Err-clause-refused c =
    let r = c.self.inside in
    let m = c.args.self.now in
    let command = c.args.command.now in
    let told : fault r.session.types r.session.state c.args.role command ≡ Some c.in-Err.refusal = sym c.in-Err.ensures.fault in
    refused m.names m.types m.journal c.args.role command c.in-Err.refusal
    (ap (λ (k : RoomState). fault k.types (run k.types k.journal) c.args.role command) (sym c.self.view_is)
    ∙ ap (λ (st : State). fault r.session.types st c.args.role command) (sym c.self.invariant.consistent.state)
    ∙ told)

pub returns-clause-refused : goal.returns-clause-refused
returns-clause-refused c =
    let r = c.self.inside in
    let m = c.args.self.now in
    let command = c.args.command.now in
    let told : fault r.session.types r.session.state c.args.role command ≡ None = sym c.in_default.ensures.fault in
    lack_answer m.names m.types m.journal c.args.role command c.args.lack c.requires.change c.requires.lack
    (λ room. omega (arith, room, ap (λ (k : RoomState). length k.journal) c.self.view_is, c.self.invariant.consistent.owners.few, c.self.invariant.consistent.owners.next, ap (λ (k : RoomState). (run k.types k.journal).next) c.self.view_is, ap (λ (st : State). st.next) c.self.invariant.consistent.state))
    (ap (λ (k : RoomState). fault k.types (run k.types k.journal) c.args.role command) (sym c.self.view_is)
    ∙ ap (λ (st : State). fault r.session.types st c.args.role command) (sym c.self.invariant.consistent.state)
    ∙ told)
