-- `Embedded::run` meets its clauses `answered` and `recorded`, by the lemmas of Speaking.
use native.Mathlib.Omega.{arith}
use Rattle.std.proofs.Common.{◌∙◌, false, length, slice_set, refl, sym, ap}
use Rattle.mps_room.specs.Numbers.{kept_of}
use Rattle.mps_wire.specs.Conversations.{reply_of}
use Rattle.mps_embed.specs.Diaries.{records_of, taken_of, whole_of}
use Rattle.mps_embed.specs.Embedded.{EmbeddedState}
use Rattle.mps_embed.proofs.Speaking.{answered, told_where_whole, recorded_so}
use Rattle.mps_embed.proofs.embedded.Embedded.run.Goals as goal

pub returns-clause-answered : goal.returns-clause-answered
returns-clause-answered g c = λ whole.
    let t = c.turn_to.ensures in
    let left = c.take_line-outcome.new.caller in
    let kept = kept_of left.inner.numbers.newest in
    let after : EmbeddedState = record { room = left.inner.room; numbers = slice_set c.turn_to.new.numbers.items left.inner.role left.inner.numbers; reply = reply_of c.replace_outcome-2.new.outcome kept; records = records_of left.recorder; taken = taken_of left.recorder; whole = whole_of left.recorder } in
    answered c.args.self.now after c.args.role c.args.line.now (reply_of c.take_line-outcome.result kept) c.self.inside.guest.inner c.turn_to.new.solo left.inner c.self.inside.numbers.items c.turn_to.new.numbers.items
    (ap (λ (e : EmbeddedState). e.room) (sym c.self.view_is))
    (ap (λ (e : EmbeddedState). e.numbers) (sym c.self.view_is))
    t.room t.role
    (omega (arith, t.each, c.requires.known, c.self.invariant, ap (λ (e : EmbeddedState). length e.room.types) c.self.view_is))
    t.numbers t.same
    (c.a_guest_is_answered_as_its_caller.ensures.replies false c.args.line.now _ _ left c.take_line-outcome.ensures)
    (told_where_whole (whole_of left.recorder) c.take_line-outcome.result _ kept
    (λ w. c.replace_outcome-2.ensures ∙ c.told-outcome.ensures.told (c.may_tell-2.ensures ∙ w))
    (λ w. c.replace_outcome-2.ensures ∙ c.told-outcome.ensures.lost (c.may_tell-2.ensures ∙ w)))
    refl refl

pub returns-clause-recorded : goal.returns-clause-recorded
returns-clause-recorded g c = λ records whole.
    let t = c.turn_to.ensures in
    let left = c.take_line-outcome.new.caller in
    let kept = kept_of left.inner.numbers.newest in
    let after : EmbeddedState = record { room = left.inner.room; numbers = slice_set c.turn_to.new.numbers.items left.inner.role left.inner.numbers; reply = reply_of c.replace_outcome-2.new.outcome kept; records = records_of left.recorder; taken = taken_of left.recorder; whole = whole_of left.recorder } in
    recorded_so c.args.self.now after c.args.role c.args.line.now _ c.self.inside.guest.inner c.turn_to.new.solo left.inner c.self.inside.numbers.items c.turn_to.new.numbers.items
    (ap (λ (e : EmbeddedState). e.room) (sym c.self.view_is))
    (ap (λ (e : EmbeddedState). e.numbers) (sym c.self.view_is))
    t.room t.role
    (omega (arith, t.each, c.requires.known, c.self.invariant, ap (λ (e : EmbeddedState). length e.room.types) c.self.view_is))
    t.numbers
    (c.a_guest_is_answered_as_its_caller.ensures.replies false c.args.line.now _ _ left c.take_line-outcome.ensures)
    refl refl _ (ap (λ (e : EmbeddedState). e.taken) (sym c.self.view_is))
    (c.a_guest_is_answered_as_its_caller.ensures.recorded false c.args.line.now _ _ left c.take_line-outcome.ensures (ap (λ (e : EmbeddedState). e.records) c.self.view_is ∙ records) whole)
