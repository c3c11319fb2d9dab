-- `hand_out` keeps what holds in each turn of its loop and may call `split_seat` and `fresh`, by the lemmas of Dealing.
use Rattle.std.proofs.Common.{rules, arith, false, ap, sym, ◌≡◌, ◌∙◌, ℕ, List, ◌∷◌, [], ◌++◌, ◌+◌, ◌-◌, length, append_assoc, length-append}
use Rattle.std.specs.Vec.Iter.{into_iter_items}
use Rattle.atomic_table.specs.Table.{Me}
use Rattle.mps_room.specs.RoomState.{RoomState}
use Rattle.mps_room.specs.declared.numbers.Numbers.{Numbers}
use Rattle.mps_cell.specs.Private.Origins.{opening_in}
use Rattle.mps_cell.specs.Openings.{Opening}
use Rattle.mps_cell.specs.Views.{SeatView, fresh_part, part_of, dealing}
use Rattle.mps_cell.specs.Cells.{fresh, fresh_below}
use Rattle.mps_cell.specs.Rule.{resting}
use Rattle.mps_cell.proofs.Dealing.{deals_next, dealt_rest, dealt_one, dealt_more, fresh_seat, fresh_some, fresh_begun, fresh_newest, is_left}
use Rattle.mps_cell.proofs.cell.hand_out.Goals as goal

pub split_seat-seat-requires : goal.split_seat-seat-requires
split_seat-seat-requires c =
    let o : Opening = opening_in c.args.shared.now.key in
    let below = is_left c.args.numbers.items c.loop-own.yielded _ _ c.in-Some.own (length o.types) c.loop-own.invariant.whole c.in-Some.ensures.steps.0 c.requires.count in
    (search rules, omega arith, deals_next _ o _ (length c.loop-own.yielded) (length o.types) _ below c.loop-own.invariant.rest)

pub loop-own-preserved : goal.loop-own-preserved
loop-own-preserved c =
    let o : Opening = opening_in c.args.shared.now.key in
    let n : ℕ = length o.types in
    let done : List Numbers = c.loop-own.yielded in
    let own : Numbers = c.in-Some.own in
    let left : List Numbers = into_iter_items c.next.new.self in
    let s = c.split_seat-seat.ensures in
    let v = c.loop-own.invariant in
    let below = is_left c.args.numbers.items done _ _ own n v.whole c.in-Some.ensures.steps.0 c.requires.count in
    let seat : c.split_seat-seat.result.me ≡ resting (fresh_part o (length done)) false = dealt_one o (length done) n _ _ below v.rest s.4 in
    let next : length (done ++ own ∷ []) ≡ length done + 1 = length-append done (own ∷ []) in
    let role : c.new-role.result ≡ length done = c.new-role.ensures ∙ omega (arith, c.len.ensures, v.counted) in
    let id = c.args.shared.now.table_id in
    record {
      whole = v.whole ∙ ap (λ (l : List Numbers). done ++ l) c.in-Some.ensures.steps.0 ∙ sym (append_assoc done (own ∷ []) left);
      same = s.0 ∙ v.same;
      rest = dealt_rest o (length done) n _ _ below v.rest s.2 ∙ ap (λ (k : ℕ). (dealing o k (n - k), [])) (sym next);
      dealt = dealt_more id c.split_seat-seat.result.table_id o (part_of c.split_seat-seat.result.me.0.parts).opening (length done) _ _ _ c.push_reserved.ensures.items v.dealt
          (c.fresh.ensures.fresh ∙ ap (fresh c.split_seat-seat.result.table_id (part_of c.split_seat-seat.result.me.0.parts).opening) role) (s.3 ∙ v.same)
          (ap (λ (m : Me RoomState SeatView). (part_of m.0.parts).opening) seat) ∙ ap (fresh_below id o) (sym next);
      counted = let l = c.push_reserved.ensures.len in omega (arith, next);
      space = let l = c.push_reserved.ensures.capacity in omega (arith, ap (λ (l : List Numbers). length l) c.in-Some.ensures.steps.0, v.space);
    }

pub fresh-requires : goal.fresh-requires
fresh-requires c =
    let o : Opening = opening_in c.args.shared.now.key in
    let done : List Numbers = c.loop-own.yielded in
    let own : Numbers = c.in-Some.own in
    let v = c.loop-own.invariant in
    let below = is_left c.args.numbers.items done _ _ own (length o.types) v.whole c.in-Some.ensures.steps.0 c.requires.count in
    let seat = dealt_one o (length done) (length o.types) _ _ below v.rest c.split_seat-seat.ensures.4 in
    let role : c.new-role.result ≡ length done = c.new-role.ensures ∙ omega (arith, c.len.ensures, v.counted) in
    record {
      cell = c.split_seat-seat.ensures.3 ∙ v.same;
      word = c.requires.word;
      names = c.requires.names ∙ sym (ap (λ (m : Me RoomState SeatView). (part_of m.0.parts).opening.names) seat);
      seat = fresh_seat o (length done) _ _ seat role;
      some = fresh_some o (length done) _ _ seat role below;
      begun = fresh_begun o (length done) _ _ seat c.requires.begun;
      newest = fresh_newest o _ _ c.args.numbers.items done _ _ own seat role c.requires.newest v.whole c.in-Some.ensures.steps.0;
    }
