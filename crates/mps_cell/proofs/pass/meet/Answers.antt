-- `meet` meets its contract, by the lemmas of Pairing.
use Rattle.std.proofs.Common.{◌≡◌, ◌∙◌, length, ap, subst}
use Rattle.std.specs.Ordering.{nat_cmp}
use Rattle.mps_cell.specs.Calls.{Known, known, carried}
use Rattle.mps_cell.proofs.Pairing.{Meets, meets}
use Rattle.mps_cell.proofs.pass.meet.Goals as goal

pub returns : goal.returns
returns c =
    let f = c.first.inside in
    let s = c.second.inside in
    let m = c.meet_seats in
    let first : Known = carried (known m.new.first.table_id m.new.first.me.0) f.numbers.newest in
    let second : Known = carried (known m.new.second.table_id m.new.second.me.0) s.numbers.newest in
    let was : (carried (known f.seat.table_id f.seat.me.0) f.numbers.newest, carried (known s.seat.table_id s.seat.me.0) s.numbers.newest) ≡ (c.args.first.now, c.args.second.now) = λ i. (c.first.view_is i, c.second.view_is i) in
    let all : Meets c.args.first.now c.args.second.now first second = subst (λ (k : Known × Known). Meets k.0 k.1 first second) was
    (meets f.seat.table_id m.new.first.table_id s.seat.table_id m.new.second.table_id f.seat.me s.seat.me m.new.first.me m.new.second.me f.numbers.newest s.numbers.newest m.ensures.first m.ensures.second m.ensures.met) in
    let first_seen = c.first.invariant.seen_is ∙ ap (λ (k : Known). length k.seen) c.first.view_is in
    let second_seen = c.second.invariant.seen_is ∙ ap (λ (k : Known). length k.seen) c.second.view_is in
    record {
      first = all.first;
      second = all.second;
      order = c.cmp.ensures ∙ (λ i. nat_cmp (first_seen i) (second_seen i));
      shorter = all.shorter;
      longer = all.longer;
      reported = all.reported;
      same_reported = all.same_reported;
    }
