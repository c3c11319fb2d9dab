-- `meet_seats` meets its clause `met` and may call `split_seat`, `join_seat` and `load`, by the lemmas of Keeping and Pairing.
use Rattle.std.proofs.Common.{rules, arith, ap, ◌∙◌}
use mathlib.Core.Option as maybe
use Rattle.atomic_table.specs.Table.{step}
use Rattle.mps_cell.proofs.Keeping.{looks}
use Rattle.mps_cell.proofs.Pairing.{lends_part, lent_part, gathers_part, divides_after, met}
use Rattle.mps_cell.proofs.meeting.meet_seats.Goals as goal

pub split_seat-other-requires : goal.split_seat-other-requires
split_seat-other-requires c = (c.requires.second, omega arith, lends_part _ _ _ c.requires.second_free)

pub join_seat-requires : goal.join_seat-requires
join_seat-requires c =
    let s = c.split_seat-other.ensures in (
      c.requires.first,
      s.3 ∙ c.requires.second,
      ap (λ m. m.1) s.4,
      omega arith,
      gathers_part _ _ _ _ _ _ c.requires.first_free (lent_part _ _ c.requires.second_free s.4),
    )

pub load-requires : goal.load-requires
load-requires c = (search rules, omega arith, looks _ _ _ _)

pub split_seat-requires : goal.split_seat-requires
split_seat-requires c =
    let s = c.split_seat-other.ensures in
    let j = c.join_seat.ensures in
    let l = c.load.ensures in (
      l.0 ∙ (j.0 ∙ c.requires.first),
      omega arith,
      divides_after _ _ c.args.first.now.me c.args.second.now.me c.split_seat-other.result.me c.join_seat.new.seat.me c.load.new.seat.me c.load.result c.requires.first_free c.requires.second_free s.4 j.2 l.2,
    )

pub returns-clause-met : goal.returns-clause-met
returns-clause-met c =
    let s = c.split_seat-other.ensures in
    let j = c.join_seat.ensures in
    let l = c.load.ensures in
    let d = c.split_seat.ensures in
    met (step 0 0 0 0 maybe.none) c.args.first.now.me c.args.second.now.me c.split_seat-other.result.me c.join_seat.new.seat.me c.load.new.seat.me _ _ c.load.result c.requires.first_free c.requires.second_free s.4 j.2 l.2 d.2 d.4
