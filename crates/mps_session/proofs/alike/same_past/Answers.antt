-- `same_past` meets its contract, keeps what holds in each turn of its loop, and may call `same_deed`, by the lemmas of SamePast.
use Rattle.std.proofs.Common.{refl, arith}
use Rattle.std.proofs.lemmas.Bool.{iff_false}
use Rattle.mps_session.proofs.SamePast.{alike_starts, first_ends, ends_by_count, first_longer, first_here, second_here, must_be_same, alike_goes}
use Rattle.mps_session.proofs.alike.same_past.Goals as goal

pub loop-init : goal.loop-init
loop-init c = rw (c.last_of-last.ensures, c.last_of-other.ensures) (alike_starts c.args.role c.args.a.now.keyed_steps c.args.b.now.keyed_steps)

pub returns-in_default : goal.returns-in_default
returns-in_default c =
    first_ends c.args.role c.args.a.now.keyed_steps c.args.b.now.keyed_steps c.loop.last c.loop.other c.loop.counter c.loop.invariant c.is_none.result c.is_none.ensures c.in_default.is

pub returns-in_default-other : goal.returns-in_default-other
returns-in_default-other c =
    ((λ t. absurd cc), (λ s. absurd (first_longer c.args.role c.args.a.now.keyed_steps c.args.b.now.keyed_steps c.loop.last c.loop.other c.loop.counter c.loop.invariant c.in-Some.x c.in-Some.is c.in_default-other.is s)))

pub same_deed-requires-clause-first : goal.same_deed-requires-clause-first
same_deed-requires-clause-first c =
    rw (first_here c.args.role c.args.a.now.keyed_steps c.args.b.now.keyed_steps c.loop.last c.loop.other c.loop.counter c.loop.invariant c.in-Some.x c.in-Some.is c.in-Some-other.y c.in-Some-other.is c.requires.first c.requires.second) refl

pub same_deed-requires-clause-second : goal.same_deed-requires-clause-second
same_deed-requires-clause-second c =
    rw (second_here c.args.role c.args.a.now.keyed_steps c.args.b.now.keyed_steps c.loop.last c.loop.other c.loop.counter c.loop.invariant c.in-Some.x c.in-Some.is c.in-Some-other.y c.in-Some-other.is c.requires.first c.requires.second) refl

pub returns-then-not-same_deed : goal.returns-then-not-same_deed
returns-then-not-same_deed c =
    let must = must_be_same c.args.role c.args.a.now.keyed_steps c.args.b.now.keyed_steps c.loop.last c.loop.other c.loop.counter c.loop.invariant c.in-Some.x c.in-Some.is c.in-Some-other.y c.in-Some-other.is c.requires.first c.requires.second in
    ((λ t. absurd cc), (λ s. absurd (iff_false c.same_deed.ensures c.if-not-same_deed.true (must s))))

pub loop-preserved : goal.loop-preserved
loop-preserved c =
    rw (c.prev_of_role-last.ensures, c.prev_of_role-other.ensures)
    (alike_goes c.args.role c.args.a.now.keyed_steps c.args.b.now.keyed_steps c.loop.last c.loop.other c.loop.counter c.loop.invariant c.in-Some.x c.in-Some.is c.in-Some-other.y c.in-Some-other.is c.requires.first c.requires.second (c.same_deed.ensures.0 c.if-not-same_deed.false))

pub returns : goal.returns
returns c =
    ends_by_count c.args.role c.args.a.now.keyed_steps c.args.b.now.keyed_steps c.loop.last c.loop.other c.loop.counter c.loop.invariant c.is_none-2.result c.is_none-2.ensures (omega (arith, c.loop-test.false, c.len-end.ensures.count))
