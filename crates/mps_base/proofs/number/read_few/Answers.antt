-- `read_few` meets its clause `none` and overflows no number, by the lemmas of Digits.
use Rattle.std.proofs.Common.{arith, ⊎_elim}
use Rattle.std.proofs.lemmas.Str.Parse.{digit_at}
use Rattle.mps_base.proofs.Digits.{few}
use Rattle.mps_base.proofs.number.read_few.Goals as goal

pub returns-then-not-is_ascii_digit-clause-none : goal.returns-then-not-is_ascii_digit-clause-none
returns-then-not-is_ascii_digit-clause-none c = λ all.
    let digit = digit_at c.args.digits.now c.loop-byte.byte-index all c.loop-byte-test.true in
    ⊎_elim (λ low. absurd (omega (arith, digit.0, low))) (λ high. absurd (omega (arith, digit.1, high))) c.if-not-is_ascii_digit.ensures.cases

pub overflow_mul-n : goal.overflow_mul-n
overflow_mul-n c =
    let small = few c.loop-byte.byte-index c.loop-byte.n (omega (arith, c.loop-byte-test.true, c.requires)) c.loop-byte.invariant.1 in
    omega (arith, small)

pub overflow_add-n : goal.overflow_add-n
overflow_add-n c =
    let small = few c.loop-byte.byte-index c.loop-byte.n (omega (arith, c.loop-byte-test.true, c.requires)) c.loop-byte.invariant.1 in
    omega (arith, small, c.if-not-is_ascii_digit.ensures.bound, c.from.ensures)
