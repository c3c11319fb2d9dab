-- `read_many` meets its clause `none` and keeps what holds in each turn of its loop, by the lemmas of Digits.
use Rattle.std.proofs.Common.{◌+◌, arith, subst, get_or, ⊎_elim}
use Rattle.std.proofs.lemmas.Str.{digit_value_digit}
use Rattle.std.proofs.lemmas.Str.Parse.{digit_at}
use Rattle.mps_base.proofs.Digits.{IsRead, read_more, so_many}
use Rattle.mps_base.proofs.number.read_many.Goals as goal

pub returns-then-not-is_ascii_digit-clause-none : goal.returns-then-not-is_ascii_digit-clause-none
returns-then-not-is_ascii_digit-clause-none c = λ all.
    let digit = digit_at c.args.digits.now c.loop-byte.byte-index all c.loop-byte-test.true in
    ⊎_elim (λ low. absurd (omega (arith, digit.0, low))) (λ high. absurd (omega (arith, digit.1, high))) c.if-not-is_ascii_digit.ensures.cases

pub returns-in_err-checked_mul-clause-none : goal.returns-in_err-checked_mul-clause-none
returns-in_err-checked_mul-clause-none c =
    let many = so_many c.args.digits.now c.loop-byte.byte-index c.loop-byte.n c.loop-byte.invariant c.loop-byte-test.true in
    rw c.from_residual.ensures (λ all. omega (arith, many, c.in_err-checked_mul.ensures))

pub returns-in_err-n-clause-none : goal.returns-in_err-n-clause-none
returns-in_err-n-clause-none c =
    let many = so_many c.args.digits.now c.loop-byte.byte-index c.loop-byte.n c.loop-byte.invariant c.loop-byte-test.true in
    let byte = digit_value_digit (get_or c.args.digits.now c.loop-byte.byte-index 0) c.if-not-is_ascii_digit.ensures.cases in
    rw c.from_residual-in_err-n.ensures (λ all. omega (arith, many, byte, c.in_err-n.ensures, c.in_ok-checked_mul.ensures, c.from.ensures))

pub loop-byte-preserved : goal.loop-byte-preserved
loop-byte-preserved c =
    let byte = digit_value_digit (get_or c.args.digits.now c.loop-byte.byte-index 0) c.if-not-is_ascii_digit.ensures.cases in
    let more = read_more c.args.digits.now c.loop-byte.byte-index c.loop-byte.n c.loop-byte.invariant c.loop-byte-test.true c.if-not-is_ascii_digit.ensures.bound in
    subst (IsRead c.args.digits.now (c.loop-byte.byte-index + 1)) (omega (arith, byte, c.in_ok-n.ensures, c.in_ok-checked_mul.ensures, c.from.ensures)) more
