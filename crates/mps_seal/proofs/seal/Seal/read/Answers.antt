-- `Seal::read` meets its clause `none`, by the lemmas of Sealing.
use Rattle.std.proofs.Common.{length, sym, ap, ◌∙◌, arith}
use Rattle.std.proofs.lemmas.Bool.{false≢true}
use Rattle.std.specs.Str.{bytes_eq}
use Rattle.std.specs.Cmp.Lexicographic.{nat_list_eq_equiv}
use Rattle.mps_seal.specs.Seals.{next_seal, seal_text}
use Rattle.mps_seal.proofs.Sealing.{sealed_size, seal_there}
use Rattle.mps_seal.proofs.seal.Seal.read.Goals as goal

pub returns-in_err-count-clause-none : goal.returns-in_err-count-clause-none
returns-in_err-count-clause-none c =
    rw c.from_residual.ensures (λ line same.
    (rw c.in_err-count.was at c.checked_sub.ensures) (omega (arith, ap length same, sealed_size c.args.self.now line)))

pub returns-else-eq-clause-none : goal.returns-else-eq-clause-none
returns-else-eq-clause-none c = λ line same.
    let before = c.args.self.now in
    let size = (rw c.in_ok-count.was at c.checked_sub.ensures) in
    let there = seal_there before line c.args.line.now same c.in_ok-count.count (omega (arith, size.0, size.1)) in
    let text = c.as_slice.ensures ∙ c.text.ensures ∙ ap seal_text (c.next-seal.ensures ∙ ap (next_seal before) c.split_at.ensures.front) in
    let alike = c.split_at.ensures.back ∙ there ∙ sym text in
    false≢true (sym c.if-eq.false ∙ c.eq.ensures ∙ ap (bytes_eq c.split_at.result.1.now) (sym alike) ∙ nat_list_eq_equiv.refl c.split_at.result.1.now)
