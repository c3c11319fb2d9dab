-- `read_text` meets its clauses `most`, `bytes`, `whole`, `reads_well` and `fault` and keeps what holds in each turn of its loop, by the lemmas of Causes and Bounds.
use Rattle.std.proofs.Common.{zero, suc, refl, length-append, ◌+◌, ◌≡◌, ◌≤◌, ℕ, length, take, ◌-◌, List, length-take, sym, ap, ◌∙◌, subst, arith}
use Rattle.std.specs.Io.KnownBytes.{Consumes}
use Rattle.mps_program.specs.Faults.{IsReadFault}
use Rattle.mps_program.proofs.Causes.{told}
use Rattle.mps_program.proofs.Bounds.{read_on}
use Rattle.mps_wire.proofs.Bytes.{Consumes-none, Consumes-trans, same_space}
use Rattle.mps_program.proofs.files.read_text.Goals as goal

pub loop-block-init : goal.loop-block-init
loop-block-init g c = record {
  space = omega (arith, c.in_ok-block.block.ok.0, c.in_ok-block.ensures.len);
  most = omega (arith, ap length c.new-text.ensures.items);
  calls = omega arith;
  none_failed = refl;
  bytes = subst (Consumes (g.R.Source.remaining c.args.reader.now) (g.R.Source.remaining c.args.reader.now)) (sym c.new-text.ensures.items) (Consumes-none (g.R.Source.remaining c.args.reader.now));
}

-- the buffer is cut to the bytes that are wanted still
cut_length : (used len : ℕ) (old new : List ℕ) → len ≡ used → 65537 ≤ length old + used → new ≡ take (65537 - len) old → length new ≡ 65537 - used
cut_length used len old new e space f = omega (arith, e, space, ap length f, length-take (65537 - len) old)

-- the space in the buffer and the bytes that were read are at most one byte more than a text may have
pub returns-then-branch-eq0-clause-most : goal.returns-then-branch-eq0-clause-most
returns-then-branch-eq0-clause-most g c =
    let cut = cut_length (length c.loop-block.text.items) c.len-in-loop-block.result c.loop-block.block.items c.truncate.new.self.items (omega (arith, c.len-in-loop-block.ensures, c.loop-block.text.ok.0)) c.loop-block.invariant.space c.truncate.ensures.items in
    read_on 65537 _ _ _ _ c.loop-block.text.items c.loop-block.invariant.bytes c.in_ok-read_more.ensures.most
    (omega (arith, cut, c.loop-block-test.true, c.len.ensures, c.loop-block.text.ok.0, c.as_mut_slice.ensures.len, ap length c.as_mut_slice.ensures.value))

pub returns-in_err-read_more-clause-most : goal.returns-in_err-read_more-clause-most
returns-in_err-read_more-clause-most g c =
    let cut = cut_length (length c.loop-block.text.items) c.len-in-loop-block.result c.loop-block.block.items c.truncate.new.self.items (omega (arith, c.len-in-loop-block.ensures, c.loop-block.text.ok.0)) c.loop-block.invariant.space c.truncate.ensures.items in
    read_on 65537 _ _ _ _ c.loop-block.text.items c.loop-block.invariant.bytes c.in_err-read_more.ensures.most
    (omega (arith, cut, c.loop-block-test.true, c.len.ensures, c.loop-block.text.ok.0, c.as_mut_slice.ensures.len, ap length c.as_mut_slice.ensures.value))

pub returns-then-branch-eq0-clause-bytes : goal.returns-then-branch-eq0-clause-bytes
returns-then-branch-eq0-clause-bytes g c =
    let m = c.in_ok-read_more.ensures.more in
    subst (Consumes (g.R.Source.remaining c.args.reader.now) (g.R.Source.remaining c.read_more.new.reader)) (sym {A = List ℕ} m.2)
    (Consumes-trans _ _ _ c.loop-block.text.items m.0 c.loop-block.invariant.bytes m.3)

pub returns-then-branch-eq0-clause-whole : goal.returns-then-branch-eq0-clause-whole
returns-then-branch-eq0-clause-whole g c = λ h.
    let cut = cut_length (length c.loop-block.text.items) c.len-in-loop-block.result c.loop-block.block.items c.truncate.new.self.items (omega (arith, c.len-in-loop-block.ensures, c.loop-block.text.ok.0)) c.loop-block.invariant.space c.truncate.ensures.items in
    c.in_ok-read_more.ensures.end c.if-branch-eq0.true (omega (arith, cut, c.loop-block-test.true, c.len.ensures, c.loop-block.text.ok.0, c.as_mut_slice.ensures.len, ap length c.as_mut_slice.ensures.value))

pub returns-then-branch-eq0-clause-reads_well : goal.returns-then-branch-eq0-clause-reads_well
returns-then-branch-eq0-clause-reads_well g c = c.in_ok-read_more.ensures.reads_well ∙ c.loop-block.invariant.none_failed

pub returns-clause-reads_well : goal.returns-clause-reads_well
returns-clause-reads_well g c = c.loop-block.invariant.none_failed

pub returns-in_err-block-clause-fault : goal.returns-in_err-block-clause-fault
returns-in_err-block-clause-fault g c = told _ (IsReadFault (g.R.Source.failed_calls c.args.reader.now) (g.R.Source.failed_calls c.args.reader.now)) _ c.from_residual.ensures.1 refl

pub returns-in_err-read_more-clause-fault : goal.returns-in_err-read_more-clause-fault
returns-in_err-read_more-clause-fault g c =
    told _ (IsReadFault (g.R.Source.failed_calls c.args.reader.now) (g.R.Source.failed_calls c.read_more.new.reader)) _ c.from_residual-in_err-read_more.ensures.1
    (subst (λ (n : ℕ). IsReadFault n (g.R.Source.failed_calls c.read_more.new.reader) c.in_err-read_more.field-0.0) c.loop-block.invariant.none_failed c.in_err-read_more.ensures.fault)

pub loop-block-preserved : goal.loop-block-preserved
loop-block-preserved g c =
    let m = c.in_ok-read_more.ensures.more in
    let added : length c.read_more.new.text.items ≡ length c.loop-block.text.items + c.in_ok-read_more.field-0 = ap length m.2 ∙ length-append c.loop-block.text.items m.0 ∙ ap (λ (k : ℕ). length c.loop-block.text.items + k) m.1 in
    let some : 1 ≤ c.in_ok-read_more.field-0 = positive c.in_ok-read_more.field-0 c.if-branch-eq0.false in
    let cut = cut_length (length c.loop-block.text.items) c.len-in-loop-block.result c.loop-block.block.items c.truncate.new.self.items (omega (arith, c.len-in-loop-block.ensures, c.loop-block.text.ok.0)) c.loop-block.invariant.space c.truncate.ensures.items in
    let same = same_space c.truncate.new.self.len (length c.truncate.new.self.items) c.read_more.new.block c.truncate.new.self.items c.truncate.new.self.ok.0 refl in
    record {
      space = omega (arith, same, cut, added);
      most = omega (arith, added, cut, c.loop-block-test.true, c.len.ensures, c.loop-block.text.ok.0, c.in_ok-read_more.ensures.long, c.as_mut_slice.ensures.len, ap length c.as_mut_slice.ensures.value);
      calls = omega (arith, added, some, c.loop-block.invariant.calls, c.in_ok-read_more.ensures.calls);
      none_failed = c.in_ok-read_more.ensures.reads_well ∙ c.loop-block.invariant.none_failed;
      bytes =
          subst (Consumes (g.R.Source.remaining c.args.reader.now) (g.R.Source.remaining c.read_more.new.reader)) (sym {A = List ℕ} m.2)
          (Consumes-trans _ _ _ c.loop-block.text.items m.0 c.loop-block.invariant.bytes m.3);
    }
  where
    positive : (n : ℕ) → (n ≡ 0 → ⊥) → 1 ≤ n
    positive zero h = absurd (h refl)
    positive (suc n) h = omega arith

-- the loop ends where the text is longer than a text may be
pub returns-clause-whole : goal.returns-clause-whole
returns-clause-whole g c = λ h. absurd (omega (arith, h, c.loop-block-test.false, c.len.ensures, c.loop-block.text.ok.0))
