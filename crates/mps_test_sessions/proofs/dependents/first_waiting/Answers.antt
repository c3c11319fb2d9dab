-- `first_waiting` meets its contract and keeps what holds in each turn of its loop.
use Rattle.std.proofs.Common.{◌≡◌, ℕ, true, false, Option, Some, None, refl, sym, ◌∙◌, arith}
use Rattle.std.specs.Prelude.{is_some}
use Rattle.std.proofs.lemmas.Bool.{false≢true}
use Rattle.mps_links.proofs.Waiting.{sought, found_first, found_last, found_received, seeks}
use Rattle.mps_test_sessions.proofs.dependents.first_waiting.Goals as goal

some_of : (o : Option ℕ) → is_some o ≡ true → (k : ℕ) × (o ≡ Some k)
some_of None e = absurd (false≢true e)
some_of (Some k) e = (k, refl)

none_of : (o : Option ℕ) → is_some o ≡ false → o ≡ None
none_of None e = refl
none_of (Some k) e = absurd cc

pub loop-init : goal.loop-init
loop-init c =
    let sound = c.len-end.ensures.sound in
    record {
      sound = sound;
      sought = rw c.last_send-at.ensures (sought c.args.arena.now.keyed_steps sound c.args.from c.args.to);
      end = c.len-end.ensures.count;
    }

pub returns-in_default : goal.returns-in_default
returns-in_default c =
    let i = c.loop.invariant in
    found_first c.args.arena.now.keyed_steps i.sound c.args.from c.args.to _ _ _ i.sought c.in_default.is

pub returns-then-is_some : goal.returns-then-is_some
returns-then-is_some c =
    let i = c.loop.invariant in
    let some = some_of c.receipt.result (sym c.is_some.ensures ∙ c.if-is_some.true) in
    found_received c.args.arena.now.keyed_steps i.sound c.args.from c.args.to _ _ _ i.sought c.in-Some.key c.in-Some.is some.0 (sym c.receipt.ensures ∙ some.1)

pub loop-preserved : goal.loop-preserved
loop-preserved c =
    let i = c.loop.invariant in
    let none = none_of c.receipt.result (sym c.is_some.ensures ∙ c.if-is_some.false) in
    record {
      sound = i.sound;
      sought = rw (c.prev_send-at.ensures, ← c.in-Some.is) (seeks c.args.arena.now.keyed_steps i.sound c.args.from c.args.to _ _ _ i.sought c.in-Some.key c.in-Some.is (sym c.receipt.ensures ∙ none));
      end = i.end;
    }

pub returns : goal.returns
returns c =
    let i = c.loop.invariant in
    found_last c.args.arena.now.keyed_steps i.sound c.args.from c.args.to _ _ _ i.sought (omega arith)
