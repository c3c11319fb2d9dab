-- `mark_from` meets its clauses `marks`, `count` and `closed`, keeps what holds in each turn of its loop, and may call `unwrap`.
use Rattle.std.proofs.Common.{◌≡◌, ℕ, List, replicate, Option, Some, None, true, refl, sym, ◌∙◌, subst, arith}
use Rattle.mps_arena.specs.KeyedSteps.{KeyedStep}
use Rattle.mps_links.specs.Marks.{AreMarksClosed}
use Rattle.mps_links.specs.Private.Numbered.{HaveNumbers}
use Rattle.mps_links.proofs.Kept.{numbers_marked}
use Rattle.mps_links.proofs.Numbers.{numbered}
use Rattle.mps_links.proofs.Firsts.{keyed_in}
use Rattle.mps_links.proofs.Spreading.{IsSpread}
use Rattle.mps_links.proofs.Turns.{turns}
use Rattle.mps_links.proofs.Ends.{starts, ends, ends_by_count, marks_are, count_is, marks_closed}
use Rattle.mps_links.proofs.marking.mark_from.Goals as goal

pub unwrap-first-requires : goal.unwrap-first-requires
unwrap-first-requires c =
    let s = numbered c.args.arena.now.keyed_steps c.args.id c.requires.present in
    rw (c.by_id.ensures, s.key) cc

pub loop-count-init : goal.loop-count-init
loop-count-init c =
    let es = c.args.arena.now.keyed_steps in
    let sound = c.len-len.ensures.sound in
    let s = numbered es c.args.id c.requires.present in
    let one : Some s.keyed.key ≡ Some c.unwrap-first.result = sym s.key ∙ sym c.by_id.ensures ∙ c.unwrap-first.ensures in
    let start = starts es c.args.id s.keyed c.requires.unmarked (keyed_in es sound.distinct sound.rising s.before s.behind s.keyed s.parts) s.number in
    record {
      spread = rw (c.new-pending.ensures.keys) (subst (λ (o : Option ℕ). IsSpread es es c.args.id o (replicate 8 None) 0) one start);
      numbers = c.new-pending.ensures.numbers es;
      issued = refl;
      space = refl;
      key = refl;
    }

pub loop-count-preserved : goal.loop-count-preserved
loop-count-preserved c =
    let i = c.loop-count.invariant in
    let set = c.set_mark.ensures in
    let follow = c.follow in
    record {
      spread = rw (set.keyed_steps, c.unmarked_next-walk.ensures, follow.ensures.keys) (turns _ c.len-len.ensures.sound _ _ _ _ _ i.spread c.in-Some.key c.in-Some.ensures.next);
      numbers = subst (λ (now : List KeyedStep). HaveNumbers now follow.new.self.firsts) (sym set.keyed_steps) (numbers_marked c.in-Some.key true c.loop-count.arena.keyed_steps follow.new.self.firsts follow.ensures.numbers);
      issued = set.issued ∙ i.issued;
      space = set.space ∙ i.space;
      key = set.key ∙ i.key;
    }

pub returns-in_default-clause-marks : goal.returns-in_default-clause-marks
returns-in_default-clause-marks c =
    let w = c.loop-count.invariant.spread in
    marks_are _ _ _ _ _ _ w c.len-len.ensures.sound (ends _ _ _ _ _ _ w c.len-len.ensures.sound (c.next.ensures.ended c.in_default.is) (c.next.ensures.none c.in_default.is))

pub returns-in_default-clause-count : goal.returns-in_default-clause-count
returns-in_default-clause-count c =
    let w = c.loop-count.invariant.spread in
    count_is _ _ _ _ _ _ w c.len-len.ensures.sound (ends _ _ _ _ _ _ w c.len-len.ensures.sound (c.next.ensures.ended c.in_default.is) (c.next.ensures.none c.in_default.is))

pub returns-in_default-clause-closed : goal.returns-in_default-clause-closed
returns-in_default-clause-closed c =
    subst AreMarksClosed (sym (returns-in_default-clause-marks c)) (marks_closed c.args.arena.now.keyed_steps c.args.id c.len-len.ensures.sound.rising)

pub returns-clause-marks : goal.returns-clause-marks
returns-clause-marks c =
    let w = c.loop-count.invariant.spread in
    marks_are _ _ _ _ _ _ w c.len-len.ensures.sound (ends_by_count _ _ _ _ _ _ w c.len-len.ensures.sound (omega arith))

pub returns-clause-count : goal.returns-clause-count
returns-clause-count c =
    let w = c.loop-count.invariant.spread in
    let end : c.len-len.result ≡ c.loop-count.count = omega arith in
    end ∙ count_is _ _ _ _ _ _ w c.len-len.ensures.sound (ends_by_count _ _ _ _ _ _ w c.len-len.ensures.sound (omega arith))

pub returns-clause-closed : goal.returns-clause-closed
returns-clause-closed c =
    subst AreMarksClosed (sym (returns-clause-marks c)) (marks_closed c.args.arena.now.keyed_steps c.args.id c.len-len.ensures.sound.rising)
