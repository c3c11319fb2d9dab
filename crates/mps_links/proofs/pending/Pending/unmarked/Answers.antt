-- `Pending::unmarked` keeps what holds in each turn of its loop, by the lemmas of Kept.
use Rattle.std.proofs.Common.{◌≡◌, ◌<◌, ℕ, true, Some, None, length, sym, ap, ◌∙◌, arith}
use Rattle.std.specs.Prelude.{slice_index_or}
use borrow.Author.Count.{below_more}
use Rattle.mps_links.specs.Private.Numbered.{keys_alone}
use Rattle.mps_links.specs.Private.Pending.{mark_at}
use Rattle.mps_links.proofs.Kept.{key_there, no_key_there}
use Rattle.mps_links.proofs.pending.Pending.unmarked.Goals as goal
use Rattle.mps_links.proofs.pending.Pending.unmarked.Goals.{in-Some+else-not-marked, in_default}

pub loop-role-preserved : goal.loop-role-preserved
loop-role-preserved c =
    let es = c.args.arena.now.keyed_steps in
    let firsts = c.args.self.now.firsts in
    let p = c.loop-role.role in
    let small : p < length firsts = omega arith in
    let here = λ (k : ℕ) (first : slice_index_or (keys_alone firsts) p None ≡ Some k).
    let marked : mark_at es k ≡ Some true = elim c.match-self-role.branch [
      | in-Some+else-not-marked w ↦ sym (ap (mark_at es) (key_there firsts p _ w.in-Some.first k small w.in-Some.is first)) ∙ w.marked.ensures ∙ ap Some w.if-not-marked.false
      | in_default w ↦ absurd (no_key_there firsts p _ k small w.in_default.not-Some first)
    ] in
    marked in
    below_more (λ (r : ℕ). (k : ℕ) → slice_index_or (keys_alone firsts) r None ≡ Some k → mark_at es k ≡ Some true) p c.loop-role.invariant here
