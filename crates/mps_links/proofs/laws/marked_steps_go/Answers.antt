-- Proves the law `marked_steps_go`, clauses `stay`, `fewer`, `last`, `left`, `unmarked`, `count` and 2 more, by the lemmas of Lasts and Going.
use Rattle.mps_links.specs.Marks.{marked_keys}
use Rattle.mps_links.proofs.Lasts.{nothing_last}
use Rattle.mps_links.proofs.Going.{unmarked_stay, one_fewer, last_marked, none_go, unmarked_left, marked_within, marked_count, marked_commits_are}
use Rattle.mps_links.proofs.laws.marked_steps_go.Goals as goal

pub returns-clause-stay : goal.returns-clause-stay
returns-clause-stay c = unmarked_stay

pub returns-clause-fewer : goal.returns-clause-fewer
returns-clause-fewer c = one_fewer

pub returns-clause-last : goal.returns-clause-last
returns-clause-last c es k e sound newest = last_marked es k sound newest e

pub returns-clause-left : goal.returns-clause-left
returns-clause-left c es none = none_go es (nothing_last (marked_keys es) none)

pub returns-clause-unmarked : goal.returns-clause-unmarked
returns-clause-unmarked c = unmarked_left

pub returns-clause-count : goal.returns-clause-count
returns-clause-count c = marked_count

pub returns-clause-marked : goal.returns-clause-marked
returns-clause-marked c = marked_within

pub returns-clause-commits : goal.returns-clause-commits
returns-clause-commits c = marked_commits_are
