-- `Lines::finish` meets its clauses `last` and `ok`, keeps the invariant of its type, and may call `take_line`, by the lemmas of Cutting.
use Rattle.std.proofs.Common.{◌≡◌, length, arith}
use Rattle.std.proofs.lemmas.List.{take_all, drop_all}
use Rattle.mps_lines.proofs.Cutting.{all_rest, last_is}
use Rattle.mps_lines.proofs.lines.Lines.finish.Goals as goal
use Rattle.mps_lines.proofs.lines.Lines.finish.Goals.{Else-count-eq0}

long_is : (c : Else-count-eq0) → c.self.inside.rest_len ≡ length c.self.inside.bytes.items
long_is c = grind (arith, all_rest)

pub take_line-requires : goal.take_line-requires
take_line-requires c = let e = long_is (goal.at.take_line-requires c).Else-count-eq0 in omega (arith, e)

pub invariant_of-self-2 : goal.invariant_of-self-2
invariant_of-self-2 c = grind (arith, drop_all, long_is)

pub returns-clause-last : goal.returns-clause-last
returns-clause-last c = grind (arith, long_is, take_all, all_rest, last_is)

pub returns-clause-ok : goal.returns-clause-ok
returns-clause-ok c = grind (arith, drop_all, long_is)
