-- In each turn of the loop of `goes_by` the walk stands at a node of the table.
use Rattle.mps_table.specs.Graph.{IsNode}
use Rattle.mps_test_sessions.proofs.verdicts.goes_by.Given as goal

abbrev pub invariant-loop-asked : goal.invariant-loop-asked
invariant-loop-asked g l = IsNode l.table l.node
