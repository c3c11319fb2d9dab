-- In each turn of the loop of `reached` the walk stands at a node of the table.
use Rattle.mps_table.specs.Graph.{IsNode}
use Rattle.mps_test_sessions.proofs.tables.reached.Given as goal

abbrev pub invariant-loop-choice : goal.invariant-loop-choice
invariant-loop-choice l = IsNode l.table l.node
