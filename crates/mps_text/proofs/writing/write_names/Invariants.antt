-- In each turn of the loop of `write_names` the text so far, with the names that are left, is that of all names.
use Rattle.std.proofs.Common.{◌≡◌, drop}
use Rattle.std.specs.List.{AllByRecursion}
use Rattle.mps_base.specs.Names.{IsName}
use Rattle.mps_base.specs.Spaced.{with_tokens}
use Rattle.mps_text.proofs.writing.write_names.Given as goal

-- what is left is still to be written
abbrev pub invariant-loop-name : goal.invariant-loop-name
invariant-loop-name l = record {
  text : with_tokens l.out.items (drop l.name-index l.names) ≡ with_tokens l.fn.out.items l.names;
  named : AllByRecursion IsName (drop l.name-index l.names) → AllByRecursion IsName l.names;
}
