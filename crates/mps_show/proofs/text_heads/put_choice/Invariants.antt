-- In each turn of the loop of `put_choice` the text so far, with the labels that are left, is that of the choice.
use Rattle.std.proofs.Common.{◌≡◌, ◌∷◌, ◌++◌, drop}
use Rattle.std.specs.List.{AllByRecursion}
use Rattle.mps_base.specs.Spaced.{spaced}
use Rattle.mps_base.specs.Texts.{IsPlainByte}
use Rattle.mps_show.specs.Private.Rows.{words_behind}
use Rattle.mps_show.proofs.text_heads.put_choice.Given as goal

abbrev pub invariant-loop-label : goal.invariant-loop-label
invariant-loop-label l = record {
  text : l.out.items ++ words_behind (drop l.label-index l.labels) ≡ l.fn.out.items ++ spaced (l.word ∷ l.peer ∷ l.labels);
  plain : AllByRecursion IsPlainByte (words_behind (drop l.label-index l.labels)) → AllByRecursion IsPlainByte (words_behind l.labels);
}
