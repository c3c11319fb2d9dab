-- `Strict::write` meets its clause `passed`, by the lemmas of Passing.
use Rattle.std.proofs.Common.{◌≡◌, ◌≤◌, None, take, sym, ◌∙◌, arith, length-take}
use Rattle.mps_lines.specs.Cuts.{cut}
use Rattle.mps_program.specs.Heard.{first_refusal, wrapped}
use Rattle.mps_program.proofs.Passing.{ends_after, none_named, none_there, of_line}
use Rattle.mps_program.proofs.tally.StrictSink.write.Goals as goal

pub returns-clause-passed : goal.returns-clause-passed
returns-clause-passed g c passed h =
    let count = c.in_ok-count.count in
    let bytes = c.args.bytes.now in
    let end = c.line_length-end.result in
    let none : None ≡ wrapped (first_refusal (cut passed).lines) = none_there c.refused.result (sym c.is_some.ensures ∙ c.if-is_some.false) ∙ c.refused.ensures passed h in
    let fits : count ≤ end = omega (arith, c.in_ok-count.ensures.within, length-take end bytes) in
    record {
      heard = c.hear.ensures passed h.heard;
      ends = ends_after passed (take count bytes) h.ends (none_named (first_refusal (cut passed).lines) none) (of_line bytes end count c.line_length-end.ensures.line fits);
    }
