-- `Tally::hear` meets its contract, by the lemmas of Hearing.
use Rattle.std.proofs.Common.{◌++◌, refl, sym, ◌∙◌, length}
use Rattle.std.proofs.lemmas.Bool.{eqb-true}
use Rattle.mps_program.proofs.Hearing.{heard_all}
use Rattle.mps_program.proofs.tally.Tally.hear.Goals as goal

pub returns : goal.returns
returns c heard h =
    let all = heard ++ c.args.bytes.now in
    let none = eqb-true (length c.lines.rest.now) 0 (sym c.is_empty.ensures ∙ c.lines-test.false) in
    heard_all c.lines.self c.lines.rest.now all none (c.lines.invariant all (record { heard = heard; counted = h; whole = refl }))
