-- `write_int` meets its clause `ok`, by the lemmas of Numbers.
use Rattle.std.proofs.Common.{◌≡◌, ap, ◌∙◌}
use Rattle.std.specs.Fmt.{signed_decimal}
use Rattle.std.specs.Int.{w64}
use Rattle.std.proofs.lemmas.Int.{to_z-of_z}
use Rattle.mps_base.proofs.Numbers.{signed_is_int, appends_ok}
use Rattle.mps_base.proofs.number.write_int.Goals as goal

pub returns-clause-ok : goal.returns-clause-ok
returns-clause-ok c =
    let text : c.as_bytes.result.now ≡ signed_decimal c.args.n = c.as_bytes.ensures.value ∙ c.format.ensures.text ∙ ap signed_decimal (to_z-of_z w64 c.args.n c.ranges.n) in
    appends_ok _ _ _ _ _ c.extend_from_slice.ensures.items (rw text (signed_is_int c.args.n c.ranges.n))
