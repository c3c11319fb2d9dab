-- `text_of` never reaches what can't be, since a name is ASCII.
use Rattle.std.proofs.Common.{sym, subst}
use Rattle.std.specs.Str.{IsAscii}
use Rattle.std.proofs.lemmas.Str.{IsUtf8-from_ascii}
use Rattle.mps_show.proofs.Texts.{plain_is_ascii, name_is_plain}
use Rattle.mps_program.proofs.faults.text_of.Goals as goal

pub unreachable-requires : goal.unreachable-requires
unreachable-requires c =
    c.in-Err.ensures.cases.0 (IsUtf8-from_ascii c.as_bytes.result.now
    (subst IsAscii (sym c.as_bytes.ensures.bytes) (plain_is_ascii c.args.name.now (name_is_plain c.args.name.now c.as_bytes.ensures.name))))
