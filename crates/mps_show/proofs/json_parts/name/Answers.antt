-- `name` may call `text`, by the lemmas of Texts.
use Rattle.std.proofs.Common.{subst, sym}
use Rattle.std.specs.Str.{IsAscii}
use Rattle.mps_show.proofs.Texts.{name_is_plain, plain_is_ascii}
use Rattle.mps_show.proofs.json_parts.name.Goals as goal

pub text-requires : goal.text-requires
text-requires c = subst IsAscii (sym c.as_bytes.ensures.bytes) (plain_is_ascii c.args.name.now (name_is_plain c.args.name.now c.as_bytes.ensures.name))
