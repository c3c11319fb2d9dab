-- `put_label` meets its clause `text`.
use Rattle.std.proofs.Common.{rules, append_assoc}
use Rattle.serde_json.proofs.OnLiterals.{serde_json_on_literals}
use Rattle.mps_show.proofs.text_parts.put_label.Goals as goal

pub returns-clause-text : goal.returns-clause-text
unfolding serde_json_on_literals
returns-clause-text c = search (rules, append_assoc)
