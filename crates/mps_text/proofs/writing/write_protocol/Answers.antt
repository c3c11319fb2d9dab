-- `write_protocol` meets its clauses `text` and `spelled`, by the lemmas of Written.
use Rattle.std.proofs.Common.{arith, ap, ◌∙◌}
use Rattle.mps_base.specs.Spaced.{with_tokens}
use Rattle.mps_global.specs.Global.{plain}
use Rattle.mps_text.proofs.Written.{written_is, written_spells}
use Rattle.mps_text.proofs.writing.write_protocol.Goals as goal

pub returns-clause-text : goal.returns-clause-text
returns-clause-text c = grind (arith, written_is)

pub returns-clause-spelled : goal.returns-clause-spelled
returns-clause-spelled c = λ count branches.
    let roles = c.args.protocol.now.roles.items in
    let tree = plain c.args.protocol.now.body in
    let text = written_is c.new-out.result.items c.push_token.new.out.items c.write_names.new.out.items c.push_token-2.new.out.items c.write_tree.new.out.items roles tree c.new-out.ensures.items c.in_ok-push_token.ensures.ok (c.in_ok-write_names.ensures.text ∙ ap (with_tokens c.push_token.new.out.items) c.deref.ensures.value) c.in_ok-push_token-2.ensures.ok c.in_ok-write_tree.ensures.text in
    rw text (written_spells roles tree (rw c.deref.ensures.value at c.in_ok-write_names.ensures.named) count c.in_ok-write_tree.ensures.named branches)
