-- `write_found` meets its contract, by the lemmas of Choosing.
use Rattle.std.proofs.Common.{◌++◌, ◌∙◌, ap}
use Rattle.mps_global.specs.Global.{plain_branches}
use Rattle.mps_open.specs.Choices.{labels}
use Rattle.mps_open.proofs.Choosing.{words_behind}
use Rattle.mps_open.proofs.choice.write_found.Goals as goal

pub returns : goal.returns
returns c =
    let found = c.args.found in
    let out = c.args.out.now.items in
    let spaced = c.push.new.self.items in
    words_behind c.write_labels.result out found.sender.now found.receiver.now (labels (plain_branches found.branches.now)) c.extend_from_slice.new.self.items spaced c.extend_from_slice-2.new.self.items c.write_labels.new.out.items
    (c.in_ok-extend_from_slice.ensures.items ∙ ap (λ l. out ++ l) c.as_bytes.ensures.bytes)
    c.in_ok-push.ensures.items
    (c.in_ok-extend_from_slice-2.ensures.items ∙ ap (λ l. spaced ++ l) c.as_bytes-2.ensures.bytes)
    c.write_labels.ensures
