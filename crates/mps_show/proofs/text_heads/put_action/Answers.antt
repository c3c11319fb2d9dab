-- `put_action` meets its clause `plain`, by the lemmas of Rows and Texts.
use Rattle.std.proofs.Common.{◌++◌, ◌∷◌}
use Rattle.mps_base.specs.Sorts.{sort_word}
use Rattle.mps_show.proofs.Rows.{on_ok}
use Rattle.mps_show.proofs.Texts.{in_front, name_is_plain, sort_is_plain}
use Rattle.mps_show.proofs.text_heads.put_action.Goals as goal

pub returns-clause-plain : goal.returns-clause-plain
returns-clause-plain c =
    let peer = c.args.peer.now in
    on_ok c.put_behind-2.result
    (in_front c.args.word.now (peer ++ 32 ∷ sort_word c.args.sort) c.requires (in_front peer (sort_word c.args.sort) (name_is_plain peer c.as_bytes.ensures.name) (sort_is_plain c.args.sort)))
