-- `put_string` meets its clauses `text` and `plain`, by the lemmas of Texts.
use Rattle.std.proofs.Common.{◌≡◌, ℕ, List, [], ◌∷◌, ◌++◌, sym, ap, ◌∙◌, append_assoc, rules}
use Rattle.mps_show.proofs.Texts.{escape_plain, plain_is_shown}
use Rattle.mps_show.proofs.text_parts.put_string.Goals as goal

pub returns-clause-text : goal.returns-clause-text
returns-clause-text c =
    let old = c.args.out.now.items in
    let bytes = c.args.bytes.now in
    let written : c.push_reserved-2.new.self.items ≡ old ++ 34 ∷ (bytes ++ 34 ∷ []) = search (rules, append_assoc) in
    written ∙ ap (λ (l : List ℕ). old ++ 34 ∷ (l ++ 34 ∷ [])) (sym (escape_plain bytes c.requires))

pub returns-clause-plain : goal.returns-clause-plain
returns-clause-plain c = plain_is_shown c.args.bytes.now c.requires
