-- `put_name` meets its clauses, by the lemmas of Texts.
use Rattle.std.proofs.Common.{arith, ◌≡◌, ℕ, List, [], ◌∷◌, ◌++◌, ◌+◌, ◌<◌, length, take, set, sym, ap, ◌∙◌, subst, add-one, length-append}
use Rattle.std.proofs.lemmas.List.{take_more_set, take-append-le}
use Rattle.std.specs.Prelude.{OnOk}
use Rattle.mps_base.specs.Names.{IsName}
use Rattle.json.specs.Print.{quoted}
use Rattle.mps_show.proofs.Rows.{on_ok}
use Rattle.mps_show.proofs.Texts.{escape_plain, name_is_plain, plain_is_shown}
use Rattle.mps_show.proofs.pieces.put_name.Goals as goal

-- the name and both quotes, of the array that begins with a quote and the padded name
in_quotes : (name padded : List ℕ) → IsName name → take (length name) padded ≡ name → length padded ≡ 32 → take (length name + 2) (set (34 ∷ (padded ++ 34 ∷ [])) (length name + 1) 34) ≡ quoted name
in_quotes name padded is kept wide =
    let n = length name in
    let all = 34 ∷ (padded ++ 34 ∷ []) in
    let front : take (n + 1) all ≡ 34 ∷ name = ap (λ (k : ℕ). take k all) (add-one n) ∙ ap (λ (l : List ℕ). 34 ∷ l) (take-append-le n padded (34 ∷ []) (omega (arith, is.short)) ∙ kept) in
    let within : n + 1 < length all = omega (arith, is.short, length-append padded (34 ∷ [])) in
    let ends : n + 2 ≡ (n + 1) + 1 = omega arith in
    ap (λ (k : ℕ). take k (set all (n + 1) 34)) ends ∙ take_more_set all (n + 1) 34 within ∙ ap (λ (l : List ℕ). l ++ 34 ∷ []) front
    ∙ ap (λ (l : List ℕ). 34 ∷ (l ++ 34 ∷ [])) (sym (escape_plain name (name_is_plain name is)))

pub returns-clause-text : goal.returns-clause-text
returns-clause-text c =
    let name = c.args.name.now in
    let put = c.put_first in
    let wide : length c.padded.result ≡ 32 = sym (ap length c.copy_from_slice.ensures.after) ∙ c.copy_from_slice.ensures.len in
    let text : take (length c.as_bytes-len.result.now + 2) (set (34 ∷ (c.copy_from_slice.new.self ++ 34 ∷ [])) (length c.as_bytes-len.result.now + 1) 34) ≡ quoted name =
    rw (c.as_bytes-len.ensures.bytes, c.copy_from_slice.ensures.after) (in_quotes name c.padded.result c.padded.ensures.name c.padded.ensures.bytes wide) in
    subst (λ (l : List ℕ). OnOk put.result (put.new.out.items ≡ c.args.out.now.items ++ l)) text put.ensures

pub returns-clause-plain : goal.returns-clause-plain
returns-clause-plain c = on_ok c.put_first.result (plain_is_shown c.args.name.now (name_is_plain c.args.name.now c.padded.ensures.name))
