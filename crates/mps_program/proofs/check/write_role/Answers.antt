-- `write_role` meets its contract, by the lemmas of Lines.
use Rattle.std.proofs.Common.{◌≡◌, ℕ, List, Some, [], ◌∷◌, ◌++◌, ap, sym, subst, ◌∙◌}
use Rattle.std.specs.Prelude.{codes, slice_get}
use Rattle.std.proofs.lemmas.Option.{get_or_from_slice_get}
use Rattle.mps_local.specs.Local.{plain}
use Rattle.mps_local.specs.Text.{name_at, local_text}
use Rattle.mps_program.proofs.Lines.{whole_line}
use Rattle.mps_program.proofs.check.write_role.Goals as goal

pub returns : goal.returns
returns c =
    let out = c.args.out.now.items in
    let roles = c.args.roles.now in
    let text = local_text roles (plain c.args.t.now) in
    let at = subst (λ (k : ℕ). slice_get roles k ≡ Some c.name.result) c.new.ensures c.name.ensures in
    let named = c.as_bytes.ensures.bytes ∙ sym (get_or_from_slice_get roles c.args.place c.name.result [] at) in
    let said = c.deref.ensures.value ∙ c.in_ok-text.ensures in
    c.in_ok-push.ensures.items
    ∙ ap (λ (l : List ℕ). l ++ 10 ∷ []) (c.in_ok-extend_from_slice-3.ensures.items
    ∙ ap (λ (l : List ℕ). l ++ c.deref.result.now) (c.in_ok-extend_from_slice-2.ensures.items
    ∙ ap (λ (l : List ℕ). l ++ codes " : ") (c.in_ok-extend_from_slice.ensures.items ∙ ap (λ (l : List ℕ). out ++ l) named))
    ∙ ap (λ (l : List ℕ). out ++ name_at roles c.args.place ++ codes " : " ++ l) said)
    ∙ whole_line out (name_at roles c.args.place) (codes " : ") text (10 ∷ [])
