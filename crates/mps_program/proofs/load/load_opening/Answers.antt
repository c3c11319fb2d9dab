-- `load_opening` meets its clause `read`, by the lemmas of Causes.
use Rattle.std.proofs.Common.{ℕ, List, map, subst}
use Rattle.mps_global.specs.Global.{plain as global_type}
use Rattle.mps_local.specs.Local.{plain}
use Rattle.mps_open.specs.Texts.{AreTypesOf, IsProtocolText}
use Rattle.mps_program.proofs.Causes.{given_opening}
use Rattle.mps_program.proofs.load.load_opening.Goals as goal

pub returns-clause-read : goal.returns-clause-read
returns-clause-read g c =
    let value = c.as_slice.ensures.value in
    let e = c.in_ok-of_text.ensures in
    let o = c.in_ok-of_text.field-0 in
    given_opening c.args.merging _ _ c.in_ok-text.text.items o c.in_ok-text.ensures.bytes c.in_ok-text.ensures.whole e.merging
    (subst (λ (t : List ℕ). AreTypesOf c.args.merging t o.roles (map plain o.types.items)) value e.types)
    (subst (λ (t : List ℕ). IsProtocolText t o.protocol.roles.items (global_type o.protocol.body)) value e.read)
