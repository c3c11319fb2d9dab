-- The types of an opening name its roles alone, so `lines_of` may call `write_lines`.
use Rattle.std.proofs.Common.{◌≡◌, ℕ, ◌<◌, zero, suc, List, [], ◌∷◌, length, map, Some, refl, subst, sym, ◌∙◌, arith}
use Rattle.std.specs.Prelude.{slice_get}
use Rattle.std.specs.List.{AllByRecursion}
use Rattle.std.proofs.lemmas.Option.{slice_get_within}
use Rattle.mps_global.specs.Global.{plain as global_type}
use Rattle.mps_local.specs.Local.{LocalType, plain}
use Rattle.mps_local.specs.declared.Local.{Local}
use Rattle.mps_local.specs.Shape.{AllPeers}
use Rattle.mps_local.proofs.Projected.{known_peers}
use Rattle.mps_program.proofs.check.lines_of.Goals as goal

-- what holds of the element at each place holds of all
at_each : (P : LocalType → Type 0) (types : List LocalType) → ((k : ℕ) (t : LocalType) → slice_get types k ≡ Some t → P t) → AllByRecursion P types
at_each P [] h = tt
at_each P (t ∷ types) h = (h zero t refl, at_each P types (λ k u at. h (suc k) u at))

pub write_lines-requires-clause-known : goal.write_lines-requires-clause-known
write_lines-requires-clause-known c =
    let o = c.args.opening.now in
    let roles = o.protocol.roles.items in
    let types = map plain o.types.items in
    subst (λ (given : List Local). AllByRecursion (AllPeers (λ peer. peer < length o.roles)) (map plain given)) (sym c.deref.ensures.value)
    (subst (λ (names : List (List ℕ)). AllByRecursion (AllPeers (λ peer. peer < length names)) types) (sym o.named)
    (at_each (AllPeers (λ peer. peer < length roles)) types (λ k t at. known_peers o.merging roles k (global_type o.protocol.body) t o.faultless
    (o.projected.each k (omega (arith, slice_get_within types k t at, o.projected.count)) ∙ at))))
