-- `project_by` meets its clause `peers` and may call `project_tree`, by the lemmas of Choices and Projected.
use Rattle.std.proofs.Common.{◌≡◌, ℕ, List, Some, subst, arith}
use Rattle.mps_global.specs.Global.{plain as global_type}
use Rattle.mps_global.proofs.Sound.{sound_protocol}
use Rattle.mps_local.specs.Local.{plain}
use Rattle.mps_local.specs.Projection.{projection}
use Rattle.mps_local.proofs.Choices.{few_choices}
use Rattle.mps_local.proofs.Projected.{known_peers}
use Rattle.mps_local.proofs.projection.project_by.Goals as goal

pub project_tree-requires-clause-within : goal.project_tree-requires-clause-within
project_tree-requires-clause-within c =
    let tree = global_type c.args.protocol.now.body in
    let few = few_choices tree in
    let small = (sound_protocol c.args.protocol.now.roles.items tree c.requires.well_formed).small in
    omega (arith, few, small)

pub returns-clause-peers : goal.returns-clause-peers
returns-clause-peers c =
    known_peers c.args.merging c.args.protocol.now.roles.items c.args.role (global_type c.args.protocol.now.body) (plain c.in_ok-local.local) c.requires.well_formed (subst (λ (roles : List (List ℕ)). projection c.args.merging roles c.args.role (global_type c.args.protocol.now.body) ≡ Some (plain c.in_ok-local.local)) c.deref.ensures.value c.in_ok-local.ensures.ok.defined)
