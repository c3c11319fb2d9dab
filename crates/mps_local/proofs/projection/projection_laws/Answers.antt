-- Proves the law `projection_laws`, clauses `peers`, `no_larger`, `no_deeper` and `limits`, by the lemmas of Projected.
use Rattle.std.proofs.Common.{arith}
use Rattle.mps_global.proofs.Sound.{sound_protocol}
use Rattle.mps_local.proofs.Projected.{fitting}
use Rattle.mps_local.proofs.projection.projection_laws.Goals as goal

pub returns-clause-peers : goal.returns-clause-peers
returns-clause-peers c = λ merging roles role tree t h e. (fitting merging roles role tree t h e).others

pub returns-clause-no_larger : goal.returns-clause-no_larger
returns-clause-no_larger c = λ merging roles role tree t h e. (fitting merging roles role tree t h e).nodes_fit

pub returns-clause-no_deeper : goal.returns-clause-no_deeper
returns-clause-no_deeper c = λ merging roles role tree t h e. (fitting merging roles role tree t h e).levels_fit

pub returns-clause-limits : goal.returns-clause-limits
returns-clause-limits c =
    λ merging roles role tree t h e.
    let f = fitting merging roles role tree t h e in
    let s = sound_protocol roles tree h in
    let n = f.nodes_fit in let l = f.levels_fit in let m = s.small in let d = s.shallow in
    (omega (arith, n, m), omega (arith, l, d))
