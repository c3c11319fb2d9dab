-- `Store::rebind` meets its clause `rebound`, by the lemmas of Maps.
use Rattle.std.proofs.Common.{◌<◌, length, ◌∙◌, ap}
use Rattle.indexmap.specs.IndexMap.{set_value_at}
use Rattle.mps_stores.specs.Stores.{Keys}
use Rattle.mps_stores.proofs.Maps.{nothing_behind}
use Rattle.mps_stores.proofs.store.Store.rebind.Goals as goal

pub returns-in_err-bound-clause-rebound : goal.returns-in_err-bound-clause-rebound
returns-in_err-bound-clause-rebound c =
    let before = c.self.inside.keys.entries in
    nothing_behind c.args.key before c.args.place (λ (less : c.args.place < length before). let none = c.in_err-bound.ensures.found.1 less in absurd cc)
    ∙ ap (λ (s : Keys). set_value_at s c.args.place c.args.key) c.self.view_is
