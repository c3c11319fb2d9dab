-- `Stores::unbind` meets its clause `returns`, by the lemmas of Bindings.
use Rattle.std.proofs.Common.{◌≡◌, ap, ◌∙◌}
use Rattle.mps_history.specs.Slots.{unbound}
use Rattle.mps_stores.specs.Stores.{store_at}
use Rattle.mps_stores.proofs.Bindings.{stores_unbind, store_is}
use Rattle.mps_stores.proofs.stores.Stores.unbind.Goals as goal

pub returns-clause-returns : goal.returns-clause-returns
returns-clause-returns c naming es e =
    let stores = c.self.inside.stores.items in
    let p = c.args.role in
    let name = c.args.name.now in
    let was : c.index_mut-store.result.now ≡ store_at stores p = store_is stores p c.index.result c.index_mut-store.result.now c.index.ensures.place c.self.invariant c.requires c.index_mut-store.ensures.value in
    let now : c.unbind.new.self ≡ unbound name c.args.older (store_at stores p) = c.unbind.ensures ∙ ap (unbound name c.args.older) was in
    rw (c.index.ensures.place, now, ← c.self.view_is) (stores_unbind naming es e p name c.args.older stores c.self.invariant c.requires)
