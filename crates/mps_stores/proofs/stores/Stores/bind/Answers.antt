-- `Stores::bind` meets its clause `follows`, by the lemmas of Bindings.
use Rattle.std.proofs.Common.{arith, ◌≡◌, ℕ, ◌<◌, List, [], ◌∷◌, ◌++◌, length, Option, ◌∙◌, subst}
use Rattle.std.specs.Prelude.{Result, Ok, Err, IfOk, OnOk, slice_set}
use Rattle.mps_history.specs.Slots.{bound, value_in}
use Rattle.mps_arena.specs.KeyedSteps.{KeyedStep}
use Rattle.mps_stores.specs.Stores.{Keys, Naming, store_at, IsBinding, AreStores}
use Rattle.mps_stores.proofs.Bindings.{stores_bind, store_is}
use Rattle.mps_stores.proofs.stores.Stores.bind.Goals as goal

follows_from : {E : Type 0} (r : Result (Option ℕ) E) (stores : List Keys) (p key : ℕ) (name : List ℕ) (now : Keys) → length stores ≡ 8 → p < 8
    → IfOk r (λ older. older ≡ value_in name (store_at stores p)) → OnOk r (now ≡ bound name key (store_at stores p))
    → IfOk r (λ older. (naming : Naming) (es : List KeyedStep) (e : KeyedStep) → AreStores naming es stores → IsBinding naming p name e → e.key ≡ key → e.before.bound ≡ older → AreStores naming (es ++ e ∷ []) (slice_set stores p now))
follows_from (Err error) stores p key name now long small replaced bound_is = tt
follows_from (Ok older) stores p key name now long small replaced bound_is = λ naming es e s is same kept.
    grind (arith, stores_bind naming es e p name stores long small s is (kept ∙ replaced))

pub returns-clause-follows : goal.returns-clause-follows
returns-clause-follows c =
    let stores = c.self.inside.stores.items in
    let p = c.args.role in
    let name = c.args.name.now in
    let was : c.index_mut-store.result.now ≡ store_at stores p = store_is stores p c.index.result c.index_mut-store.result.now c.index.ensures.place c.self.invariant c.requires c.index_mut-store.ensures.value in
    let replaced : IfOk c.bind.result (λ older. older ≡ value_in name (store_at stores p)) = subst (λ (s : Keys). IfOk c.bind.result (λ older. older ≡ value_in name s)) was c.bind.ensures.replaced in
    let now : OnOk c.bind.result (c.bind.new.self ≡ bound name c.args.key (store_at stores p)) = subst (λ (s : Keys). OnOk c.bind.result (c.bind.new.self ≡ bound name c.args.key s)) was c.bind.ensures.bound in
    rw (c.index.ensures.place, ← c.self.view_is) (follows_from c.bind.result stores p c.args.key name c.bind.new.self c.self.invariant c.requires replaced now)
