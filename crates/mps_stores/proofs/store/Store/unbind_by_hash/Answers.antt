-- `Store::unbind_by_hash` meets its contract, by the lemmas of Maps.
use Rattle.std.proofs.Common.{◌≡◌, ℕ, Option, None, sym, ap, ◌∙◌}
use mathlib.Core.Path.{ap₂}
use Rattle.mps_history.specs.Slots.{unbound, value_in}
use Rattle.mps_stores.specs.Stores.{Keys}
use Rattle.mps_stores.proofs.Maps.{lookup_is_value, set_is_unbound, remove_is_unbound, unbound_stays}
use Rattle.mps_stores.proofs.store.Store.unbind_by_hash.Goals as goal

pub returns-in-Some-get_mut : goal.returns-in-Some-get_mut
returns-in-Some-get_mut c =
    let name = c.args.name.now in
    (c.get_mut.follows.holds c.in-Some.older).0
    ∙ set_is_unbound name c.in-Some.older c.self.inside.keys.entries
    ∙ ap₂ (λ (o : Option ℕ) (s : Keys). unbound name o s) (sym c.in-Some.is) c.self.view_is

pub returns-in_default : goal.returns-in_default
returns-in_default c =
    let name = c.args.name.now in
    let before = c.self.inside.keys in
    let none : value_in name before.entries ≡ None = sym (lookup_is_value name before.entries) ∙ sym c.in_default.ensures.value in
    ap (λ m. m.entries) c.get_mut.follows.holds-at-none
    ∙ sym (unbound_stays name c.args.older before.entries none)
    ∙ ap (unbound name c.args.older) c.self.view_is

pub returns-in-None : goal.returns-in-None
returns-in-None c =
    let name = c.args.name.now in
    c.shift_remove.ensures.entries
    ∙ remove_is_unbound name c.self.inside.keys.entries
    ∙ ap₂ (λ (o : Option ℕ) (s : Keys). unbound name o s) (sym c.in-None.is) c.self.view_is
