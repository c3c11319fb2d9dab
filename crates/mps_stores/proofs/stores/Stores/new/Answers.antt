-- `Stores::new` meets its clause `stores`.
use Rattle.std.proofs.Common.{◌≡◌, ℕ, suc, [], ◌∷◌, ◌++◌, List, replicate, refl, ap, ◌∙◌}
use Rattle.mps_arena.specs.KeyedSteps.{KeyedStep}
use Rattle.mps_stores.specs.Stores.{store_at}
use Rattle.mps_stores.proofs.stores.Stores.new.Goals as goal

nothing : (n p : ℕ) → store_at (replicate n []) p ≡ []
nothing (suc n) (suc p) = nothing n p
nothing other others = refl

none_in : (a b : List KeyedStep) (e : KeyedStep) → [] ≡ a ++ e ∷ b → ⊥
none_in [] b e whole = absurd cc
none_in (x ∷ a) b e whole = absurd cc

pub returns-clause-stores : goal.returns-clause-stores
returns-clause-stores c = λ naming. record {
  each = λ p small. ap (λ s. store_at s p) c.loop.invariant ∙ nothing c.loop.counter p;
  traced = λ p name a b e whole is. absurd (none_in a b e whole);
}
