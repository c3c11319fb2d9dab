-- The least role that has a bad peer, looked for from the last.
use Rattle.std.proofs.Common.{◌≡◌, ℕ, ◌+◌, ◌<◌, ◌≤◌, List, [], ◌∷◌, ◌++◌, length, length-append, map, Option, refl, arith}
use Rattle.std.specs.Prelude.{IfSome, IfNone}
use Rattle.std.proofs.lemmas.Bool.{cases_eq}
use Rattle.mps_local.specs.Local.{LocalType}
use Rattle.mps_machine.specs.View.{type_at}
use Rattle.mps_session.specs.Peers.{HasPeers}
use Rattle.mps_session.proofs.TypeAt.{length_map}

-- from that role on each has the peers that it may
abbrev pub AreFrom : List LocalType → ℕ → Type 0
AreFrom types from = (q : ℕ) → from ≤ q → q < length types → HasPeers (length types) q (type_at types q)

-- p is the least from that role on that has another
pub record IsFirstBadFrom (types : List LocalType) (from p : ℕ) : Type 0 where
  pub after : from ≤ p
  pub within : p < length types
  pub bad : HasPeers (length types) p (type_at types p) → ⊥
  pub others : (q : ℕ) → from ≤ q → q < p → HasPeers (length types) q (type_at types q)

type_behind : {A : Type 0} (f : A → LocalType) (before after : List A) (t : A) → type_at (map f (before ++ t ∷ after)) (length before) ≡ f t
type_behind f [] after t = refl
type_behind f (x ∷ before) after t = type_behind f before after t

module _ {A : Type 0} (f : A → LocalType) (all before after : List A) (t : A) (is : all ≡ before ++ t ∷ after) where
  -- a bad peer there is the least of all that were looked at
  pub bad_here : (HasPeers (length (map f all)) (length before) (f t) → ⊥) → IsFirstBadFrom (map f all) (length before) (length before)
  bad_here bad = grind (arith, length_map, length-append, type_behind)

  module _ (fine : HasPeers (length (map f all)) (length before) (f t)) where
    fine_here : HasPeers (length (map f all)) (length before) (type_at (map f all) (length before))
    fine_here = grind (arith, type_behind)

    -- what holds from the next role on and there, holds from there on
    from_here : (P : ℕ → Type 0) (q : ℕ) → (length before + 1 ≤ q → P q) → P (length before) → length before ≤ q → P q
    from_here P q later now from = grind (arith, cases_eq)

    pub fine_from : (found : Option ℕ) → IfSome found (IsFirstBadFrom (map f all) (length before + 1)) → IfSome found (IsFirstBadFrom (map f all) (length before))
    fine_from found h = grind (arith, from_here, fine_here)

    pub fine_all : (found : Option ℕ) → IfNone found (AreFrom (map f all) (length before + 1)) → IfNone found (AreFrom (map f all) (length before))
    fine_all found h = grind (arith, from_here, fine_here)
