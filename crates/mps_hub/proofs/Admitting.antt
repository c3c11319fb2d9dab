-- What records the session of a pass that a connection gets.
use Rattle.std.proofs.Common.{◌≡◌, ℕ, ◌+◌, ◌-◌, List, Option, None, length, ap, sym, ◌∙◌, arith}
use Rattle.mps_hub.specs.Places.{IsKeptBy, IsOpen, Offer, keeper_at}

module _ {K : Type 0} (offer : Offer) (keepers : List (Option K)) (session place : ℕ) (keeper : Option K) (number : session ≡ offer.first + place) (at : keeper ≡ keeper_at keepers place) where
  its_place : session - offer.first ≡ place
  its_place = omega (arith, number)

  pub kept_by : (keeper ≡ None → length keepers ≡ 0) → IsKeptBy keepers (session - offer.first) keeper
  kept_by h = (at ∙ ap (λ (n : ℕ). keeper_at keepers n) (sym its_place), h)

  -- a session that nothing records, where others are recorded
  pub closed : keeper ≡ None → (length keepers ≡ 0 → ⊥) → IsOpen offer keepers session → ⊥
  closed none some h = some (h.1.1.1 (h.1.1.0 ∙ ap (λ (n : ℕ). keeper_at keepers n) its_place ∙ sym at ∙ none))
