-- Duality of what two roles do: what one of them sends, the other receives (Honda, Vasconcelos, Kubo, ESOP 1998). In a
-- protocol of more roles what they do with third roles is passed over (Bettini and others, CONCUR 2008). Types go on
-- for ever, so it is said so many actions deep.
use Rattle.std.specs.Prelude.{◌≡◌, ◌≢◌, ℕ, zero, suc, ⊤, if◌then◌else◌, Option, Some, None}
use Rattle.mps_base.specs.declared.action.Message.{Message}
use Rattle.mps_base.specs.declared.action.Message.TheVariants.{Value as Plain, Label}
use Rattle.mps_base.specs.Sorts.{fits}
use Rattle.mps_local.specs.Local.{LocalType, Send, Recv, Select, Branch}
use Rattle.mps_local.specs.Actions.{branch_at}
use Rattle.mps_local.specs.Unfolding.{unfolded}

-- where a message goes: to a peer, or from one, or there is none
pub data Direction : Type 0 where
  Nowhere : Direction
  To : (peer : ℕ) → Direction
  From : (peer : ℕ) → Direction

-- the direction of the message that an unfolded type begins with
abbrev pub direction : LocalType → Direction
direction (Send peer sort next) = To peer
direction (Recv peer sort next) = From peer
direction (Select peer branches) = To peer
direction (Branch peer branches) = From peer
direction t = Nowhere

-- what comes after this message is sent or received
abbrev pub after_message : LocalType → Message → Option LocalType
after_message (Send peer sort next) (Plain v) = if fits v sort then Some next else None
after_message (Recv peer sort next) (Plain v) = if fits v sort then Some next else None
after_message (Select peer branches) (Label l) = branch_at l branches
after_message (Branch peer branches) (Label l) = branch_at l branches
after_message t m = None

-- the type neither sends to the role nor receives from it first
pub record IsElsewhere (t : LocalType) (role : ℕ) : Type 0 where
  pub not_to : direction t ≢ To role
  pub not_from : direction t ≢ From role

-- p's type t and q's type u, both unfolded, go on to types that are so related: one of them has nothing to do with the
-- other role first, since it has to do with a third role, whatever it sends or receives there, or has ended; or one
-- sends what the other receives
pub data DualStep (p q : ℕ) (R : LocalType → LocalType → Type 0) (t u : LocalType) : Type 0 where
  first_elsewhere : IsElsewhere t q → ((m : Message) (x : LocalType) → after_message t m ≡ Some x → R (unfolded x) u)
      → DualStep p q R t u
  second_elsewhere : IsElsewhere u p → ((m : Message) (y : LocalType) → after_message u m ≡ Some y → R t (unfolded y))
      → DualStep p q R t u
  first_sends : direction t ≡ To q → direction u ≡ From p → ((m : Message) (x : LocalType) → after_message t m ≡ Some x
      → (y : LocalType) × (after_message u m ≡ Some y) × R (unfolded x) (unfolded y)) → DualStep p q R t u
  second_sends : direction u ≡ To p → direction t ≡ From q → ((m : Message) (y : LocalType) → after_message u m ≡ Some y
      → (x : LocalType) × (after_message t m ≡ Some x) × R (unfolded x) (unfolded y)) → DualStep p q R t u

-- and so on, for so many actions. A role that has ended is dual to any: it is said what comes of messages that are
-- received, and not that each is
abbrev pub Dual : ℕ → (p q : ℕ) → LocalType → LocalType → Type 0
Dual zero p q t u = ⊤
Dual (suc n) p q t u = DualStep p q (Dual n p q) t u

-- p's type and q's type are dual, however many actions deep
abbrev pub AreDual : (p q : ℕ) → LocalType → LocalType → Type 0
AreDual p q t u = (n : ℕ) → Dual n p q (unfolded t) (unfolded u)
