-- What a session holds: for each role its past, its type to come and its store; for each ordered pair of roles a
-- queue. Queues that keep order are those of Honda, Yoshida, Carbone (2008). That a monitor may serve as a memory for
-- taking steps back is from Mezzina, Pérez (Causally consistent reversible choreographies, PPDP 2017). The form of
-- participant, store and rule is this project's.
use Rattle.std.specs.Prelude.{ℕ, suc, zero, List, [], ◌∷◌, Option}
use Rattle.mps_base.specs.declared.action.Act.{Act}
use Rattle.mps_base.specs.declared.action.Message.{Message}
use Rattle.mps_base.specs.declared.value.Value.{Value}
use Rattle.mps_local.specs.Local.{LocalType, End}

-- an act of the past, and the message that it gave or took
pub record Deed : Type 0 where
  pub act : Act
  pub moved : Option Message

-- slots and their values, in the order in which they were first bound
abbrev pub Store : Type 0
Store = List (List ℕ × Value)

-- one role: what it did, what it may do, and what it keeps
pub record Participant : Type 0 where
  pub past : List Deed
  pub to_come : LocalType
  pub store : Store

-- what a session holds, by role, and by sender and receiver
pub record View : Type 0 where
  pub participant : ℕ → Participant
  pub queue : ℕ → ℕ → List Message

-- the type of a role, and the end for a role that isn't there
abbrev pub type_at : List LocalType → ℕ → LocalType
type_at [] p = End
type_at (t ∷ types) zero = t
type_at (t ∷ types) (suc p) = type_at types p

-- the view before any step
abbrev pub opening : List LocalType → View
opening types = record {
  participant = λ p. record { past = []; to_come = type_at types p; store = [] };
  queue = λ p q. [];
}
