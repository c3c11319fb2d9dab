-- Session fidelity: what waits for a role is what its type expects.
use Rattle.std.specs.Prelude.{◌≡◌, ℕ, ◌⊎◌, true, None, List, [], ◌∷◌, ⊤}
use Rattle.mps_base.specs.declared.action.Message.{Message}
use Rattle.mps_global.specs.Global.{GlobalType}
use Rattle.mps_global.specs.Faults.{fault_of}
use Rattle.mps_local.specs.Local.{LocalType, Recv, Branch}
use Rattle.mps_local.specs.Outcome.{AreProjections}
use Rattle.mps_local.specs.Unfolding.{unfolded}
use Rattle.mps_local.specs.declared.merging.Merging.{Merging}
use Rattle.mps_command.specs.declared.answer.Answer.{Answer}
use Rattle.mps_command.specs.declared.answer.Answer.TheVariants.{Refused}
use Rattle.mps_command.specs.declared.answer.Refusal.TheVariants.{Violation as Violates}
use Rattle.mps_command.specs.declared.answer.Violation.TheVariants.{Mismatch}
use Rattle.mps_machine.specs.View.{View}
use Rattle.mps_machine.specs.Violations.{is_value_of, is_label_of}

-- the types are what the roles of one protocol without faults do, by either kind of merging
pub record AreOfOneProtocol (types : List LocalType) : Type 0 where
  pub merging : Merging
  pub roles : List (List ℕ)
  pub tree : GlobalType
  pub faultless : fault_of roles tree ≡ None
  pub projections : AreProjections merging roles tree types

-- an unfolded type that begins with an input from p expects this message of p
abbrev pub Expects : LocalType → ℕ → Message → Type 0
Expects (Recv peer sort next) p m = peer ≡ p → is_value_of sort m ≡ true
Expects (Branch peer branches) p m = peer ≡ p → is_label_of branches m ≡ true
Expects t p m = ⊤

-- wherever messages of p wait for q, and q's type to come begins with an input from p, it expects the first of them
abbrev pub IsFaithful : View → Type 0
IsFaithful v =
    (p q : ℕ) (m : Message) (ms : List Message) → v.queue p q ≡ m ∷ ms
    → Expects (unfolded (v.participant q).to_come) p m

-- between the two roles messages wait in one direction at most
abbrev pub IsHalfDuplex : View → (p q : ℕ) → Type 0
IsHalfDuplex v p q = (v.queue p q ≡ []) ⊎ (v.queue q p ≡ [])

-- the answer to a command whose message isn't the expected one
abbrev pub mismatch : Answer
mismatch = Refused (Violates Mismatch)
