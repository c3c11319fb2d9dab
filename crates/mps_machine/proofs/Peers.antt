-- An allowed act names a peer of the type, and what is left of the type names no others.
use Rattle.std.proofs.Common.{arith, ◌≡◌, ◌≢◌, ℕ, zero, suc, true, false, List, Option, Some, subst, ⊎_elim}
use Rattle.std.specs.Prelude.{◌==◌}
use Rattle.std.specs.Str.{bytes_eq}
use Rattle.std.proofs.lemmas.Bool.{cases_Bool, eqb-true}
use Rattle.mps_base.specs.Effects.{Effect, Gives, Takes, Idle, effect}
use Rattle.mps_base.specs.declared.action.Act.{Act}
use Rattle.mps_base.specs.declared.action.Message.{Message}
use Rattle.mps_base.specs.declared.action.Step.{Step}
use Rattle.mps_local.specs.Actions.{branch_at}
use Rattle.mps_local.specs.Local.{LocalType, Branches, End, Var, Rec, Send, Recv, Select, Branch, NoMore, More}
use Rattle.mps_local.specs.Shape.{AllPeers, AllBranchPeers}
use Rattle.mps_local.specs.Unfolding.{replaced, replaced_in, opened, opened_times, leading, unfolded}
use Rattle.mps_machine.specs.Rule.{participant_after, view_after}
use Rattle.mps_machine.specs.View.{Participant, View}
use Rattle.mps_machine.proofs.Stepping.{participant_parts}

module _ (P : ℕ → Type 0) (x : List ℕ) (t : LocalType) (fine : AllPeers P t) where
  mutual
    replaced_peers : (u : LocalType) → AllPeers P u → AllPeers P (replaced x t u)
    replaced_peers End a = tt
    replaced_peers (Var y) a = grind (arith, cases_Bool)
    replaced_peers (Rec y u) a = grind (arith, replaced_peers u a, cases_Bool (bytes_eq y x))
    replaced_peers (Send peer sort u) a = (a.0, replaced_peers u a.1)
    replaced_peers (Recv peer sort u) a = (a.0, replaced_peers u a.1)
    replaced_peers (Select peer branches) a = (a.0, replaced_branch_peers branches a.1)
    replaced_peers (Branch peer branches) a = (a.0, replaced_branch_peers branches a.1)

    replaced_branch_peers : (branches : Branches) → AllBranchPeers P branches → AllBranchPeers P (replaced_in x t branches)
    replaced_branch_peers NoMore a = tt
    replaced_branch_peers (More label u others) a = (replaced_peers u a.0, replaced_branch_peers others a.1)

module _ (P : ℕ → Type 0) where
  opened_peers : (t : LocalType) → AllPeers P t → AllPeers P (opened t)
  opened_peers t a = grind (arith, replaced_peers)

  opened_times_peers : (n : ℕ) (t : LocalType) → AllPeers P t → AllPeers P (opened_times n t)
  opened_times_peers zero t a = a
  opened_times_peers (suc n) t a = grind (arith, replaced_peers, opened_times_peers n (opened t) (opened_peers t a))

  -- a type speaks with the same roles when it is unfolded
  pub unfolded_peers : (t : LocalType) → AllPeers P t → AllPeers P (unfolded t)
  unfolding unfolded
  unfolded_peers t a = opened_times_peers (leading t) t a

  branch_peers : (label : List ℕ) (branches : Branches) (t : LocalType) → AllBranchPeers P branches → branch_at label branches ≡ Some t → AllPeers P t
  branch_peers label NoMore t a e = absurd cc
  branch_peers label (More l u others) t a e =
      ⊎_elim
      (λ (y : bytes_eq l label ≡ true). subst (AllPeers P) (let same : u ≡ t = cc in same) a.0)
      (λ (n : bytes_eq l label ≡ false). let k = rw n at e in branch_peers label others t a.1 k)
      (cases_Bool (bytes_eq l label))

  -- the peer of an effect is such a role
  abbrev pub SpeaksWith : Effect → Type 0
  SpeaksWith (Gives to m) = P to
  SpeaksWith (Takes from slot) = P from
  SpeaksWith Idle = Unit {0}

  -- the peer of an act is such a role
  abbrev pub Speaks : Act → Type 0
  Speaks act = SpeaksWith (effect act)

  -- so it is with an act of a participant
  pub after_peers : (before after : Participant) (act : Act) (m : Option Message) → AllPeers P before.to_come → participant_after before act m ≡ Some after → Speaks act × AllPeers P after.to_come
  after_peers before after act m a e = grind (arith, participant_parts, eqb-true, cases_Bool, branch_peers, unfolded_peers)

-- what holds of the role of a step after it, and of the others before it, holds of each after it
pub fact_by_role : (P : ℕ → Participant → Type 0) (v : View) (s : Step) (c : Participant) (r : ℕ) → P s.role c → (r ≢ s.role → P r (v.participant r)) → P r ((view_after v s c).participant r)
fact_by_role P v s c r here others = grind (arith, cases_Bool (r == s.role))
