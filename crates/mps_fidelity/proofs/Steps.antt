-- What a step of the rule gives and takes.
use Rattle.std.proofs.Common.{arith, ◌≡◌, ℕ, Bool, true, List, ◌++◌, drop, cond, Option, Some, None, sym, ap}
use Rattle.std.specs.Prelude.{◌==◌, ◌&&◌}
use Rattle.std.proofs.lemmas.Bool.{eqb-true}
use Rattle.mps_base.specs.Effects.{Effect, Gives, Takes}
use Rattle.mps_base.specs.Sorts.{fits}
use Rattle.mps_base.specs.declared.action.Message.{Message}
use Rattle.mps_base.specs.declared.action.Message.TheVariants.{Value as Plain, Label}
use Rattle.mps_history.specs.Steps.{gives_to, takes_from, messages_of}
use Rattle.mps_local.specs.Actions.{branch_at}
use Rattle.mps_local.specs.Local.{LocalType, Send, Recv, Select, Branch}
use Rattle.mps_machine.specs.Rule.{type_after_effect}
use Rattle.mps_fidelity.specs.Duality.{To, From, direction, after_message}

two_tests : (a b : Bool) (x y : LocalType) → cond (a && b) (Some x) None ≡ Some y → (a ≡ true) × (cond b (Some x) None ≡ Some y)
two_tests a b x y e = grind arith

one_test : (a : Bool) (o : Option LocalType) (y : LocalType) → cond a o None ≡ Some y → (a ≡ true) × (o ≡ Some y)
one_test a o y e = grind arith

-- what an allowed effect gives or takes is the message that the type begins with
pub data Moves (t u : LocalType) : Effect → Option Message → Type 0 where
  sends : (to : ℕ) (m : Message) (x : Option Message) → direction t ≡ To to → after_message t m ≡ Some u → Moves t u (Gives to m) x
  receives : (from : ℕ) (slot : Option (List ℕ)) (m : Message) → direction t ≡ From from → after_message t m ≡ Some u → Moves t u (Takes from slot) (Some m)

pub moves : (t : LocalType) (does : Effect) (m : Option Message) (u : LocalType) → type_after_effect t does m ≡ Some u → Moves t u does m
moves (Send peer sort next) (Gives to (Plain v)) m u e =
    let k = two_tests (to == peer) (fits v sort) next u e in
    sends to (Plain v) m (ap To (sym (eqb-true to peer k.0))) k.1
moves (Select peer branches) (Gives to (Label l)) m u e =
    let k = one_test (to == peer) (branch_at l branches) u e in
    sends to (Label l) m (ap To (sym (eqb-true to peer k.0))) k.1
moves (Recv peer sort next) (Takes from (Some slot)) (Some (Plain v)) u e =
    let k = two_tests (from == peer) (fits v sort) next u e in
    receives from (Some slot) (Plain v) (ap From (sym (eqb-true from peer k.0))) k.1
moves (Branch peer branches) (Takes from None) (Some (Label l)) u e =
    let k = one_test (from == peer) (branch_at l branches) u e in
    receives from None (Label l) (ap From (sym (eqb-true from peer k.0))) k.1
moves t does m u e = absurd cc

-- what an effect of p does to p's two queues with q: the one to q, and the one from q
abbrev pub out_after : ℕ → Effect → List Message → List Message
out_after q does out = cond (gives_to q does) (out ++ messages_of does) out

abbrev pub back_after : ℕ → Effect → List Message → List Message
back_after q does back = cond (takes_from q does) (drop 1 back) back
