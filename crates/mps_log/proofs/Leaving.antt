-- A step that may go, what stands last with it, and what stays where it moves or binds nothing.
use Rattle.std.proofs.Common.{arith, ◌≡◌, ℕ, Bool, true, not, List, Option, Some, None, refl, sym, ap, ◌∙◌, subst}
use Rattle.std.specs.Prelude.{◌==◌}
use Rattle.std.specs.List.{filter}
use Rattle.std.specs.Option.{option_map}
use Rattle.mps_base.specs.declared.action.Act.{Act}
use Rattle.mps_base.specs.declared.action.Act.TheVariants.{Out, In}
use Rattle.mps_base.specs.declared.action.Message.{Message}
use Rattle.mps_base.specs.declared.action.Step.{Step}
use Rattle.mps_base.specs.Effects.{Idle, effect}
use Rattle.mps_arena.specs.Keys.{last_key}
use Rattle.mps_arena.specs.KeyedSteps.{KeyedStep, keys_of, of_role, keyed_at, IsSmall, AreSound}
use Rattle.mps_arena.specs.Neighbours.{CanGo}
use Rattle.mps_arena.proofs.Chains.{keyed_key}
use Rattle.mps_arena.proofs.Keeping.{keyed_split, all_at}
use Rattle.mps_arena.proofs.Nodes.{cases_keyed, last_of_chain}
use Rattle.mps_queues.specs.Fronts.{AreFronts}
use Rattle.mps_queues.proofs.Moves.{idle_goes}
use Rattle.mps_stores.specs.Stores.{Keys, Naming, AreStores}
use Rattle.mps_stores.proofs.Bindings.{stores_idle_without}

pub record Leaves (es : List KeyedStep) (k : ℕ) (s : Step) : Type 0 where
  pub keyed : KeyedStep
  pub found : keyed_at k es ≡ Some keyed
  pub key : keyed.key ≡ k
  pub step : keyed.step ≡ s
  pub small : IsSmall s
  -- it is the last of each chain of its role that it stands in
  pub last : (f : Step → Bool) → ((t : Step) → f t ≡ true → of_role s.role t ≡ true) → f s ≡ true → last_key None (keys_of f es) ≡ Some k

pub leaves : (es : List KeyedStep) (k : ℕ) (s : Step) → AreSound es → CanGo es k → option_map (λ e. e.step) (keyed_at k es) ≡ Some s → Leaves es k s
leaves es k s sound can is = grind (arith, keyed_split, keyed_key, all_at, last_of_chain, cases_keyed)

module _ (es : List KeyedStep) (k : ℕ) (s : Step) (l : Leaves es k s) (sound : AreSound es) where
  here : keyed_at l.keyed.key es ≡ Some l.keyed
  here = subst (λ (j : ℕ). keyed_at j es ≡ Some l.keyed) (sym l.key) l.found

  -- where the step moves no message, the queues stay
  pub idle_queues : (queues : List (Option ℕ)) → effect s.act ≡ Idle → AreFronts es queues → AreFronts (filter (λ (e : KeyedStep). not (e.key == k)) es) queues
  idle_queues queues idle fronts =
      subst (λ (j : ℕ). AreFronts (filter (λ (e : KeyedStep). not (e.key == j)) es) queues) l.key
      (idle_goes l.keyed (ap (λ (t : Step). effect t.act) l.step ∙ idle) es queues sound here fronts)

  -- where the step binds no name, the stores stay
  pub idle_stores : (naming : Naming) (stores : List Keys) → naming s.act ≡ None → AreStores naming es stores → AreStores naming (filter (λ (e : KeyedStep). not (e.key == k)) es) stores
  idle_stores naming stores none bound =
      subst (λ (j : ℕ). AreStores naming (filter (λ (e : KeyedStep). not (e.key == j)) es) stores) l.key
      (stores_idle_without naming es l.keyed stores bound sound here (ap (λ (t : Step). naming t.act) l.step ∙ none))

  -- what the step binds
  pub bound : (naming : Naming) (name : Option (List ℕ)) → name ≡ naming s.act → option_map (λ (e : KeyedStep). naming e.step.act) (keyed_at k es) ≡ Some name
  bound naming name named = ap (option_map (λ (e : KeyedStep). naming e.step.act)) l.found ∙ ap Some (ap (λ (t : Step). naming t.act) l.step ∙ sym named)

-- an act that is no send and no receipt
pub neither : (a : Act) → ((to : ℕ) (m : Message) → a ≡ Out to m → ⊥) → ((from : ℕ) (slot : Option (List ℕ)) → a ≡ In from slot → ⊥) → effect a ≡ Idle
neither (Out to m) out got = absurd (out to m refl)
neither (In from slot) out got = absurd (got from slot refl)
neither a out got = refl
