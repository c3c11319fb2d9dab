-- What a session keeps after a step was removed is what the view has then.
use Rattle.std.proofs.Common.{◌≡◌, ◌≢◌, ℕ, ◌<◌, List, [], ◌∷◌, ◌++◌, length, get_or, set, not, Option, Some, None, refl, sym, ap, ◌∙◌, subst, arith, ⊎_elim, ◌⊎◌, inl, inr, append_assoc, append-nil, ◌+◌}
use mathlib.Core.Path.{ap₂}
use Rattle.std.specs.Prelude.{◌==◌, IfSome, IsSomeAnd}
use Rattle.std.specs.List.{filter, AllByRecursion}
use Rattle.std.specs.Option.{option_map}
use Rattle.std.proofs.lemmas.Bool.{cases_eq, eqb-false}
use Rattle.std.proofs.lemmas.List.{get_or-set_same, get_or-set_other, length-set}
use Rattle.mps_base.specs.declared.action.Step.{Step}
use Rattle.mps_history.specs.Steps.{IsIn, without}
use Rattle.mps_history.proofs.Order.{AllByRecursion-filter}
use Rattle.mps_local.specs.Local.{LocalType}
use Rattle.mps_machine.specs.View.{View, opening}
use Rattle.mps_machine.specs.Rule.{moved, rule, replay}
use Rattle.mps_machine.specs.Machine.{view_of, IsSound}
use Rattle.mps_machine.proofs.Peers.{after_peers, fact_by_role}
use Rattle.mps_machine.proofs.Stepping.{rule_parts, replay_parts}
use Rattle.mps_arena.specs.KeyedSteps.{KeyedStep, steps, keyed_at, AreSound}
use Rattle.mps_arena.specs.Neighbours.{IsLastAndUnreceived, CanGo}
use Rattle.mps_arena.specs.declared.node.Before.{Before}
use Rattle.mps_arena.proofs.Chains.{keyed_key, keyed_middle}
use Rattle.mps_arena.proofs.Histories.{steps_without}
use Rattle.mps_arena.proofs.Keeping.{all_at, keyed_split, others_are}
use Rattle.mps_links.proofs.StepKeys.{in_middle}
use Rattle.mps_session.specs.Private.Configurations.{Lists, cursor_of, state_of}
use Rattle.mps_session.specs.Private.Cursors.{IsFor, nowhere, went}
use Rattle.mps_session.specs.declared.cursor.Cursor.{Cursor}
use Rattle.mps_session.specs.Private.Invariant.{AreCursors, ArePlaced, Holds}
use Rattle.mps_session.specs.Private.Leaving.{HasLeft}
use Rattle.mps_session.specs.Peers.{HasPeers}
use Rattle.mps_session.proofs.HoldsAfterAct.{same_table}
use Rattle.mps_session.proofs.ViewWithoutStep as aside
use Rattle.mps_session.proofs.ViewWithoutStep.{IsAside}

-- steps lead to no peer that the opening types don't name
peers_stay : (n : ℕ) (h : List Step) (v w : View) → replay v h ≡ Some w → ((p : ℕ) → p < n → HasPeers n p (v.participant p).to_come) → (p : ℕ) → p < n → HasPeers n p (w.participant p).to_come
peers_stay n [] v w e has p less = let same : v ≡ w = cc in subst (λ (u : View). HasPeers n p (u.participant p).to_come) same (has p less)
peers_stay n (s ∷ h) v w e has p less =
    let parts = replay_parts v w s h e in
    let ruled = rule_parts v parts.0 s parts.1 in
    peers_stay n h parts.0 w parts.2
    (grind (arith, fact_by_role, after_peers))
    p less

all_without : (P : KeyedStep → Type 0) (a b : List KeyedStep) (x : KeyedStep) → AllByRecursion P (a ++ x ∷ b) → AllByRecursion P (a ++ b)
all_without P [] b x h = h.1
all_without P (y ∷ a) b x h = (h.0, all_without P a b x h.1)

-- a keyed step that is left stood before the one that is gone, or after it
left_cases : (a b c d : List KeyedStep) (y : KeyedStep) → a ++ b ≡ c ++ y ∷ d → ((m : List KeyedStep) × (a ≡ c ++ y ∷ m)) ⊎ ((m : List KeyedStep) × ((c ≡ a ++ m) × (b ≡ m ++ y ∷ d)))
left_cases [] b c d y e = inr (c, (refl, e))
left_cases (z ∷ a) b [] d y e = let same : z ≡ y = cc in inl (a, ap (λ (w : KeyedStep). w ∷ a) same)
left_cases (z ∷ a) b (w ∷ c) d y e =
    let head : z ≡ w = cc in
    let tail : a ++ b ≡ c ++ y ∷ d = cc in
    ⊎_elim
    (λ (k : (m : List KeyedStep) × (a ≡ c ++ y ∷ m)). inl (k.0, ap₂ (λ (u : KeyedStep) (l : List KeyedStep). u ∷ l) head k.1))
    (λ (k : (m : List KeyedStep) × ((c ≡ a ++ m) × (b ≡ m ++ y ∷ d))). inr (k.0, (ap₂ (λ (u : KeyedStep) (l : List KeyedStep). u ∷ l) (sym head) k.1.0, k.1.1)))
    (left_cases a b c d y tail)

module _ (types : List LocalType) (cursors : List Cursor) (issued : ℕ) (a b : List KeyedStep) (x : KeyedStep) where
  -- with the keyed step, and without it
  abbrev old : Lists
  old = record { cursors = cursors; keyed_steps = a ++ x ∷ b; issued = issued }

  abbrev p : ℕ
  p = x.step.role

  abbrev n : ℕ
  n = length types

  abbrev again : Cursor
  again = went x.before.at (cursor_of old p)

  abbrev new : Lists
  new = record { cursors = set cursors p again; keyed_steps = a ++ b; issued = issued }

  module _ (holds : Holds types old) (free : IsLastAndUnreceived (a ++ x ∷ b) x) (sound : AreSound (a ++ b)) where
    abbrev v : View
    v = holds.sound.view

    inside : p < length cursors
    inside = grind (arith, all_at)

    -- where the keyed steps after it are d and m
    from : (d m : List KeyedStep) → b ≡ d ++ m → IsAside types a d x
    from d m e =
        let same : a ++ x ∷ b ≡ a ++ x ∷ (d ++ m) = ap (λ (l : List KeyedStep). a ++ x ∷ l) e in
        aside.aside types a d m x v (subst AreSound same holds.kept) (subst (λ (l : List KeyedStep). IsLastAndUnreceived l x) same free)
        (subst (λ (l : List KeyedStep). replay (opening types) (steps l) ≡ Some v) same holds.sound.replayed)

    pub all : IsAside types a b x
    all = from b [] (sym (append-nil b))

    -- the others stand where they stood, and the role where it stood before the step
    stands : (r : ℕ) → r < n → IsFor (get_or (set cursors p again) r nowhere) (all.left.participant r).to_come
    stands r less =
        ⊎_elim
        (grind (arith, get_or-set_same, inside))
        (λ (ne : r ≢ p).
        rw (get_or-set_other cursors p r again nowhere ne, aside.others_stay types a b x all r ne)
        (subst (λ (u : View). IsFor (get_or cursors r nowhere) (u.participant r).to_come) (aside.full_view types a b x all) (holds.cursors.each r less)))
        (cases_eq r p)

    cursors_then : AreCursors n (set cursors p again) all.left
    cursors_then = grind (arith, length-set, peers_stay, stands)

    table_then : (r : ℕ) → (cursor_of new r).table ≡ (cursor_of old r).table
    table_then r = same_table cursors p r x.before.at inside

    placed_then : ArePlaced types new
    placed_then c d y e =
        ⊎_elim
        (grind (arith, table_then, append_assoc))
        (λ (w : (m : List KeyedStep) × ((c ≡ a ++ m) × (b ≡ m ++ y ∷ d))).
        let m = w.0 in
        let k = from m (y ∷ d) w.1.1 in
        let behind : IsIn y.step (steps b) = in_middle b m d y w.1.1 in
        grind (arith, eqb-false y.step.role p (aside.others_follow a b x holds.kept free y.step behind), append_assoc a (x ∷ m) (y ∷ d), table_then y.step.role))
        (left_cases a b c d y e)

    steps_left : steps (a ++ b) ≡ without (steps (a ++ x ∷ b)) (λ i. i == x.step.id)
    steps_left =
        ap steps (sym (others_are x.key a b x holds.kept.distinct refl))
        ∙ steps_without (a ++ x ∷ b) x.key x.step holds.kept.distinct holds.kept.rising (ap (option_map (λ (e : KeyedStep). e.step)) (keyed_middle a b x holds.kept.distinct))

    sound_then : IsSound types (state_of new)
    sound_then = record {
      rising = sound.rising;
      below = subst (AllByRecursion (λ (s : Step). s.id < issued + 1)) (sym steps_left) (AllByRecursion-filter (λ s. s.id < issued + 1) (λ s. not (s.id == x.step.id)) (steps (a ++ x ∷ b)) holds.sound.below);
      view = all.left;
      replayed = all.without_it;
    }

    pub holds_then : Holds types new
    holds_then = grind (arith, sound, sound_then, all_without, all, cursors_then, placed_then)

-- what is kept after a step was removed is the view of the others
module _ (types : List LocalType) (c next : Lists) (k : ℕ) (x : KeyedStep) (holds : Holds types c) (found : keyed_at k c.keyed_steps ≡ Some x) (can : CanGo c.keyed_steps k) (left : HasLeft x c next) where
  abbrev at : (a : List KeyedStep) × (b : List KeyedStep) × (c.keyed_steps ≡ a ++ x ∷ b)
  at = keyed_split k c.keyed_steps x found

  abbrev a : List KeyedStep
  a = at.0

  abbrev b : List KeyedStep
  b = at.1

  free : IsLastAndUnreceived (a ++ x ∷ b) x
  free = subst (λ (l : List KeyedStep). IsLastAndUnreceived l x) at.2 (subst (λ (o : Option KeyedStep). IsSomeAnd o (IsLastAndUnreceived c.keyed_steps)) found can)

  was : Holds types (record c { keyed_steps = a ++ x ∷ b })
  was = subst (λ (l : List KeyedStep). Holds types (record c { keyed_steps = l })) at.2 holds

  keyed_then : next.keyed_steps ≡ a ++ b
  keyed_then = grind (arith, others_are x.key a b x (was.kept.distinct) refl)

  sound : AreSound (a ++ b)
  sound = subst AreSound keyed_then left.sound

  is_then : next ≡ new types c.cursors c.issued a b x
  is_then = grind (arith, keyed_then)

  pub returned_holds : Holds types next
  returned_holds = subst (Holds types) (sym is_then) (holds_then types c.cursors c.issued a b x was free sound)

  -- the step is allowed in the view that is left, and leads back to the view from before
  pub rule_back : rule (view_of types (steps next.keyed_steps)) x.step ≡ Some (view_of types (steps c.keyed_steps))
  rule_back =
      let w = all types c.cursors c.issued a b x was free sound in
      grind (arith, keyed_then)

  pub history_then : steps next.keyed_steps ≡ without (steps c.keyed_steps) (λ i. i == x.step.id)
  history_then =
      ap steps keyed_then ∙ steps_left types c.cursors c.issued a b x was free sound
      ∙ ap (λ (l : List KeyedStep). without (steps l) (λ i. i == x.step.id)) (sym at.2)

-- what was written and removed is what the keyed step says
pub has_left : (k : ℕ) (old next : Lists) (s : Step) (before : Before) → option_map (λ e. e.step) (keyed_at k old.keyed_steps) ≡ Some s → option_map (λ e. e.before) (keyed_at k old.keyed_steps) ≡ Some before
    → next.cursors ≡ set old.cursors s.role (went before.at (cursor_of old s.role)) → next.keyed_steps ≡ filter (λ e. not (e.key == k)) old.keyed_steps → next.issued ≡ old.issued → AreSound next.keyed_steps
    → IfSome (keyed_at k old.keyed_steps) (λ e. HasLeft e old next)
has_left k old next s before is stood moved gone same sound = by_cases (keyed_at k old.keyed_steps) refl
  where
    by_cases : (o : Option KeyedStep) → keyed_at k old.keyed_steps ≡ o → IfSome o (λ e. HasLeft e old next)
    by_cases None e = tt
    by_cases (Some x) e = grind (arith, keyed_key k old.keyed_steps x e)
