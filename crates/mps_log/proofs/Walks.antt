-- A walk over the keyed steps, from a key on.
use Rattle.std.proofs.Common.{arith, ◌≡◌, ℕ, false, List, [], ◌∷◌, ◌++◌, Option, Some, None, refl, sym, ap, ◌∙◌, subst, eq-eqb, append_assoc}
use mathlib.Core.Path.{ap₂}
use Rattle.std.specs.Prelude.{◌==◌, IsSome}
use Rattle.std.specs.Option.{option_and_then, option_map, option_or}
use Rattle.std.proofs.lemmas.Bool.{cond-true, cond-false, eqb-true, or_left, false_from_ne_true, both_ways}
use Rattle.mps_base.specs.Effects.{Idle, effect}
use Rattle.mps_base.specs.declared.action.Step.{Step}
use Rattle.mps_arena.specs.Keys.{AreDistinct, first_key}
use Rattle.mps_arena.specs.KeyedSteps.{KeyedStep, keys_of, any_step, keyed_at}
use Rattle.mps_arena.specs.Neighbours.{next_in, source_in}
use Rattle.mps_arena.proofs.KeyLists.{once, after_absent, has-append_right}
use Rattle.mps_arena.proofs.Chains.{keys_around, keyed_middle, keyed_key}
use Rattle.mps_log.specs.Shown.{moved_of, shown}
use Rattle.mps_log.specs.Private.Shown.{from_key, left_of, IsWalk}
use Rattle.mps_log.specs.Values.{given_by, message_of}
use Rattle.mps_log.specs.declared.moves.Moves.TheInside.{Inside}

from_middle : (a b : List KeyedStep) (y : KeyedStep) → AreDistinct (keys_of any_step (a ++ y ∷ b)) → from_key (Some y.key) (a ++ y ∷ b) ≡ y ∷ b
from_middle [] b y d = cond-true (y.key == y.key) (y ∷ b) (from_key (Some y.key) b) (eq-eqb y.key y.key refl)
from_middle (x ∷ a) b y d =
    let n : (x.key == y.key) ≡ false = false_from_ne_true (x.key == y.key) (grind (arith, both_ways, keys_around, has-append_right, or_left, eq-eqb, eqb-true)) in
    cond-false (x.key == y.key) (x ∷ (a ++ y ∷ b)) (from_key (Some y.key) (a ++ y ∷ b)) n ∙ from_middle a b y d.1

-- the keyed steps from the first key of a part on are that part
pub from_part : (a b : List KeyedStep) → AreDistinct (keys_of any_step (a ++ b)) → from_key (first_key (keys_of any_step b)) (a ++ b) ≡ b
from_part a [] d = refl
from_part a (y ∷ b) d = from_middle a b y d

-- a part that has a first key has a first keyed step
pub split_first : (part : List KeyedStep) (k : ℕ) → first_key (keys_of any_step part) ≡ Some k → (y : KeyedStep) × (b : List KeyedStep) × (part ≡ y ∷ b) × (y.key ≡ k)
split_first [] k e = absurd cc
split_first (y ∷ b) k e = let same : y.key ≡ k = cc in (y, b, refl, same)

module _ (m : Inside) (walk : IsWalk m) where
  abbrev pub es : List KeyedStep
  es = m.arena.now.keyed_steps

  -- what is left is that part
  pub left_is : left_of m ≡ shown es walk.left
  left_is = grind (arith, from_part)

  module _ (k : ℕ) (here : m.at ≡ Some k) where
    pub first : (y : KeyedStep) × (b : List KeyedStep) × (walk.left ≡ y ∷ b) × (y.key ≡ k)
    first = split_first walk.left k (sym walk.at ∙ here)

    abbrev pub y : KeyedStep
    y = first.0

    abbrev pub b : List KeyedStep
    b = first.1

    whole : es ≡ walk.before ++ y ∷ b
    whole = walk.parts ∙ ap (λ l. walk.before ++ l) first.2

    parts_distinct : AreDistinct (keys_of any_step (walk.before ++ y ∷ b))
    parts_distinct = subst (λ (l : List KeyedStep). AreDistinct (keys_of any_step l)) whole walk.sound.distinct

    pub found : keyed_at k es ≡ Some y
    found = ap₂ keyed_at (sym first.3) whole ∙ keyed_middle walk.before b y parts_distinct

    pub there : IsSome (keyed_at k es)
    there = rw found refl

    next_is : next_in es k ≡ first_key (keys_of any_step b)
    next_is = grind (arith, once, keys_around, parts_distinct, found, whole, after_absent, cond-true, eq-eqb)

    -- one further
    pub goes_on : (next : Option ℕ) → next ≡ next_in es k → IsWalk (record { arena = m.arena; at = next })
    goes_on next e = record {
      sound = walk.sound;
      before = walk.before ++ y ∷ [];
      left = b;
      parts = whole ∙ sym (append_assoc walk.before (y ∷ []) b);
      at = e ∙ next_is;
    }

    -- what is left then
    pub shows_then : (next : Option ℕ) → next ≡ next_in es k → left_of (record { arena = m.arena; at = next }) ≡ shown es b
    shows_then next e =
        let parts : es ≡ (walk.before ++ y ∷ []) ++ b = whole ∙ sym (append_assoc walk.before (y ∷ []) b) in
        ap (shown es) (ap₂ from_key (e ∙ next_is) parts ∙ from_part (walk.before ++ y ∷ []) b (subst (λ (l : List KeyedStep). AreDistinct (keys_of any_step l)) parts walk.sound.distinct))

    -- what was left began with that step
    pub shows : left_of m ≡ (y.step, moved_of es y) ∷ shown es b
    shows = left_is ∙ ap (shown es) first.2

-- what a step moved, by its act
pub moved_by_act : (es : List KeyedStep) (k : ℕ) (s : Step) → option_map (λ e. e.step) (keyed_at k es) ≡ Some s → option_and_then (moved_of es) (keyed_at k es) ≡ option_or (given_by s.act) (option_and_then (message_of es) (source_in es k))
moved_by_act es k s e = grind (arith, keyed_key)

-- what takes nothing has no match
pub idle_has_none : (es : List KeyedStep) (k : ℕ) (s : Step) → option_map (λ e. e.step) (keyed_at k es) ≡ Some s → effect s.act ≡ Idle → source_in es k ≡ None
idle_has_none es k s e idle = grind arith
