-- What one role has to do with a message or a choice of a tree.
use Rattle.std.proofs.Common.{arith, ◌≡◌, ◌≢◌, ℕ, Bool, true, false, List, cond, Option, Some, None, refl, ap, ◌∙◌, subst}
use Rattle.std.specs.Prelude.{⊤, ◌==◌, if◌then◌else◌}
use Rattle.std.specs.Str.{bytes_eq}
use Rattle.std.proofs.lemmas.Bool.{eqb-true, eqb-false}
use Rattle.mps_base.specs.Sorts.{fits}
use Rattle.mps_base.specs.declared.action.Message.{Message}
use Rattle.mps_base.specs.declared.action.Message.TheVariants.{Value as Plain, Label}
use Rattle.mps_base.specs.declared.value.Sort.{Sort}
use Rattle.mps_global.specs.Global as global
use Rattle.mps_global.specs.Global.{GlobalType}
use Rattle.mps_local.specs.Actions.{branch_at, nexts}
use Rattle.mps_local.specs.Local.{LocalType, Branches, Select, Branch, NoMore, More}
use Rattle.mps_local.specs.Merged.{merged}
use Rattle.mps_local.specs.Projection.{place_of, with_choice, projection, projections}
use Rattle.mps_local.specs.Unfolding.{unfolded}
use Rattle.mps_local.specs.declared.merging.Merging.{Merging}
use Rattle.mps_local.specs.declared.merging.Merging.TheVariants as kinds
use Rattle.mps_local.proofs.Filling.{Env, filled, filled_in}
use Rattle.mps_local.proofs.Merged.{AllAre, merged_are}
use Rattle.mps_local.proofs.Silence.{more_parts}
use Rattle.mps_local.proofs.Unmerged.{map_some, and_then_some}
use Rattle.mps_fidelity.specs.Duality.{Direction, To, From, direction, after_message}

-- what follows a label
abbrev pub tree_at : List ℕ → global.Branches → Option GlobalType
tree_at label global.NoMore = None
tree_at label (global.More l next others) = if bytes_eq l label then Some next else tree_at label others

-- what follows a message in a tree
abbrev pub tree_after : GlobalType → Message → Option GlobalType
tree_after (global.Message sender receiver sort next) (Plain v) = if fits v sort then Some next else None
tree_after (global.Choice sender receiver branches) (Label l) = tree_at l branches
tree_after tree m = None

-- what may follow a message or a choice
abbrev pub IsNext : GlobalType → GlobalType → Type 0
IsNext (global.Message sender receiver sort next) other = next ≡ other
IsNext (global.Choice sender receiver branches) other = (l : List ℕ) × (tree_at l branches ≡ Some other)
IsNext tree other = ⊥

pub next_after : (tree : GlobalType) (m : Message) (next : GlobalType) → tree_after tree m ≡ Some next → IsNext tree next
next_after tree m next e = grind arith

module _ (merging : Merging) (roles : List (List ℕ)) (role : ℕ) (env : Env) where
  -- what a type goes on with is the projection of what a tree goes on with
  abbrev pub Matches : Option LocalType → Option GlobalType → Type 0
  Matches None None = ⊤
  Matches (Some x) (Some next) = (w : LocalType) × (projection merging roles role next ≡ Some w) × (x ≡ filled env w)
  Matches x next = ⊥

  pub followed : (o : Option LocalType) (g : Option GlobalType) (x : LocalType) → Matches o g → o ≡ Some x → (next : GlobalType) × (w : LocalType) × (g ≡ Some next) × (projection merging roles role next ≡ Some w) × (x ≡ filled env w)
  followed o g x h e = grind arith

  pub led : (o : Option LocalType) (g : Option GlobalType) (next : GlobalType) → Matches o g → g ≡ Some next → (x : LocalType) × (w : LocalType) × (o ≡ Some x) × (projection merging roles role next ≡ Some w) × (x ≡ filled env w)
  led o g next h e = grind arith

  -- a type begins with a message in that direction, and goes on as the tree
  pub record GoesAs (d : Direction) (tree : GlobalType) (t : LocalType) : Type 0 where
    pub way : direction t ≡ d
    pub goes : (m : Message) → Matches (after_message t m) (tree_after tree m)

  -- What a role has to do with a message or a choice between two places, where its projection is u: it is the sender or
  -- the receiver and goes on as the tree, or its projection is that of all that may follow.
  pub data Part (from to : ℕ) (tree : GlobalType) (u : LocalType) : Type 0 where
    as_sender : role ≡ from → GoesAs (To to) tree (unfolded (filled env u)) → Part from to tree u
    as_receiver : role ≡ to → GoesAs (From from) tree (unfolded (filled env u)) → Part from to tree u
    as_neither : role ≢ from → role ≢ to → ((next : GlobalType) → IsNext tree next → projection merging roles role next ≡ Some u) → Part from to tree u

  pub label_matches : (l : List ℕ) (branches : global.Branches) (ts : Branches) → projections merging roles role branches ≡ Some ts → Matches (branch_at l (filled_in env ts)) (tree_at l branches)
  label_matches l global.NoMore ts e = let k : ts ≡ NoMore = cc in rw k tt
  label_matches l (global.More label next others) ts e =
      let k = more_parts merging roles role label next others ts e in
      rw k.4 (by_test (bytes_eq label l) k.0 k.1 k.2 (label_matches l others k.1 k.3))
    where
      by_test : (b : Bool) (u : LocalType) (us : Branches) → projection merging roles role next ≡ Some u → Matches (branch_at l (filled_in env us)) (tree_at l others) → Matches (cond b (Some (filled env u)) (branch_at l (filled_in env us))) (cond b (Some next) (tree_at l others))
      by_test true u us f h = (u, f, refl)
      by_test false u us f h = h

  choice_goes : (sender receiver : List ℕ) (branches : global.Branches) (ts : Branches) → projections merging roles role branches ≡ Some ts → (m : Message) → (to : ℕ) → Matches (after_message (Select to (filled_in env ts)) m) (tree_after (global.Choice sender receiver branches) m) × Matches (after_message (Branch to (filled_in env ts)) m) (tree_after (global.Choice sender receiver branches) m)
  choice_goes sender receiver branches ts e m to = grind (arith, label_matches)

  pub message_part : (sender receiver : List ℕ) (sort : Sort) (next : GlobalType) (u : LocalType) → projection merging roles role (global.Message sender receiver sort next) ≡ Some u → Part (place_of roles sender) (place_of roles receiver) (global.Message sender receiver sort next) u
  unfolding unfolded
  message_part sender receiver sort next u e = grind (arith, map_some, eqb-true, eqb-false)

-- by plain merging
module _ (roles : List (List ℕ)) (role : ℕ) (env : Env) where
  -- where branches are merged, the projection of each is the merged type
  each_branch : (branches : global.Branches) (ts : Branches) (u : LocalType) → projections kinds.Plain roles role branches ≡ Some ts → AllAre u (nexts ts) → (l : List ℕ) (next : GlobalType) → tree_at l branches ≡ Some next → projection kinds.Plain roles role next ≡ Some u
  each_branch global.NoMore ts u e g l next h = absurd cc
  each_branch (global.More label first others) ts u e g l next h =
      let k = more_parts kinds.Plain roles role label first others ts e in
      let j : AllAre u (nexts (More label k.0 k.1)) = subst (λ (z : Branches). AllAre u (nexts z)) k.4 g in
      by_test (bytes_eq label l) (k.2 ∙ ap Some j.0) (λ f. each_branch others k.1 u k.3 j.1 l next f) h
    where
      by_test : (b : Bool) → projection kinds.Plain roles role first ≡ Some u → (tree_at l others ≡ Some next → projection kinds.Plain roles role next ≡ Some u) → cond b (Some first) (tree_at l others) ≡ Some next → projection kinds.Plain roles role next ≡ Some u
      by_test true f again i = let k : first ≡ next = cc in subst (λ (z : GlobalType). projection kinds.Plain roles role z ≡ Some u) k f
      by_test false f again i = again i

  pub choice_part : (sender receiver : List ℕ) (branches : global.Branches) (u : LocalType) → projection kinds.Plain roles role (global.Choice sender receiver branches) ≡ Some u → Part kinds.Plain roles role env (place_of roles sender) (place_of roles receiver) (global.Choice sender receiver branches) u
  unfolding unfolded
  choice_part sender receiver branches u e =
      let k = and_then_some (with_choice kinds.Plain role (place_of roles sender) (place_of roles receiver)) (projections kinds.Plain roles role branches) u e in
      by_tests (role == place_of roles sender) (role == place_of roles receiver) refl refl k.0 k.1 k.2
    where
      by_tests : (a b : Bool) → (role == place_of roles sender) ≡ a → (role == place_of roles receiver) ≡ b → (ts : Branches) → projections kinds.Plain roles role branches ≡ Some ts → cond a (Some (Select (place_of roles receiver) ts)) (cond b (Some (Branch (place_of roles sender) ts)) (merged kinds.Plain ts)) ≡ Some u → Part kinds.Plain roles role env (place_of roles sender) (place_of roles receiver) (global.Choice sender receiver branches) u
      by_tests true b f g ts h i = grind (arith, eqb-true, choice_goes kinds.Plain roles role env)
      by_tests false true f g ts h i =
          let k : Branch (place_of roles sender) ts ≡ u = cc in
          subst (Part kinds.Plain roles role env (place_of roles sender) (place_of roles receiver) (global.Choice sender receiver branches)) k
          (as_receiver (eqb-true role (place_of roles receiver) g)
          (record { way = refl; goes = λ m. (choice_goes kinds.Plain roles role env sender receiver branches ts h m (place_of roles sender)).1 }))
      by_tests false false f g ts h i =
          as_neither (eqb-false role (place_of roles sender) f) (eqb-false role (place_of roles receiver) g)
          (λ other j. each_branch branches ts u h (merged_are ts u i).1 j.0 other j.1)
