-- The invariant, where a mark changes.
use Rattle.std.proofs.Common.{◌≡◌, ℕ, Bool, List, [], ◌∷◌, ◌++◌, map, Option, Some, None, refl, sym, ap, ◌∙◌, subst, ⊎_elim, arith}
use mathlib.Core.Path.{ap₂}
use Rattle.std.specs.Prelude.{◌==◌, if◌then◌else◌}
use Rattle.std.specs.List.{AllByRecursion}
use Rattle.std.specs.Option.{option_map}
use Rattle.std.proofs.lemmas.Bool.{cases_Bool}
use Rattle.std.proofs.lemmas.List.{length-map}
use Rattle.mps_base.specs.declared.action.Step.{Step}
use Rattle.mps_history.specs.Steps.{sends, receives, IsRising}
use Rattle.mps_arena.specs.declared.node.Node.{Node}
use Rattle.mps_arena.specs.KeyedSteps.{KeyedStep, steps, keys_of, any_step, of_role, keyed_at, with_mark, IsSmall}
use Rattle.mps_arena.specs.Private.Links.{node_of, node_at}
use Rattle.mps_arena.specs.Private.Kept.{IsIndexed, IsKept}
use Rattle.mps_arena.proofs.Chains.{keyed_key}
use Rattle.mps_arena.proofs.Nodes.{same_node, cases_keyed}

module _ (j : ℕ) (m : Bool) where
  abbrev marks : List KeyedStep → List KeyedStep
  marks es = map (with_mark j m) es

  keys_marked : (p : Step → Bool) (es : List KeyedStep) → keys_of p (marks es) ≡ keys_of p es
  keys_marked p [] = refl
  keys_marked p (x ∷ es) = grind (arith, keys_marked p es, cases_Bool (p x.step))

  pub steps_marked : (es : List KeyedStep) → steps (marks es) ≡ steps es
  steps_marked [] = refl
  steps_marked (x ∷ es) = ap (λ l. x.step ∷ l) (steps_marked es)

  keyed_marked : (k : ℕ) (es : List KeyedStep) → keyed_at k (marks es) ≡ option_map (with_mark j m) (keyed_at k es)
  keyed_marked k [] = refl
  keyed_marked k (x ∷ es) = grind (arith, keyed_marked k es, cases_Bool (x.key == k))

  all_marked : (es : List KeyedStep) → AllByRecursion (λ e. IsSmall e.step) es → AllByRecursion (λ e. IsSmall e.step) (marks es)
  all_marked [] a = tt
  all_marked (x ∷ es) a = (a.0, all_marked es a.1)

  marks_split : (es c d : List KeyedStep) → marks es ≡ c ++ d → (a : List KeyedStep) × (b : List KeyedStep) × ((es ≡ a ++ b) × (c ≡ marks a))
  marks_split es [] d e = ([], es, (refl, refl))
  marks_split [] (y ∷ c) d e = absurd cc
  marks_split (x ∷ es) (y ∷ c) d e =
      let head : with_mark j m x ≡ y = cc in
      let tail : marks es ≡ c ++ d = cc in
      let w = marks_split es c d tail in
      (x ∷ w.0, w.1, (ap (λ l. x ∷ l) w.2.0, ap₂ (λ (z : KeyedStep) (l : List KeyedStep). z ∷ l) (sym head) w.2.1))

  abbrev marked_node : ℕ → Node → Node
  marked_node k n = record n { marked = if k == j then m else n.marked }

  node_marked : (es : List KeyedStep) (y : KeyedStep) → node_of (marks es) (with_mark j m y) ≡ marked_node y.key (node_of es y)
  node_marked es y = grind (arith, same_node, keys_marked)

  module _ (look after : ℕ → Option Node) (size now : ℕ) (f l : Option ℕ) (r p : List (Option ℕ)) (index : List ℕ) (es : List KeyedStep) (k : IsKept look size f l r p index es) where
    pub kept_marked : now ≡ size → ((i : ℕ) → after i ≡ option_map (marked_node i) (look i)) → IsKept after now f l r p index (marks es)
    kept_marked same is =
        record {
          linked = record {
            nodes = at;
            distinct = rw (keys_marked any_step es) k.linked.distinct;
            fed = λ c d e a b. let w = marks_split es c d e in rw (w.2.1, keys_marked (receives a b) w.0, keys_marked (sends a b) w.0) (k.linked.fed w.0 w.1 w.2.0 a b);
          };
          count = omega (arith, k.count, length-map es (with_mark j m));
          first = rw (keys_marked any_step es) k.first;
          last = rw (keys_marked any_step es) k.last;
          roles = k.roles;
          pairs = k.pairs;
          last_of = λ i h. rw (keys_marked (of_role i) es) (k.last_of i h);
          last_send = λ a b h g. rw (keys_marked (sends a b) es) (k.last_send a b h g);
          rising = subst IsRising (sym (steps_marked es)) k.rising;
          small = all_marked es k.small;
          indexed = indexed;
        }
      where
        at : (i : ℕ) → after i ≡ node_at (marks es) i
        at i = grind (arith, keyed_marked, keyed_key, node_marked, cases_keyed)

        indexed : (i : ℕ) (y : KeyedStep) → keyed_at i (marks es) ≡ Some y → IsIndexed index i y
        indexed i y found =
            ⊎_elim
            (λ (z : keyed_at i es ≡ None). let no : None ≡ Some y = sym (rw z at (keyed_marked i es)) ∙ found in absurd cc)
            (λ (w : (x : KeyedStep) × (keyed_at i es ≡ Some x)).
            let one : Some (with_mark j m w.0) ≡ Some y = sym (rw w.1 at (keyed_marked i es)) ∙ found in
            let same : with_mark j m w.0 ≡ y = cc in
            let g = k.indexed i w.0 w.1 in
            record { place = g.place; number = ap (λ (x : KeyedStep). x.step.id) (sym same) ∙ g.number; key = g.key })
            (cases_keyed (keyed_at i es))
