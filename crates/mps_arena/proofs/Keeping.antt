-- The invariant, as keyed steps come and go.
use Rattle.std.proofs.Common.{◌≡◌, ◌≢◌, not, ℕ, zero, suc, ◌+◌, ◌*◌, ◌≤◌, ◌<◌, Bool, true, false, List, [], ◌∷◌, ◌++◌, length, cond, Option, Some, None, refl, sym, ap, ◌∙◌, subst, ⊎_elim, eq-eqb, arith, length-append}
use Rattle.std.proofs.lemmas.List.{length-set, get_or-set_same, get_or-set_other}
use mathlib.Core.Path.{ap₂}
use Rattle.std.specs.Prelude.{◌==◌, slice_get, slice_index_or, slice_set, is_none, IsSomeAnd}
use Rattle.std.proofs.lemmas.Option.{slice_get_past}
use Rattle.std.specs.List.{AllByRecursion, filter}
use Rattle.std.specs.Option.{option_map, option_or}
use Rattle.std.proofs.lemmas.Bool.{cases_Bool, eqb-true, eqb-false, cond-false, and_parts, and_from, and_right, or_parts, or_left, false_from_ne_true, false≢true, both_ways}
use Rattle.mps_base.specs.Effects.{Effect, effect}
use Rattle.mps_base.specs.declared.action.Step.{Step}
use Rattle.mps_history.specs.Steps.{gives_to, takes_from, sends, receives}
use Rattle.mps_arena.specs.declared.node.Before.{Before}
use Rattle.mps_arena.specs.declared.node.Node.{Node}
use Rattle.mps_arena.specs.Keys.{has, AreDistinct, first_key, last_key, key_after, key_before}
use Rattle.mps_arena.specs.KeyedSteps.{KeyedStep, keys_of, any_step, of_role, like, unlike, keyed_at, IsSmall, AreSound}
use Rattle.mps_arena.specs.Private.Ends.{receiver, end_at, with_end}
use Rattle.mps_arena.specs.Private.Links.{node_of, AreNodes, joined, parted}
use Rattle.mps_arena.specs.Neighbours.{matched_with, IsLastAndUnreceived, IsSource, IsUnreceived, CanGo}
use Rattle.mps_arena.specs.Private.Kept.{IsIndexed, IsKept}
use Rattle.mps_arena.specs.Private.Walks.{walk}
use Rattle.mps_arena.proofs.KeyLists.{has-append_right, last-append, first_without, last_without}
use Rattle.mps_arena.proofs.Chains.{keys-append, keys_push, keys_kept, keys_around, keys_beside, distinct, keyed_key, keyed_push, keyed_without, keyed_gone}
use Rattle.mps_arena.proofs.Matched.{new_match, sends_like, sends_chain, matched_of}
use Rattle.mps_arena.proofs.Rising.{rising_push, rising_without}
use Rattle.mps_arena.proofs.Nodes.{same_node, sends_ends, cases_keyed, walk_is, newcomer, nodes_push, nodes_without}

-- the walk over the nodes gives the keyed steps
pub kept_view : (look : ℕ → Option Node) (size : ℕ) (f l : Option ℕ) (r p : List (Option ℕ)) (index : List ℕ) (es : List KeyedStep) → IsKept look size f l r p index es → walk look size f ≡ es
kept_view look size f l r p index es k = ap₂ (λ (n : ℕ) (o : Option ℕ). walk look n o) k.count k.first ∙ walk_is look es k.linked

-- what callers may know of the keyed steps
pub kept_sound : (look : ℕ → Option Node) (size : ℕ) (f l : Option ℕ) (r p : List (Option ℕ)) (index : List ℕ) (es : List KeyedStep) → IsKept look size f l r p index es → AreSound es
kept_sound look size f l r p index es k = record { distinct = k.linked.distinct; fed = k.linked.fed; rising = k.rising; small = k.small }

pub kept_whole : (look : ℕ → Option Node) (size : ℕ) (f l : Option ℕ) (r p : List (Option ℕ)) (index : List ℕ) (es : List KeyedStep) → IsKept look size f l r p index es → IsKept look size f l r p index (walk look size f)
kept_whole look size f l r p index es k = subst (λ (e : List KeyedStep). IsKept look size f l r p index e) (sym (kept_view look size f l r p index es k)) k

first_push : (c : List ℕ) (k : ℕ) → first_key (c ++ k ∷ []) ≡ option_or (first_key c) (Some k)
first_push c k = grind arith

get_front : (c d : List ℕ) (n v : ℕ) → slice_get c n ≡ Some v → slice_get (c ++ d) n ≡ Some v
get_front [] d n v e = absurd cc
get_front (j ∷ c) d zero v e = e
get_front (j ∷ c) d (suc n) v e = get_front c d n v e

get_end : (c : List ℕ) (v : ℕ) → slice_get (c ++ v ∷ []) (length c) ≡ Some v
get_end [] v = refl
get_end (j ∷ c) v = get_end c v

all_push : (P : KeyedStep → Type 0) (es : List KeyedStep) (e : KeyedStep) → AllByRecursion P es → P e → AllByRecursion P (es ++ e ∷ [])
all_push P [] e a p = (p, tt)
all_push P (x ∷ es) e a p = (a.0, all_push P es e a.1 p)

all_without : (P : KeyedStep → Type 0) (a b : List KeyedStep) (x : KeyedStep) → AllByRecursion P (a ++ x ∷ b) → AllByRecursion P (a ++ b)
all_without P [] b x h = h.1
all_without P (y ∷ a) b x h = (h.0, all_without P a b x h.1)

-- ends where those of the pairs of one step change
with_end_is : (ends : List (Option ℕ)) (s : Step) (key : Option ℕ) (before after : ℕ → ℕ → Option ℕ) → length ends ≡ 64 → IsSmall s
    → ((p q : ℕ) → p < 8 → q < 8 → slice_index_or ends (p * 8 + q) None ≡ before p q)
    → ((p q : ℕ) → sends p q s ≡ true → after p q ≡ key)
    → ((p q : ℕ) → sends p q s ≡ false → after p q ≡ before p q)
    → (p q : ℕ) → p < 8 → q < 8 → slice_index_or (with_end ends s.role (receiver (effect s.act)) key) (p * 8 + q) None ≡ after p q
with_end_is ends s key before after long small was at others p q hp hq = grind (arith, and_right, and_parts, eqb-true, get_or-set_same, both_ways, and_from, eq-eqb, get_or-set_other, cases_Bool)

with_role_is : (lasts : List (Option ℕ)) (s : Step) (key : Option ℕ) (before after : ℕ → Option ℕ) → length lasts ≡ 8 → s.role < 8
    → ((p : ℕ) → p < 8 → slice_index_or lasts p None ≡ before p)
    → ((p : ℕ) → of_role p s ≡ true → after p ≡ key)
    → ((p : ℕ) → of_role p s ≡ false → after p ≡ before p)
    → (p : ℕ) → p < 8 → slice_index_or (slice_set lasts s.role key) p None ≡ after p
with_role_is lasts s key before after long small was at others p hp = grind (arith, eqb-true, get_or-set_same, get_or-set_other, eqb-false, cases_Bool)

length_with_end : (ends : List (Option ℕ)) (p : ℕ) (q key : Option ℕ) → length (with_end ends p q key) ≡ length ends
length_with_end ends p q key = grind (arith, length-set)

module _ (look after : ℕ → Option Node) (size : ℕ) (f l : Option ℕ) (r p : List (Option ℕ)) (index : List ℕ) (es : List KeyedStep) (k : IsKept look size f l r p index es) where
  pub kept_push : (e : KeyedStep) → IsSmall e.step → e.step.id ≡ length index + 1 → keyed_at e.key es ≡ None
      → ((k : ℕ) → after k ≡ option_map (joined (newcomer es e) e.key k) (cond (e.key == k) (Some (newcomer es e)) (look k)))
      → ((p q : ℕ) → receives p q e.step ≡ true → (k : ℕ) × (new_match es e.step ≡ Some k))
      → IsKept after (size + 1) (option_or f (Some e.key)) (Some e.key) (slice_set r e.step.role (Some e.key)) (with_end p e.step.role (receiver (effect e.step.act)) (Some e.key)) (index ++ e.key ∷ []) (es ++ e ∷ [])
  kept_push e small number fresh is has_match =
      record {
        linked = nodes_push look after es e k.linked fresh is has_match;
        count = omega (arith, k.count, length-append es (e ∷ []));
        first = rw (keys_push any_step es e refl, first_push (keys_of any_step es) e.key, k.first) refl;
        last = rw (keys_push any_step es e refl, last-append None (keys_of any_step es) (e.key ∷ [])) refl;
        roles = length-set r e.step.role (Some e.key) ∙ k.roles;
        pairs = length_with_end p e.step.role (receiver (effect e.step.act)) (Some e.key) ∙ k.pairs;
        last_of = with_role_is r e.step (Some e.key) (λ i. last_key None (keys_of (of_role i) es)) (λ i. last_key None (keys_of (of_role i) (es ++ e ∷ []))) k.roles small.0 k.last_of
            (λ i t. rw (keys_push (of_role i) es e t, last-append None (keys_of (of_role i) es) (e.key ∷ [])) refl) (λ i n. rw (keys_kept (of_role i) es e n) refl);
        last_send = with_end_is p e.step (Some e.key) (λ i j. last_key None (keys_of (sends i j) es)) (λ i j. last_key None (keys_of (sends i j) (es ++ e ∷ []))) k.pairs small k.last_send
            (λ i j t. rw (keys_push (sends i j) es e t, last-append None (keys_of (sends i j) es) (e.key ∷ [])) refl) (λ i j n. rw (keys_kept (sends i j) es e n) refl);
        rising = rising_push index es e k.linked.distinct k.indexed number k.rising;
        small = all_push (λ x. IsSmall x.step) es e k.small small;
        indexed = indexed;
      }
    where
      indexed : (j : ℕ) (y : KeyedStep) → keyed_at j (es ++ e ∷ []) ≡ Some y → IsIndexed (index ++ e.key ∷ []) j y
      indexed j y found =
          ⊎_elim
          (grind (arith, keyed_push j es e, get_end index e.key, cases_Bool (e.key == j)))
          (λ (w : (z : KeyedStep) × (keyed_at j es ≡ Some z)).
          let one : Some w.0 ≡ Some y = sym (rw w.1 at (keyed_push j es e)) ∙ found in
          let same : w.0 ≡ y = cc in
          let i = k.indexed j w.0 w.1 in
          record { place = i.place; number = ap (λ (z : KeyedStep). z.step.id) (sym same) ∙ i.number; key = get_front index (e.key ∷ []) i.place j i.key })
          (cases_keyed (keyed_at j es))

-- the last of a chain whose last keyed step goes
last_goes : (q : Step → Bool) (a b : List KeyedStep) (x : KeyedStep) → AreDistinct (keys_of any_step (a ++ x ∷ b)) → q x.step ≡ true → key_after x.key (keys_of q (a ++ x ∷ b)) ≡ None → last_key None (keys_of q (a ++ b)) ≡ key_before None x.key (keys_of q (a ++ x ∷ b))
last_goes q a b x d t at_end =
    let is = keys_around q a b x t in
    let parts : AreDistinct (keys_of q a ++ x.key ∷ keys_of q b) = subst AreDistinct is (distinct q (a ++ x ∷ b) d) in
    grind (arith, keys-append, last_without)

module _ (look after : ℕ → Option Node) (size : ℕ) (f l : Option ℕ) (r p : List (Option ℕ)) (index : List ℕ) (a b : List KeyedStep) (x : KeyedStep) (k : IsKept look size f l r p index (a ++ x ∷ b)) where
  abbrev old : List KeyedStep
  old = a ++ x ∷ b

  pub kept_without : (left : ℕ) → left + 1 ≡ size → IsSmall x.step
      → key_after x.key (keys_of (of_role x.step.role) old) ≡ None
      → ((i j : ℕ) → sends i j x.step ≡ true → matched_with old x ≡ None)
      → ((i : ℕ) → after i ≡ option_map (parted (node_of old x) i) (cond (x.key == i) None (look i)))
      → IsKept after left (cond (is_none (node_of old x).prev) (node_of old x).next f) (cond (is_none (node_of old x).next) (node_of old x).prev l) (slice_set r x.step.role (node_of old x).prev_of_role) (with_end p x.step.role (receiver (effect x.step.act)) (node_of old x).prev_send) index (a ++ b)
  kept_without left fewer small at_end unreceived is =
      let d = k.linked.distinct in
      let all = keys_around any_step a b x refl in
      let parts : AreDistinct (keys_of any_step a ++ x.key ∷ keys_of any_step b) = subst AreDistinct all d in
      record {
        linked = nodes_without look after a b x k.linked at_end is unreceived;
        count = omega (arith, k.count, length-append a (x ∷ b), length-append a b);
        first = rw (keys-append any_step a b, first_without x.key (keys_of any_step a) (keys_of any_step b) parts, ← all, k.first) refl;
        last = rw (keys-append any_step a b, last_without x.key (keys_of any_step a) (keys_of any_step b) parts, ← all, k.last) refl;
        roles = length-set r x.step.role (node_of old x).prev_of_role ∙ k.roles;
        pairs = length_with_end p x.step.role (receiver (effect x.step.act)) (node_of old x).prev_send ∙ k.pairs;
        last_of = with_role_is r x.step (node_of old x).prev_of_role (λ i. last_key None (keys_of (of_role i) old)) (λ i. last_key None (keys_of (of_role i) (a ++ b))) k.roles small.0 k.last_of
            (grind (arith, eqb-true, last_goes, eq-eqb))
            (λ i n. ap (last_key None) (sym (keys_beside (of_role i) a b x n)));
        last_send = with_end_is p x.step (node_of old x).prev_send (λ i j. last_key None (keys_of (sends i j) old)) (λ i j. last_key None (keys_of (sends i j) (a ++ b))) k.pairs small k.last_send
            (λ i j t. let same = sends_chain i j x.step t in
            let self : sends_like x.step x.step ≡ true = ap (λ (g : Step → Bool). g x.step) same ∙ t in
            subst (λ (g : Step → Bool). last_key None (keys_of g (a ++ b)) ≡ (node_of old x).prev_send) same (last_goes (sends_like x.step) a b x d self (sends_ends look after a b x k.linked at_end)))
            (λ i j n. ap (last_key None) (sym (keys_beside (sends i j) a b x n)));
        rising = rising_without a b x k.rising;
        small = all_without (λ y. IsSmall y.step) a b x k.small;
        indexed = indexed;
      }
    where
      indexed : (j : ℕ) (y : KeyedStep) → keyed_at j (a ++ b) ≡ Some y → IsIndexed index j y
      indexed j y found = grind (arith, keyed_gone, keyed_without, cases_Bool)

-- a keyed step found stands somewhere
pub keyed_split : (j : ℕ) (es : List KeyedStep) (y : KeyedStep) → keyed_at j es ≡ Some y → (a : List KeyedStep) × (b : List KeyedStep) × (es ≡ a ++ y ∷ b)
keyed_split j [] y found = absurd cc
keyed_split j (x ∷ es) y found =
    ⊎_elim
    (λ (t : (x.key == j) ≡ true).
    let same : x ≡ y = cc in
    ([], es, ap (λ (z : KeyedStep). z ∷ es) same))
    (λ (n : (x.key == j) ≡ false).
    let w = keyed_split j es y (sym (cond-false (x.key == j) (Some x) (keyed_at j es) n) ∙ found) in
    (x ∷ w.0, w.1, ap (λ l. x ∷ l) w.2))
    (cases_Bool (x.key == j))

pub all_at : (P : KeyedStep → Type 0) (a b : List KeyedStep) (x : KeyedStep) → AllByRecursion P (a ++ x ∷ b) → P x
all_at P [] b x h = h.0
all_at P (y ∷ a) b x h = all_at P a b x h.1

-- the keyed steps but the one of a key
pub others_are : (j : ℕ) (a b : List KeyedStep) (x : KeyedStep) → AreDistinct (keys_of any_step (a ++ x ∷ b)) → x.key ≡ j → filter (λ e. not (e.key == j)) (a ++ x ∷ b) ≡ a ++ b
others_are j [] b x d e =
    rw (eq-eqb x.key j e) (all_others j b (subst (λ (i : ℕ). has i (keys_of any_step b) ≡ false) e d.0))
  where
    all_others : (j : ℕ) (es : List KeyedStep) → has j (keys_of any_step es) ≡ false → filter (λ e. not (e.key == j)) es ≡ es
    all_others j [] h = refl
    all_others j (y ∷ es) h =
        let w = or_parts (y.key == j) (has j (keys_of any_step es)) h in
        rw w.0 (ap (λ l. y ∷ l) (all_others j es w.1))
others_are j (y ∷ a) b x d e =
    let n : (y.key == j) ≡ false = false_from_ne_true (y.key == j) (grind (arith, both_ways, keys_around, has-append_right, or_left, eq-eqb, eqb-true)) in
    rw n (ap (λ l. y ∷ l) (others_are j a b x d.1 e))

none_at : {A B : Type 0} (g : A → B) (o : Option A) → option_map g o ≡ None → o ≡ None
none_at g o e = grind arith

no_keys : (es : List KeyedStep) → keys_of (λ s. false) es ≡ []
no_keys [] = refl
no_keys (x ∷ es) = no_keys es

module _ (es : List KeyedStep) (m : (p q : ℕ) → length (keys_of (receives p q) es) ≤ length (keys_of (sends p q) es)) where
  source_at : (p : ℕ) (a : Effect) (source : Option ℕ) → IsSource es p a source → source ≡ slice_get (keys_of (unlike p a) es) (length (keys_of (like p a) es))
  source_at p a source h = grind (arith, slice_get_past, no_keys)

  match_at : (p : ℕ) (a : Effect) (source : Option ℕ) → IsSource es p a source → (from : ℕ) → takes_from from a ≡ true → (k : ℕ) × (source ≡ Some k)
  match_at p a source h from e = grind (arith, false≢true)

module _ (look after : ℕ → Option Node) (size : ℕ) (f l : Option ℕ) (r p : List (Option ℕ)) (index : List ℕ) (es : List KeyedStep) (k : IsKept look size f l r p index es) (s : Step) (before : Before) (source : Option ℕ) (key : ℕ) where
  abbrev pub keyed : KeyedStep
  keyed = record { key = key; step = s; before = before; marked = false }

  abbrev pub behind : Node
  behind = record {
    step = s;
    at = before.at;
    bound = before.bound;
    next = None;
    prev = l;
    next_of_role = None;
    prev_of_role = slice_index_or r s.role None;
    next_send = None;
    prev_send = end_at p s.role (receiver (effect s.act));
    matched = source;
    marked = false;
  }

  behind_is : IsSmall s → IsSource es s.role (effect s.act) source → behind ≡ newcomer es keyed
  behind_is small h = grind (arith, same_node, newcomer, no_keys, slice_get_past, matched_of)

  pub kept_add : IsSmall s → s.id ≡ length index + 1 → IsSource es s.role (effect s.act) source → look key ≡ None
      → ((i : ℕ) → after i ≡ option_map (joined behind key i) (cond (key == i) (Some behind) (look i)))
      → IsKept after (size + 1) (option_or f (Some key)) (Some key) (slice_set r s.role (Some key)) (with_end p s.role (receiver (effect s.act)) (Some key)) (index ++ key ∷ []) (es ++ keyed ∷ [])
  kept_add small number h vacant is =
      let same = behind_is small h in
      let fresh : keyed_at key es ≡ None = none_at (node_of es) (keyed_at key es) (sym (k.linked.nodes key) ∙ vacant) in
      kept_push look after size f l r p index es k keyed small number fresh
      (subst (λ (n : Node). (i : ℕ) → after i ≡ option_map (joined n key i) (cond (key == i) (Some n) (look i))) same is)
      (grind (arith, match_at, matched_of, and_parts, source_at))

unreceived_at : (es : List KeyedStep) (x : KeyedStep) (a : Effect) → IsUnreceived es x a → (q : ℕ) → gives_to q a ≡ true → matched_with es x ≡ None
unreceived_at es x a h q e = grind (arith, false≢true)

-- the keyed step of a node
pub record Stands (es : List KeyedStep) (j : ℕ) (node : Node) : Type 0 where
  pub keyed : KeyedStep
  pub found : keyed_at j es ≡ Some keyed
  pub node_is : node ≡ node_of es keyed
  pub before : List KeyedStep
  pub behind : List KeyedStep
  pub parts : es ≡ before ++ keyed ∷ behind

pub stands : (look : ℕ → Option Node) (es : List KeyedStep) (j : ℕ) (node : Node) → AreNodes look es → look j ≡ Some node → Stands es j node
stands look es j node n e = grind (arith, keyed_split, cases_keyed)

pub small_of : (look : ℕ → Option Node) (size : ℕ) (f l : Option ℕ) (r p : List (Option ℕ)) (index : List ℕ) (es : List KeyedStep) → IsKept look size f l r p index es → (j : ℕ) (node : Node) → look j ≡ Some node → IsSmall node.step
small_of look size f l r p index es k j node e =
    let s = stands look es j node k.linked e in
    subst (λ (n : Node). IsSmall n.step) (sym s.node_is) (all_at (λ x. IsSmall x.step) s.before s.behind s.keyed (subst (λ (l : List KeyedStep). AllByRecursion (λ x. IsSmall x.step) l) s.parts k.small))

-- what is left where a node goes
abbrev pub Left : (ℕ → Option Node) → ℕ → Option ℕ → Option ℕ → List (Option ℕ) → List (Option ℕ) → List ℕ → Node → List KeyedStep → Type 0
Left after left f l r p index node es = IsKept after left (cond (is_none node.prev) node.next f) (cond (is_none node.next) node.prev l) (slice_set r node.step.role node.prev_of_role) (with_end p node.step.role (receiver (effect node.step.act)) node.prev_send) index es

pub kept_remove : (look after : ℕ → Option Node) (size : ℕ) (f l : Option ℕ) (r p : List (Option ℕ)) (index : List ℕ) (es : List KeyedStep) → IsKept look size f l r p index es
    → (left : ℕ) → left + 1 ≡ size → (j : ℕ) (node : Node) → look j ≡ Some node → CanGo es j
    → ((i : ℕ) → after i ≡ option_map (parted node i) (cond (j == i) None (look i)))
    → Left after left f l r p index node (filter (λ e. not (e.key == j)) es)
kept_remove look after size f l r p index es k left fewer j node e can is =
    let s = stands look es j node k.linked e in
    let x = s.keyed in
    let key = keyed_key j es x s.found in
    let free : IsLastAndUnreceived es x = subst (λ (o : Option KeyedStep). IsSomeAnd o (IsLastAndUnreceived es)) s.found can in
    let whole = s.before ++ x ∷ s.behind in
    let kw : IsKept look size f l r p index whole = subst (λ (l' : List KeyedStep). IsKept look size f l r p index l') s.parts k in
    let fw : IsLastAndUnreceived whole x = subst (λ (l' : List KeyedStep). IsLastAndUnreceived l' x) s.parts free in
    let nw : node ≡ node_of whole x = s.node_is ∙ ap (λ (l' : List KeyedStep). node_of l' x) s.parts in
    let small = all_at (λ y. IsSmall y.step) s.before s.behind x kw.small in
    let now : (i : ℕ) → after i ≡ option_map (parted (node_of whole x) i) (cond (x.key == i) None (look i)) =
    subst (λ (n : Node). (i : ℕ) → after i ≡ option_map (parted n i) (cond (x.key == i) None (look i))) nw
    (subst (λ (m : ℕ). (i : ℕ) → after i ≡ option_map (parted node i) (cond (m == i) None (look i))) (sym key) is) in
    let result : Left after left f l r p index (node_of whole x) (s.before ++ s.behind) =
    kept_without look after size f l r p index s.before s.behind x kw left fewer small fw.last
    (λ i q t. unreceived_at whole x (effect x.step.act) fw.unreceived q (and_parts (x.step.role == i) (gives_to q (effect x.step.act)) t).1) now in
    grind (arith, others_are)
