-- The nodes, as keyed steps come and go.
use Rattle.std.proofs.Common.{arith, ◌≡◌, ℕ, Bool, true, false, List, [], ◌∷◌, ◌++◌, length, cond, Option, Some, None, refl, sym, ap, ◌∙◌, subst, ⊎_elim, eq-eqb, append_assoc, ◌⊎◌, inl, inr}
use Rattle.std.specs.Prelude.{◌==◌}
use Rattle.std.specs.Option.{option_map}
use Rattle.std.proofs.lemmas.Bool.{cases_Bool, eqb-true, false_from_ne_true, both_ways}
use Rattle.mps_base.specs.Effects.{effect}
use Rattle.mps_base.specs.declared.action.Step.{Step}
use Rattle.mps_history.specs.Steps.{sends, receives}
use Rattle.mps_arena.specs.declared.node.Node.{Node}
use Rattle.mps_arena.specs.Keys.{is_at, has, AreDistinct, first_key, last_key, key_after}
use Rattle.mps_arena.specs.KeyedSteps.{KeyedStep, keys_of, any_step, of_role, keyed_at}
use Rattle.mps_arena.specs.Private.Links.{node_of, node_at, AreNodes, joined, parted}
use Rattle.mps_arena.specs.Neighbours.{matched_with}
use Rattle.mps_arena.specs.Private.Walks.{walk}
use Rattle.mps_arena.proofs.KeyLists.{not_at, last_in, last-append, get_in, once, after_absent, AreDistinct-push, AreDistinct-without}
use Rattle.mps_arena.proofs.Chains.{keys-append, keys_without, distinct, chain_empty, keys_push, keys_around, absent, after_push, before_push, after_new, before_new, after_removal, before_removal, keyed_key, keyed_push, keyed_middle, keyed_without, keyed_gone}
use Rattle.mps_arena.proofs.Matched.{sends_like, own_role, sends_role, own, other, new_match, matched_with_push, matched_with_new, matched_with_removal, fed_push, fed_removal, role_alike, role_back, sends_alike, sends_back}

-- a walk from the first key gives the keyed steps
walk_from : (look : ℕ → Option Node) (a b : List KeyedStep) → AreNodes look (a ++ b) → walk look (length b) (first_key (keys_of any_step b)) ≡ b
walk_from look a [] n = refl
walk_from look a (x ∷ b) n =
    let es = a ++ x ∷ b in
    let here : look x.key ≡ Some (node_of es x) = n.nodes x.key ∙ ap (option_map (node_of es)) (keyed_middle a b x n.distinct) in
    let whole = keys_around any_step a b x refl in
    let o = once x.key (keys_of any_step a) (keys_of any_step b) (subst AreDistinct whole n.distinct) in
    grind (arith, after_absent x.key (keys_of any_step a) (x.key ∷ keys_of any_step b) o.0, eq-eqb x.key x.key refl, walk_from look (a ++ x ∷ []) b (subst (AreNodes look) (sym (append_assoc a (x ∷ []) b)) n))

pub walk_is : (look : ℕ → Option Node) (es : List KeyedStep) → AreNodes look es → walk look (length es) (first_key (keys_of any_step es)) ≡ es
walk_is look es n = walk_from look [] es n

pub same_node : (n m : Node) → n.step ≡ m.step → n.at ≡ m.at → n.bound ≡ m.bound → n.next ≡ m.next → n.prev ≡ m.prev → n.next_of_role ≡ m.next_of_role → n.prev_of_role ≡ m.prev_of_role → n.next_send ≡ m.next_send → n.prev_send ≡ m.prev_send → n.matched ≡ m.matched → n.marked ≡ m.marked → n ≡ m
same_node n m a j k b c d e f g h i = grind arith

pub cases_keyed : (o : Option KeyedStep) → (o ≡ None) ⊎ ((y : KeyedStep) × (o ≡ Some y))
cases_keyed None = inl refl
cases_keyed (Some y) = inr (y, refl)

-- the node of a new last keyed step
abbrev pub newcomer : List KeyedStep → KeyedStep → Node
newcomer es e = record {
  step = e.step;
  at = e.before.at;
  bound = e.before.bound;
  next = None;
  prev = last_key None (keys_of any_step es);
  next_of_role = None;
  prev_of_role = last_key None (keys_of (of_role e.step.role) es);
  next_send = None;
  prev_send = last_key None (keys_of (sends_like e.step) es);
  matched = new_match es e.step;
  marked = e.marked;
}

module _ (look after : ℕ → Option Node) (es : List KeyedStep) (e : KeyedStep) (n : AreNodes look es) (fresh : keyed_at e.key es ≡ None) where
  not_last : (p : Step → Bool) → is_at (last_key None (keys_of p es)) e.key ≡ false
  not_last p = not_at (last_key None (keys_of p es)) e.key (λ t. both_ways (has e.key (keys_of p es)) (absent p e.key es fresh) (last_in (keys_of p es) e.key t))

  new_node : joined (newcomer es e) e.key e.key (newcomer es e) ≡ node_of (es ++ e ∷ []) e
  new_node =
      let away : is_at (new_match es e.step) e.key ≡ false = not_at (new_match es e.step) e.key (grind (arith, both_ways, other, absent, get_in, own)) in
      same_node (joined (newcomer es e) e.key e.key (newcomer es e)) (node_of (es ++ e ∷ []) e)
      refl
      refl
      refl
      (rw (not_last any_step) (sym (after_new (λ s. any_step) (λ s t e. refl) (λ s t e. refl) es e n.distinct fresh)))
      (sym (before_new (λ s. any_step) (λ s t e. refl) (λ s t e. refl) es e n.distinct fresh))
      (rw (not_last (of_role e.step.role)) (sym (after_new (λ s. of_role s.role) role_alike role_back es e n.distinct fresh)))
      (sym (before_new (λ s. of_role s.role) role_alike role_back es e n.distinct fresh))
      (rw (not_last (sends_like e.step)) (sym (after_new sends_like sends_alike sends_back es e n.distinct fresh)))
      (sym (before_new sends_like sends_alike sends_back es e n.distinct fresh))
      (rw away (sym (matched_with_new es e n.distinct fresh)))
      refl

  old_node : (y : KeyedStep) → keyed_at y.key es ≡ Some y → joined (newcomer es e) e.key y.key (node_of es y) ≡ node_of (es ++ e ∷ []) y
  old_node y found =
      same_node (joined (newcomer es e) e.key y.key (node_of es y)) (node_of (es ++ e ∷ []) y)
      refl
      refl
      refl
      (sym (after_push (λ s. any_step) (λ s t e. refl) (λ s t e. refl) es e n.distinct fresh y.key y found))
      (sym (before_push (λ s. any_step) (λ s t e. refl) (λ s t e. refl) es e n.distinct fresh y.key y found))
      (sym (after_push (λ s. of_role s.role) role_alike role_back es e n.distinct fresh y.key y found))
      (sym (before_push (λ s. of_role s.role) role_alike role_back es e n.distinct fresh y.key y found))
      (sym (after_push sends_like sends_alike sends_back es e n.distinct fresh y.key y found))
      (sym (before_push sends_like sends_alike sends_back es e n.distinct fresh y.key y found))
      (sym (matched_with_push es e n.distinct fresh y.key y found))
      refl

  pub nodes_push : ((k : ℕ) → after k ≡ option_map (joined (newcomer es e) e.key k) (cond (e.key == k) (Some (newcomer es e)) (look k))) → ((p q : ℕ) → receives p q e.step ≡ true → (k : ℕ) × (new_match es e.step ≡ Some k)) → AreNodes after (es ++ e ∷ [])
  nodes_push is has_match =
      record {
        nodes = at;
        distinct = rw (keys_push any_step es e refl) (AreDistinct-push (keys_of any_step es) e.key n.distinct (absent any_step e.key es fresh));
        fed = fed_push es e n.fed has_match;
      }
    where
      at : (k : ℕ) → after k ≡ node_at (es ++ e ∷ []) k
      at k =
          ⊎_elim
          (grind (arith, eqb-true, eq-eqb, keyed_push, new_node))
          (grind (arith, keyed_push, keyed_key, old_node, cases_keyed))
          (cases_Bool (e.key == k))

-- where no later step of a chain comes, none of a part of the chain does
none_of : (p q : Step → Bool) (es : List KeyedStep) → ((s : Step) → q s ≡ true → p s ≡ true) → keys_of p es ≡ [] → keys_of q es ≡ []
none_of p q [] sub e = refl
none_of p q (x ∷ es) sub e =
    ⊎_elim
    (λ (t : p x.step ≡ true). absurd cc)
    (λ (f : p x.step ≡ false).
    let g : q x.step ≡ false = false_from_ne_true (q x.step) (λ t. both_ways (p x.step) f (sub x.step t)) in
    keys_without q x es g ∙ none_of p q es sub (sym (keys_without p x es f) ∙ e))
    (cases_Bool (p x.step))

-- after the last step of a role there is none of the role
pub role_ends : (a b : List KeyedStep) (x : KeyedStep) → AreDistinct (keys_of any_step (a ++ x ∷ b)) → key_after x.key (keys_of (of_role x.step.role) (a ++ x ∷ b)) ≡ None → keys_of (of_role x.step.role) b ≡ []
role_ends a b x d at_end = grind (arith, keys_around, eq-eqb, once, distinct, after_absent)

-- so it is the last of each chain of its role that it stands in
pub last_of_chain : (f : Step → Bool) (a b : List KeyedStep) (x : KeyedStep) → AreDistinct (keys_of any_step (a ++ x ∷ b)) → key_after x.key (keys_of (of_role x.step.role) (a ++ x ∷ b)) ≡ None → ((s : Step) → f s ≡ true → of_role x.step.role s ≡ true) → f x.step ≡ true → last_key None (keys_of f (a ++ x ∷ b)) ≡ Some x.key
last_of_chain f a b x d at_end sub t = grind (arith, keys_around, none_of, role_ends, last-append)

module _ (look after : ℕ → Option Node) (a b : List KeyedStep) (x : KeyedStep) (n : AreNodes look (a ++ x ∷ b)) (at_end : key_after x.key (keys_of (of_role x.step.role) (a ++ x ∷ b)) ≡ None) where
  abbrev whole : List KeyedStep
  whole = a ++ x ∷ b

  -- no later step of the role
  none_later : keys_of (of_role x.step.role) b ≡ []
  none_later = role_ends a b x n.distinct at_end

  own_ends : keys_of (own x.step) b ≡ []
  own_ends = grind (arith, none_of, own, own_role, role_ends)

  pub sends_ends : key_after x.key (keys_of (sends_like x.step) whole) ≡ None
  sends_ends =
      let p = sends_like x.step in
      let last : keys_of p b ≡ [] = none_of (of_role x.step.role) p b (sends_role x.step.role (effect x.step.act)) none_later in
      ⊎_elim
      (grind (arith, keys_around, once, distinct, after_absent, eq-eqb))
      (λ (f : p x.step ≡ false). ap (key_after x.key) (chain_empty sends_like sends_alike sends_back x.step whole f))
      (cases_Bool (p x.step))

  kept_node : (y : KeyedStep) → keyed_at y.key whole ≡ Some y → (x.key == y.key) ≡ false → parted (node_of whole x) y.key (node_of whole y) ≡ node_of (a ++ b) y
  kept_node y found apart =
      same_node (parted (node_of whole x) y.key (node_of whole y)) (node_of (a ++ b) y)
      refl
      refl
      refl
      (sym (after_removal (λ s. any_step) (λ s t e. refl) (λ s t e. refl) a b x n.distinct y.key y found apart))
      (sym (before_removal (λ s. any_step) (λ s t e. refl) (λ s t e. refl) a b x n.distinct y.key y found apart))
      (sym (rw at_end at (after_removal (λ s. of_role s.role) role_alike role_back a b x n.distinct y.key y found apart)))
      (sym (rw at_end at (before_removal (λ s. of_role s.role) role_alike role_back a b x n.distinct y.key y found apart)))
      (sym (rw sends_ends at (after_removal sends_like sends_alike sends_back a b x n.distinct y.key y found apart)))
      (sym (rw sends_ends at (before_removal sends_like sends_alike sends_back a b x n.distinct y.key y found apart)))
      (sym (matched_with_removal a b x n.distinct own_ends y.key y found apart))
      refl

  pub nodes_without : ((k : ℕ) → after k ≡ option_map (parted (node_of whole x) k) (cond (x.key == k) None (look k))) → ((p q : ℕ) → sends p q x.step ≡ true → matched_with whole x ≡ None) → AreNodes after (a ++ b)
  nodes_without is unreceived =
      record {
        nodes = at;
        distinct = rw (keys-append any_step a b) (AreDistinct-without x.key (keys_of any_step a) (keys_of any_step b) (subst AreDistinct (keys_around any_step a b x refl) n.distinct));
        fed = fed_removal a b x n.distinct own_ends n.fed unreceived;
      }
    where
      at : (k : ℕ) → after k ≡ node_at (a ++ b) k
      at k = grind (arith, keyed_gone, keyed_without, keyed_key, kept_node, cases_keyed, cases_Bool)
