-- The node of a keyed step: each link is a function of the keyed steps.
use Rattle.std.specs.Prelude.{◌≡◌, ◌==◌, ℕ, zero, suc, slice_get, List, Option, Some, None, if◌then◌else◌}
use Rattle.std.specs.Option.{option_map, option_and_then}
use Rattle.mps_base.specs.Effects.{effect}
use Rattle.mps_arena.specs.declared.node.Node.{Node}
use Rattle.mps_arena.specs.Keys.{is_at, key_after, key_before, matched_key, AreDistinct}
use Rattle.mps_arena.specs.KeyedSteps.{KeyedStep, keys_of, any_step, of_role, like_sends, like, unlike, keyed_at, IsFed}

abbrev pub node_of : List KeyedStep → KeyedStep → Node
node_of es e = record {
  step = e.step;
  at = e.before.at;
  bound = e.before.bound;
  next = key_after e.key (keys_of any_step es);
  prev = key_before None e.key (keys_of any_step es);
  next_of_role = key_after e.key (keys_of (of_role e.step.role) es);
  prev_of_role = key_before None e.key (keys_of (of_role e.step.role) es);
  next_send = key_after e.key (keys_of (like_sends e.step.role (effect e.step.act)) es);
  prev_send = key_before None e.key (keys_of (like_sends e.step.role (effect e.step.act)) es);
  matched =
      matched_key e.key (keys_of (like e.step.role (effect e.step.act)) es)
      (keys_of (unlike e.step.role (effect e.step.act)) es);
  marked = e.marked;
}

abbrev pub node_at : List KeyedStep → ℕ → Option Node
node_at es k = option_map (node_of es) (keyed_at k es)

-- the nodes are those of the keyed steps
pub record AreNodes (look : ℕ → Option Node) (es : List KeyedStep) : Type 0 where
  pub nodes : (k : ℕ) → look k ≡ node_at es k
  pub distinct : AreDistinct (keys_of any_step es)
  pub fed : IsFed es

-- the node at k, where the node m joins under this key: the last of each of its chains, and its send, lead to it
abbrev pub joined : Node → ℕ → ℕ → Node → Node
joined m key k n = record n {
  next = if is_at m.prev k then Some key else n.next;
  next_of_role = if is_at m.prev_of_role k then Some key else n.next_of_role;
  next_send = if is_at m.prev_send k then Some key else n.next_send;
  matched = if is_at m.matched k then Some key else n.matched;
}

-- the node at k, where the node m, the last of its role, goes
abbrev pub parted : Node → ℕ → Node → Node
parted m k n = record n {
  next = if is_at m.prev k then m.next else n.next;
  prev = if is_at m.next k then m.prev else n.prev;
  next_of_role = if is_at m.prev_of_role k then None else n.next_of_role;
  next_send = if is_at m.prev_send k then None else n.next_send;
  matched = if is_at m.matched k then None else n.matched;
}

-- the key of a number, if the node there has the number
abbrev pub key_at : (ℕ → Option Node) → ℕ → ℕ → Option ℕ
key_at look id k = option_and_then (λ n. if n.step.id == id then Some k else None) (look k)

abbrev pub indexed_key : (ℕ → Option Node) → List ℕ → ℕ → Option ℕ
indexed_key look index zero = None
indexed_key look index (suc n) = option_and_then (key_at look (suc n)) (slice_get index n)
