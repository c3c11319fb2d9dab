-- The steps of a session name its roles.
use Rattle.std.proofs.Common.{arith, ◌≡◌, ℕ, zero, suc, ◌<◌, List, [], ◌∷◌, ◌++◌, length, Some, subst}
use Rattle.std.specs.List.{AllByRecursion}
use Rattle.mps_base.specs.declared.action.Act.{Act}
use Rattle.mps_base.specs.declared.action.Step.{Step}
use Rattle.mps_local.specs.Actions.{Head, Begins}
use Rattle.mps_local.specs.Local.{LocalType}
use Rattle.mps_local.specs.Shape.{AllPeers, IsOtherRole}
use Rattle.mps_arena.specs.KeyedSteps.{KeyedStep, steps}
use Rattle.mps_machine.specs.View.{View, opening, type_at}
use Rattle.mps_machine.specs.Rule.{moved, rule, replay}
use Rattle.mps_machine.proofs.Stepping.{rule_parts, replay_parts}
use Rattle.mps_machine.proofs.Peers.{Speaks, after_peers, fact_by_role}
use Rattle.mps_session.specs.Peers.{HasPeers, HavePeers, IsPeerKnown, IsKnown, IsHeadKnown}
use Rattle.mps_session.specs.SessionState.{moved_from}

speaks_known : (n p : ℕ) (act : Act) → Speaks (IsOtherRole n p) act → IsPeerKnown n act
speaks_known n p act h = grind arith

-- a type with such peers begins with one
pub head_known : (n p : ℕ) (h : Head) (t : LocalType) → Begins h t → AllPeers (IsOtherRole n p) t → IsHeadKnown n h
head_known n p h t b a = grind arith

module _ (n : ℕ) where
  -- of each role the peers that are left
  abbrev pub Peers : View → Type 0
  Peers v = (p : ℕ) → HasPeers n p (v.participant p).to_come

  -- a step that is allowed names such a peer, and leaves such peers
  pub step_peers : (v w : View) (s : Step) → Peers v → rule v s ≡ Some w → IsPeerKnown n s.act × Peers w
  step_peers v w s peers e =
      let ruled = rule_parts v w s e in
      let then = after_peers (IsOtherRole n s.role) (v.participant s.role) ruled.0 s.act (moved v s.role s.act) (peers s.role) ruled.1 in
      let later : Peers w = λ p. subst (λ (u : View). HasPeers n p (u.participant p).to_come) ruled.2 (fact_by_role (λ k part. HasPeers n k part.to_come) v s ruled.0 p then.1 (λ ne. peers p)) in
      (speaks_known n s.role s.act then.0, later)

  -- so does each of a history
  pub replay_peers : (v w : View) (h : List Step) → Peers v → replay v h ≡ Some w → Peers w
  replay_peers v w [] peers e = subst Peers (let same : v ≡ w = cc in same) peers
  replay_peers v w (s ∷ h) peers e =
      let parts = replay_parts v w s h e in
      replay_peers parts.0 w h (step_peers v parts.0 s peers parts.1).1 parts.2

  known_from : (v w : View) (h : List Step) → Peers v → AllByRecursion (λ s. s.role < n) h → replay v h ≡ Some w → AllByRecursion (IsKnown n) h
  known_from v w [] peers roles e = tt
  known_from v w (s ∷ h) peers roles e =
      let parts = replay_parts v w s h e in
      let stepped = step_peers v parts.0 s peers parts.1 in
      ((roles.0, stepped.0), known_from parts.0 w h stepped.1 roles.1 parts.2)

  roles_known : (es : List KeyedStep) → AllByRecursion (λ e. e.step.role < n) es → AllByRecursion (λ s. s.role < n) (steps es)
  roles_known [] a = tt
  roles_known (e ∷ es) a = (a.0, roles_known es a.1)

moves_known : (n : ℕ) (types : List LocalType) (done h : List Step) → AllByRecursion (IsKnown n) h → AllByRecursion (λ m. IsKnown n m.0) (moved_from types done h)
moves_known n types done [] a = tt
moves_known n types done (s ∷ h) a = (a.0, moves_known n types (done ++ s ∷ []) h a.1)

-- a role that isn't there names no peer
type_peers : (n p q : ℕ) (types : List LocalType) → (q < length types → HasPeers n p (type_at types q)) → HasPeers n p (type_at types q)
type_peers n p q [] peers = tt
type_peers n p zero (t ∷ types) peers = peers (omega arith)
type_peers n p (suc q) (t ∷ types) peers = type_peers n p q types (λ less. peers (omega (arith, less)))

-- before any step the peers are those of the types
pub opening_peers : (types : List LocalType) → HavePeers types → Peers (length types) (opening types)
opening_peers types peers p = type_peers (length types) p p types (peers p)

-- so it is with each step of a session
pub all_known : (types : List LocalType) (es : List KeyedStep) (v : View) → HavePeers types → AllByRecursion (λ e. e.step.role < length types) es → replay (opening types) (steps es) ≡ Some v → AllByRecursion (λ m. IsKnown (length types) m.0) (moved_from types [] (steps es))
all_known types es v peers roles h =
    moves_known (length types) types [] (steps es) (known_from (length types) (opening types) v (steps es) (opening_peers types peers) (roles_known (length types) es roles) h)
