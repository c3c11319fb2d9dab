-- `first_bad_peer_of_any_size` keeps what holds in each turn of its loop, by the lemmas of FirstBadPeer and TypeAt.
use Rattle.std.proofs.Common.{◌≡◌, ℕ, ◌+◌, List, [], ◌∷◌, ◌++◌, length, length-append, append_assoc, map, sym, ap, ◌∙◌, subst, arith}
use Rattle.std.specs.Prelude.{IfSome, IfNone}
use Rattle.std.proofs.lemmas.Bool.{false≢true}
use mathlib.Core.Path.{ap₂}
use Rattle.mps_local.specs.declared.Local.{Local}
use Rattle.mps_local.specs.Local.{plain}
use Rattle.mps_session.specs.Peers.{HasPeers}
use Rattle.mps_session.proofs.FirstBadPeer.{AreFrom, IsFirstBadFrom, bad_here, fine_from, fine_all}
use Rattle.mps_session.proofs.TypeAt.{length_map}
use Rattle.mps_session.proofs.open.first_bad_peer_of_any_size.Goals as goal
use Rattle.mps_session.proofs.open.first_bad_peer_of_any_size.Goals.{After-names_others}

-- the types are those that are left, this one, and those that were looked at
split : (c : After-names_others) → c.args.types.items ≡ c.pop.new.self.items ++ c.in-Some.t ∷ c.loop-t.invariant.0.0
split c =
    c.loop-t.invariant.0.1
    ∙ ap (λ (l : List Local). l ++ c.loop-t.invariant.0.0) c.in-Some.ensures.items
    ∙ append_assoc c.pop.new.self.items (c.in-Some.t ∷ []) c.loop-t.invariant.0.0

-- what was asked of the type is whether it has the peers that it may
asked : (c : After-names_others) → HasPeers c.len-count.result c.len-role.result (plain c.in-Some.t) ≡ HasPeers (length (map plain c.args.types.items)) (length c.pop.new.self.items) (plain c.in-Some.t)
asked c =
    ap₂ (λ (n p : ℕ). HasPeers n p (plain c.in-Some.t))
    (let e : c.len-count.result ≡ length (map plain c.args.types.items) = omega (arith, c.len-count.ensures, c.args.types.ok.0, length_map plain c.args.types.items) in e)
    (let e : c.len-role.result ≡ length c.pop.new.self.items = omega (arith, c.len-role.ensures, c.pop.new.self.ok.0) in e)

-- one more than are left now were left before
left : (c : After-names_others) → length c.loop-t.types.items ≡ length c.pop.new.self.items + 1
left c = ap (λ (l : List Local). length l) c.in-Some.ensures.items ∙ length-append c.pop.new.self.items (c.in-Some.t ∷ [])

pub loop-t-preserved-then-not-names_others : goal.loop-t-preserved-then-not-names_others
loop-t-preserved-then-not-names_others c =
    let l = (goal.at.loop-t-preserved-then-not-names_others c).After-names_others in
    let bad : HasPeers (length (map plain c.args.types.items)) (length c.pop.new.self.items) (plain c.in-Some.t) → ⊥ = λ h. false≢true (sym c.if-not-names_others.true ∙ c.names_others.ensures.1 (subst (λ (T : Type 0). T) (sym (asked l)) h)) in
    let role : c.new.result ≡ length c.pop.new.self.items = omega (arith, c.new.ensures, c.len-role.ensures, c.pop.new.self.ok.0) in
    ((c.in-Some.t ∷ c.loop-t.invariant.0.0, split l), subst (IsFirstBadFrom (map plain c.args.types.items) (length c.pop.new.self.items)) (sym role) (bad_here plain c.args.types.items c.pop.new.self.items c.loop-t.invariant.0.0 c.in-Some.t (split l) bad), tt)

pub loop-t-preserved : goal.loop-t-preserved
loop-t-preserved c =
    let l = (goal.at.loop-t-preserved c).After-names_others in
    let fine = subst (λ (T : Type 0). T) (asked l) (c.names_others.ensures.0 c.if-not-names_others.false) in
    let some = subst (λ (n : ℕ). IfSome c.loop-t.found (IsFirstBadFrom (map plain c.args.types.items) n)) (left l) c.loop-t.invariant.1 in
    let none = subst (λ (n : ℕ). IfNone c.loop-t.found (AreFrom (map plain c.args.types.items) n)) (left l) c.loop-t.invariant.2 in (
      (c.in-Some.t ∷ c.loop-t.invariant.0.0, split l),
      fine_from plain c.args.types.items c.pop.new.self.items c.loop-t.invariant.0.0 c.in-Some.t (split l) fine c.loop-t.found some,
      fine_all plain c.args.types.items c.pop.new.self.items c.loop-t.invariant.0.0 c.in-Some.t (split l) fine c.loop-t.found none,
    )
