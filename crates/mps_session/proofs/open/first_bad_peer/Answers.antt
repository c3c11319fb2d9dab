-- `first_bad_peer` meets its clause `bad` and keeps what holds in each turn of its loop, by the lemmas of TypeAt.
use Rattle.std.proofs.Common.{ℕ, ◌<◌, length, map, sym, ap, ◌∙◌, subst, below_more}
use Rattle.std.proofs.lemmas.Bool.{false≢true}
use Rattle.mps_local.specs.Local.{LocalType, plain}
use Rattle.mps_machine.specs.View.{type_at}
use Rattle.mps_session.specs.Peers.{HasPeers, IsFirstBad}
use Rattle.mps_session.proofs.TypeAt.{type_at-map, length_map}
use Rattle.mps_session.proofs.open.first_bad_peer.Goals as goal

pub returns-then-not-has_peers-clause-bad : goal.returns-then-not-has_peers-clause-bad
returns-then-not-has_peers-clause-bad c =
    let types = c.args.types.now in
    let n = length types in
    let i = c.loop-i.i in
    let d = c.index-types-i.result in
    let is = type_at-map plain types i d c.loop-i-test.true ∙ ap plain (sym c.index-types-i.is) in
    let long = length_map plain types in
    subst (λ (p : ℕ). IsFirstBad (map plain types) p) (sym c.new.ensures)
    (record {
      within = subst (λ (m : ℕ). i < m) (sym long) c.loop-i-test.true;
      bad = λ peers. false≢true (sym c.if-not-has_peers.true ∙ c.has_peers.ensures.1 (subst (λ (t : LocalType). HasPeers n i t) is (subst (λ (m : ℕ). HasPeers m i (type_at (map plain types) i)) long peers)));
      others = λ q less. subst (λ (m : ℕ). HasPeers m q (type_at (map plain types) q)) (sym long) (c.loop-i.invariant q less);
    })

pub loop-i-preserved : goal.loop-i-preserved
loop-i-preserved c =
    let types = c.args.types.now in
    let n = length types in
    let i = c.loop-i.i in
    let d = c.index-types-i.result in
    let is = type_at-map plain types i d c.loop-i-test.true ∙ ap plain (sym c.index-types-i.is) in
    below_more (λ p. HasPeers n p (type_at (map plain types) p)) i c.loop-i.invariant
    (subst (λ (t : LocalType). HasPeers n i t) (sym is) (c.has_peers.ensures.0 c.if-not-has_peers.false))
