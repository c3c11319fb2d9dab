-- `Session::open` meets its clause `can` and keeps the invariant of its type, by the lemmas of HoldsAfterAct and TypeAt.
use Rattle.std.proofs.Common.{◌≡◌, List, length, map, ap, subst, arith}
use Rattle.mps_base.specs.RoleLists.{HasRoleCount}
use Rattle.mps_local.specs.declared.Local.{Local}
use Rattle.mps_local.specs.Local.{plain}
use Rattle.mps_links.specs.Marks.{marked_keys}
use Rattle.mps_session.specs.Private.Configurations.{lists_of}
use Rattle.mps_session.specs.Private.Opening.{IsOpening}
use Rattle.mps_session.specs.Peers.{HavePeers, AreFaultless}
use Rattle.mps_session.proofs.HoldsAfterAct.{opened_holds}
use Rattle.mps_session.proofs.TypeAt.{length_map}
use Rattle.mps_session.proofs.session.Session.open.Goals as goal

pub invariant_of-result : goal.invariant_of-result
invariant_of-result c =
    let items = c.args.types.items in
    let types = map plain items in
    let kept = lists_of c.in_ok-configuration.configuration in
    let n : c.len-n.result ≡ length types = omega (arith, c.len-n.ensures, c.args.types.ok.0, length_map plain items) in
    let count : HasRoleCount types = record { some = omega (arith, n, c.if-n-lt-MIN_ROLES.false); few = omega (arith, n, c.if-n-gt-MAX_ROLES.false) } in
    let peers = subst (λ (l : List Local). HavePeers (map plain l)) c.as_slice-2.ensures.value c.in_default-first_bad_peer.ensures.none in
    let opened = subst (λ (l : List Local). IsOpening (map plain l) kept) c.as_slice-3.ensures.value c.in_ok-configuration.ensures in
    record { holds = opened_holds types kept count peers opened; unmarked = ap marked_keys opened.keyed_steps }

pub returns-clause-can : goal.returns-clause-can
returns-clause-can c =
    let items = c.args.types.items in
    let types = map plain items in
    let n : c.len-n.result ≡ length types = omega (arith, c.len-n.ensures, c.args.types.ok.0, length_map plain items) in
    record {
      roles = record { some = omega (arith, n, c.if-n-lt-MIN_ROLES.false); few = omega (arith, n, c.if-n-gt-MAX_ROLES.false) };
      peers = subst (λ (l : List Local). HavePeers (map plain l)) c.as_slice-2.ensures.value c.in_default-first_bad_peer.ensures.none;
      faultless = subst (λ (l : List Local). AreFaultless (map plain l)) c.as_slice.ensures.value c.in_default.ensures.none;
    }
