-- `first_faulty` meets its clause `faulty` and keeps what holds in each turn of its loop, by the lemmas of TypeAt.
use Rattle.std.proofs.Common.{◌≡◌, ℕ, ◌<◌, map, None, sym, ap, ◌∙◌, subst, below_more}
use Rattle.mps_local.specs.Local.{plain}
use Rattle.mps_local.specs.LocalFaults.{local_fault_of}
use Rattle.mps_machine.specs.View.{type_at}
use Rattle.mps_session.specs.Peers.{IsLeastFaulty}
use Rattle.mps_session.proofs.TypeAt.{type_at-map, length_map}
use Rattle.mps_session.proofs.open.first_faulty.Goals as goal

pub returns-in-Some-clause-faulty : goal.returns-in-Some-clause-faulty
returns-in-Some-clause-faulty c =
    let types = c.args.types.now in
    let i = c.loop-i.i in
    let d = c.index-types-i.result in
    let is = type_at-map plain types i d c.loop-i-test.true ∙ ap plain (sym c.index-types-i.is) in
    subst (λ (p : ℕ). IsLeastFaulty (map plain types) p c.in-Some.fault) (sym c.new.ensures)
    (record {
      within = subst (λ (m : ℕ). i < m) (sym (length_map plain types)) c.loop-i-test.true;
      faulty = ap local_fault_of is ∙ sym c.first_fault.ensures ∙ c.in-Some.is;
      others = c.loop-i.invariant;
    })

pub loop-i-preserved : goal.loop-i-preserved
loop-i-preserved c =
    let types = c.args.types.now in
    let i = c.loop-i.i in
    let d = c.index-types-i.result in
    let is = type_at-map plain types i d c.loop-i-test.true ∙ ap plain (sym c.index-types-i.is) in
    below_more (λ p. local_fault_of (type_at (map plain types) p) ≡ None) i c.loop-i.invariant
    (ap local_fault_of is ∙ sym c.first_fault.ensures ∙ c.in_default.is)
