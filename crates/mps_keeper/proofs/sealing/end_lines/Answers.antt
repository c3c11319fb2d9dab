-- `end_lines` keeps what holds in each turn of its loop, and meets its clauses, by the lemmas of Sealed.
use Rattle.std.proofs.Common.{List, ℕ, ◌++◌, take, refl, sym, ap, ◌∙◌}
use Rattle.mps_keeper.proofs.Sealed.{none_after, none_left, rest_after, rest_sealed}
use Rattle.mps_keeper.proofs.sealing.end_lines.Goals as goal

pub loop-k-preserved : goal.loop-k-preserved
loop-k-preserved c =
    let within = c.in-Some.ensures.within in
    let line_is = c.in_ok-extend_from_slice.ensures.items ∙ ap (λ (l : List ℕ). l ++ take c.in-Some.k c.loop-k.rest.now) c.clear.ensures.items in
    let more = c.in_ok-extend_from_slice-2.ensures.items ∙ ap (λ (l : List ℕ). c.loop-k.out.items ++ l) (c.as_slice.ensures.value ∙ c.in_ok-seal.ensures.ok) in
    record {
      text = rest_sealed c.loop-k.rest.now c.in-Some.k within c.in-Some.ensures.end c.in-Some.ensures.before c.loop-k.seal c.in_ok-seal.seal _ _ refl line_is c.in_ok-seal.ensures.next c.loop-k.out.items _ more ∙ c.loop-k.invariant.text;
      last = rest_after c.loop-k.rest.now c.in-Some.k within c.in-Some.ensures.end c.in-Some.ensures.before c.loop-k.seal c.in_ok-seal.seal _ _ refl line_is c.in_ok-seal.ensures.next ∙ c.loop-k.invariant.last;
    }

pub returns-clause-text : goal.returns-clause-text
returns-clause-text c = sym (none_left c.loop-k.rest.now c.loop-k.seal c.loop-k.out.items c.in_default.ensures.none) ∙ c.loop-k.invariant.text

pub returns-clause-last : goal.returns-clause-last
returns-clause-last c = sym (none_after c.loop-k.rest.now c.loop-k.seal c.in_default.ensures.none) ∙ c.loop-k.invariant.last
