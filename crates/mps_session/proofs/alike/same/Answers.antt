-- `same` meets its clauses `views` and `swaps` and keeps what holds in each turn of its loop, by the lemmas of Pasts.
use Rattle.std.proofs.Common.{◌≡◌, ℕ, map, refl, subst, arith, below_more}
use Rattle.std.proofs.lemmas.Bool.{iff_false}
use Rattle.mps_local.specs.Local.{plain}
use Rattle.mps_session.specs.Private.Configurations.{lists_of}
use Rattle.mps_session.specs.Private.Pasts.{past_in}
use Rattle.mps_session.proofs.Pasts.{AreTold, told}
use Rattle.mps_session.proofs.alike.same.Goals as goal
use Rattle.mps_session.proofs.alike.same.Goals.{After-loop-role}

-- what the pasts of both tell
both : (c : After-loop-role) → AreTold c.a.inside.configuration.log.keyed_steps c.b.inside.configuration.log.keyed_steps c.args.a.now c.args.b.now
both c =
    let a = c.a.inside in
    let b = c.b.inside in
    told (map plain a.types.items) (map plain b.types.items) (lists_of a.configuration) (lists_of b.configuration) c.args.a.now c.args.b.now c.a.invariant.holds c.b.invariant.holds c.a.view_is c.b.view_is c.requires.types

pub loop-role-preserved : goal.loop-role-preserved
loop-role-preserved c =
    let here = c.same_past.ensures.0 c.if-not-same_past.false in
    below_more _ _ c.loop-role.invariant (subst (λ (p : ℕ). past_in p c.a.inside.configuration.log.keyed_steps ≡ past_in p c.b.inside.configuration.log.keyed_steps) c.new.ensures here)

pub returns-then-not-same_past-clause-views : goal.returns-then-not-same_past-clause-views
returns-then-not-same_past-clause-views c =
    let facts = told (map plain c.a.inside.types.items) (map plain c.b.inside.types.items) (lists_of c.a.inside.configuration) (lists_of c.b.inside.configuration) c.args.a.now c.args.b.now c.a.invariant.holds c.b.invariant.holds c.a.view_is c.b.view_is c.requires.types in
    ((λ t. absurd cc), (λ s. absurd (iff_false c.same_past.ensures c.if-not-same_past.true (facts.pasts s c.new.result))))

pub returns-then-not-same_past-clause-swaps : goal.returns-then-not-same_past-clause-swaps
returns-then-not-same_past-clause-swaps c =
    let facts = told (map plain c.a.inside.types.items) (map plain c.b.inside.types.items) (lists_of c.a.inside.configuration) (lists_of c.b.inside.configuration) c.args.a.now c.args.b.now c.a.invariant.holds c.b.invariant.holds c.a.view_is c.b.view_is c.requires.types in
    ((λ t. absurd cc), (λ s. absurd (iff_false c.same_past.ensures c.if-not-same_past.true (facts.pasts (facts.swapped s) c.new.result))))

pub returns-clause-views : goal.returns-clause-views
returns-clause-views c =
    let facts = both (goal.at.returns-clause-views c).After-loop-role in
    ((λ t. facts.views (λ p small. c.loop-role.invariant p (omega arith))), (λ s. refl))

pub returns-clause-swaps : goal.returns-clause-swaps
returns-clause-swaps c =
    let facts = both (goal.at.returns-clause-swaps c).After-loop-role in
    ((λ t. facts.swaps (facts.views (λ p small. c.loop-role.invariant p (omega arith)))), (λ s. refl))
