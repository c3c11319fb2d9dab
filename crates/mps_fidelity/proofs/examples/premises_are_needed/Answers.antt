-- Proves the law `premises_are_needed`, clauses `types_have_to_fit`, `sorts_have_to_agree`, `no_type_without_comparing`, `no_type_with_labels`, `labels_have_to_unite` and 2 more.
use Rattle.std.proofs.Common.{◌≡◌, inl, inr, true, false, refl}
use Rattle.std.specs.Prelude.{pos}
use Rattle.mps_base.specs.declared.action.Message.TheVariants.{Value as Plain}
use Rattle.mps_base.specs.declared.value.Value.TheVariants.{Int}
use Rattle.mps_base.specs.declared.value.Sort.TheVariants.{Int as IntSort, Bool as BoolSort}
use Rattle.mps_local.specs.Local.{End, Send, Recv}
use Rattle.mps_local.specs.Unfolding.{unfolded}
use Rattle.mps_machine.specs.Examples.{a, b, c as c'}
use Rattle.mps_fidelity.specs.Duality.{DualStep, Dual, first_elsewhere, second_elsewhere, first_sends, second_sends}
use Rattle.mps_fidelity.proofs.examples.premises_are_needed.Goals as goal

pub returns-clause-types_have_to_fit : goal.returns-clause-types_have_to_fit
unfolding unfolded
returns-clause-types_have_to_fit c f = let bad : false ≡ true = f a b _ _ refl refl in cc

pub returns-clause-sorts_have_to_agree : goal.returns-clause-sorts_have_to_agree
unfolding unfolded
returns-clause-sorts_have_to_agree c dual = by_step (dual 1)
  where
    by_step : DualStep a b (Dual 0 a b) (Send b IntSort End) (Recv a BoolSort End) → ⊥
    by_step (first_elsewhere off g) = off.not_to refl
    by_step (second_elsewhere off g) = off.not_from refl
    by_step (first_sends e f g) = let k = g (Plain (Int (pos 5))) End refl in let l = k.1 in absurd cc
    by_step (second_sends e f g) = cc

pub returns-clause-no_type_without_comparing : goal.returns-clause-no_type_without_comparing
returns-clause-no_type_without_comparing c = refl

pub returns-clause-no_type_with_labels : goal.returns-clause-no_type_with_labels
returns-clause-no_type_with_labels c = refl

pub returns-clause-labels_have_to_unite : goal.returns-clause-labels_have_to_unite
unfolding unfolded
returns-clause-labels_have_to_unite c = refl

pub returns-clause-branches_have_to_agree : goal.returns-clause-branches_have_to_agree
unfolding unfolded
returns-clause-branches_have_to_agree c f = let bad : false ≡ true = f a c' _ _ refl refl in cc

pub returns-clause-one_has_to_receive_first : goal.returns-clause-one_has_to_receive_first
unfolding unfolded
returns-clause-one_has_to_receive_first c (inl e) = cc
returns-clause-one_has_to_receive_first c (inr e) = cc
