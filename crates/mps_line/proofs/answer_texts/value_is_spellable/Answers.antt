-- `value_is_spellable` meets its contract, by the lemmas of Spellings.
use Rattle.std.proofs.Common.{subst, sym}
use Rattle.mps_base.specs.declared.value.Value.{Value}
use Rattle.mps_line.specs.Private.Spellable.{IsSpellable}
use Rattle.mps_line.specs.Tokens.{Worth}
use Rattle.mps_line.proofs.Spellings.{truth}
use Rattle.mps_line.proofs.answer_texts.value_is_spellable.Goals as goal

pub returns-in-Bool : goal.returns-in-Bool
returns-in-Bool c = subst (λ (v : Value). IsSpellable (Worth v)) (sym c.in-Bool.is) (truth c.in-Bool.field-0)
