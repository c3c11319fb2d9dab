-- What a call of a caller with a share leaves as the call inside does.
use Rattle.std.proofs.Common.{◌≡◌, Bool, true, false, ℕ, List, Option, ap, sym, subst, ◌∙◌}
use Rattle.std.specs.Prelude.{MatchBool}
use Rattle.mps_command.specs.declared.answer.Answer.{Answer}
use Rattle.mps_command.specs.declared.answer.Answer.TheVariants.{Refused}
use Rattle.mps_command.specs.declared.answer.Refusal.TheVariants.{Full}
use Rattle.mps_command.specs.declared.command.Command.{Command}
use Rattle.mps_room.specs.Journal.{grown}
use Rattle.mps_room.specs.declared.entry.Entry.{Entry}
use Rattle.mps_hub.specs.Shares.{IsOver, IsSharedCall, IsWithin, is_over}

module _ {C : Type 0} (calls : C → Command → Answer → C → Type 0) {V : Type 0} (value : C → V) (keeps : (c : C) (x : Command) (a : Answer) (d : C) → calls c x a d → value d ≡ value c) (left : Option ℕ) (inside : C) (command : Command) (answer : Answer) (left' : Option ℕ) (inside' : C) where
  value_by : (b : Bool) → MatchBool b (IsOver calls left inside command answer left' inside') (IsWithin calls left inside command answer left' inside') → value inside' ≡ value inside
  value_by true h = ap value h.same
  value_by false h = keeps inside command answer inside' h.call

  -- what no call inside changes is as before
  pub keeps_value : IsSharedCall calls left inside command answer left' inside' → value inside' ≡ value inside
  keeps_value h = value_by (is_over left command) h

module _ {C : Type 0} (calls : C → Command → Answer → C → Type 0) (made : C → List Entry) (role : C → ℕ) (grows : (c : C) (x : Command) (a : Answer) (d : C) → calls c x a d → made d ≡ grown (made c) (role c) x a) (left : Option ℕ) (inside : C) (command : Command) (answer : Answer) (left' : Option ℕ) (inside' : C) where
  made_by : (b : Bool) → MatchBool b (IsOver calls left inside command answer left' inside') (IsWithin calls left inside command answer left' inside') → made inside' ≡ grown (made inside) (role inside) command answer
  made_by true h = ap made h.same ∙ sym (ap (λ (a : Answer). grown (made inside) (role inside) command a) h.refused)
  made_by false h = grows inside command answer inside' h.call

  -- an accepted command is added to what was made, and nothing else
  pub keeps_made : IsSharedCall calls left inside command answer left' inside' → made inside' ≡ grown (made inside) (role inside) command answer
  keeps_made h = made_by (is_over left command) h

module _ {C : Type 0} (calls : C → Command → Answer → C → Type 0) (left : Option ℕ) (inside : C) (command : Command) (answer : Answer) (left' : Option ℕ) (inside' : C) (P : Answer → Type 0) (full : P (Refused Full)) (inner : calls inside command answer inside' → P answer) where
  answer_by : (b : Bool) → MatchBool b (IsOver calls left inside command answer left' inside') (IsWithin calls left inside command answer left' inside') → P answer
  answer_by true h = subst P (sym h.refused) full
  answer_by false h = inner h.call

  -- what holds of each answer of the caller inside, and of this refusal, holds of each
  pub keeps_answer : IsSharedCall calls left inside command answer left' inside' → P answer
  keeps_answer h = answer_by (is_over left command) h
