-- Requests that were served, and one more.
use Rattle.std.proofs.Common.{◌≡◌, ℕ, List, [], ◌∷◌, ◌++◌, length, Result, Ok, Err, refl, sym, subst, arith}
use Rattle.mps_command.specs.declared.command.Change.{Change}
use Rattle.mps_command.specs.declared.answer.Answer.{Answer}
use Rattle.mps_command.specs.declared.answer.Refusal.{Refusal}
use Rattle.mps_local.specs.Local.{LocalType}
use Rattle.mps_machine.specs.Machine.{State, Request, serve, IsSound}
use Rattle.mps_machine.specs.Answering.{IsChanged, result_of}
use Rattle.mps_session.specs.Runs.{AreServed}

pub one_more : (types : List LocalType) (requests : List Request) (answers : List Answer) (old mid new : State) (r : Request) (a : Answer) → AreServed types requests answers old mid → IsChanged types r.0 r.1 (result_of a) mid new → AreServed types (requests ++ r ∷ []) (answers ++ a ∷ []) old new
one_more types [] [] old mid new r a all last = (new, subst (λ (st : State). IsChanged types r.0 r.1 (result_of a) st new) all last, refl)
one_more types (q ∷ requests) (b ∷ answers) old mid new r a all last = (all.0, all.1, one_more types requests answers all.0 mid new r a all.2 last)
one_more types other others old mid new r a all last = absurd all

pub as_many : (types : List LocalType) (requests : List Request) (answers : List Answer) (old new : State) → AreServed types requests answers old new → length answers ≡ length requests
as_many types [] [] old new all = refl
as_many types (q ∷ requests) (b ∷ answers) old new all = omega (arith, as_many types requests answers all.0 new all.2)
as_many types other others old new all = absurd all

-- the state stays sound, as the machine's does, and where it stays as it is
pub still_sound : (types : List LocalType) (p : ℕ) (change : Change) (r : Result Answer Refusal) (old new : State) → IsSound types old → IsSound types (serve types old p change).1 → IsChanged types p change r old new → IsSound types new
still_sound types p change (Ok a) old new before after is = subst (IsSound types) (sym is.state) after
still_sound types p change (Err e) old new before after is = subst (IsSound types) (sym is.err) before
