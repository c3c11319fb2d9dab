-- A legal journal runs again.
use Rattle.std.proofs.Common.{arith, ◌≡◌, ℕ, List, [], ◌∷◌, ◌++◌, sym, subst, append_assoc, append-nil, ◌⊎◌}
use Rattle.mps_local.specs.Local.{LocalType}
use Rattle.mps_command.specs.declared.answer.Answer.{Answer}
use Rattle.mps_command.specs.declared.answer.Answer.TheVariants.{Refused}
use Rattle.mps_command.specs.declared.answer.Refusal.TheVariants.{Memory}
use Rattle.mps_room.specs.Journal.{IsLegal, FollowsOn, IsEntryAfter, MayAnswer, answer_to}
use Rattle.mps_room.specs.declared.entry.Entry.{Entry}

-- each entry of a legal journal is one after those before it
follows_at : (names : List (List ℕ)) (types : List LocalType) (start before : List Entry) (e : Entry) (after : List Entry) → FollowsOn names types start (before ++ e ∷ after) → IsEntryAfter names types (start ++ before) e
follows_at names types start [] e after f = subst (λ (b : List Entry). IsEntryAfter names types b e) (sym (append-nil start)) f.0
follows_at names types start (x ∷ before) e after f = subst (λ (b : List Entry). IsEntryAfter names types b e) (append_assoc start (x ∷ []) before) (follows_at names types (start ++ x ∷ []) before e after f.1)

pub entry_at : (names : List (List ℕ)) (types : List LocalType) (before : List Entry) (e : Entry) (after : List Entry) → IsLegal names types (before ++ e ∷ after) → IsEntryAfter names types before e
entry_at names types before e after legal = follows_at names types [] before e after legal.each

pub again : (names : List (List ℕ)) (types : List LocalType) (before : List Entry) (e : Entry) (after : List Entry) → IsLegal names types (before ++ e ∷ after) → (a : Answer) → MayAnswer a (answer_to names types before e.role e.command) → (a ≡ e.answer) ⊎ (a ≡ Refused Memory)
again names types before e after legal a h = grind (arith, entry_at)
