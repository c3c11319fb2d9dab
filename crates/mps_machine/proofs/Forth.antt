-- The steps of a history can be taken again, one after the other.
use Rattle.std.proofs.Common.{◌≡◌, ℕ, ◌+◌, ◌≤◌, List, [], ◌∷◌, ◌++◌, map, length, Option, Some, None, is_some, refl, sym, ap, ◌∙◌, arith, append_assoc, append-nil}
use Rattle.std.specs.Prelude.{unwrap_or}
use Rattle.std.proofs.lemmas.Bool.{cond-false, le-ltb}
use Rattle.mps_base.specs.declared.action.Act.{Act}
use Rattle.mps_base.specs.declared.action.Act.TheVariants as acts
use Rattle.mps_base.specs.declared.action.Message.TheVariants as messages
use Rattle.mps_base.specs.declared.action.Step.{Step}
use Rattle.mps_command.specs.Acts.{act_of}
use Rattle.mps_command.specs.declared.command.Change.TheVariants as changes
use Rattle.mps_command.specs.declared.command.Forward.{Forward}
use Rattle.mps_command.specs.declared.command.Forward.TheVariants.{Send, Choose, Receive, Pick, Mark, Commit}
use Rattle.mps_local.specs.Local.{LocalType}
use Rattle.mps_history.specs.Swaps.{deeds}
use Rattle.mps_machine.specs.Machine.{State, most_numbers, view_of, accepted, forward, serve, Request, after}
use Rattle.mps_machine.specs.Rule.{rule, replay}
use Rattle.mps_machine.specs.View.{View, opening}
use Rattle.mps_machine.specs.Violations.{violation}
use Rattle.mps_machine.proofs.Defined.{rule_defined, none_of}
use Rattle.mps_machine.proofs.Stepping.{replay_parts, replay_from, replay-append}
use Rattle.mps_machine.proofs.Swapping.{rule_same, deeds-append}
use Rattle.mps_machine.specs.Runs.{AreForward}

-- the command that asks for an act
abbrev pub asking : Act → Forward
asking (acts.Out to (messages.Value value)) = Send to value
asking (acts.Out to (messages.Label label)) = Choose to label
asking (acts.In from (Some slot)) = Receive from slot
asking (acts.In from None) = Pick from
asking (acts.Mark name) = Mark name
asking acts.Commit = Commit

-- it does ask for that act
asks_for : (act : Act) → act_of (asking act) ≡ act
asks_for act = grind arith

-- the request for a step
abbrev pub again : Step → Request
again s = (s.role, changes.Forward (asking s.act))

-- these are steps alone
pub all_forward : (l : List Step) → AreForward (map again l)
all_forward [] = tt
all_forward (s ∷ l) = (tt, all_forward l)

-- an allowed step is accepted, where a number is left
accepts : (types : List LocalType) (st : State) (p : ℕ) (act : Act) → violation (view_of types st.history) p act ≡ None → st.next ≤ most_numbers → (forward types st p act).1 ≡ accepted st p act
accepts types st p act fine left = grind (arith, cond-false, le-ltb)

-- so the step can be taken again where it is allowed
serves_again : (types : List LocalType) (st : State) (s : Step) (v u : View) → replay (opening types) st.history ≡ Some v → rule v s ≡ Some u → st.next ≤ most_numbers → (serve types st s.role (changes.Forward (asking s.act))).1 ≡ accepted st s.role s.act
serves_again types st s v u e allowed left =
    let fine : violation v s.role s.act ≡ None = none_of (violation v s.role s.act) (sym (rule_defined v s) ∙ ap is_some allowed) in
    let here : violation (view_of types st.history) s.role s.act ≡ None = ap (λ (o : Option View). violation (unwrap_or o (opening types)) s.role s.act) e ∙ fine in
    ap (λ (act : Act). (forward types st s.role act).1) (asks_for s.act) ∙ accepts types st s.role s.act here left

-- steps that have a replay can be taken, one after the other, while numbers are left
pub takes_again : (types : List LocalType) (l : List Step) (st : State) (v w : View) → replay (opening types) st.history ≡ Some v → replay v l ≡ Some w → st.next + length l ≤ most_numbers + 1 → deeds (after types st (map again l)).history ≡ deeds (st.history ++ l)
takes_again types [] st v w e el left = ap deeds (sym (append-nil st.history))
takes_again types (s ∷ l) st v w e el left =
    let parts = replay_parts v w s l el in
    let next = accepted st s.role s.act in
    let new : Step = record { id = st.next; role = s.role; act = s.act } in
    let grown : replay (opening types) (st.history ++ new ∷ []) ≡ Some parts.0 = replay-append (opening types) v st.history (new ∷ []) e ∙ replay_from v parts.0 new [] (rule_same v new s refl refl ∙ parts.1) in
    ap (λ (n : State). deeds (after types n (map again l)).history) (serves_again types st s v parts.0 e parts.1 (omega arith))
    ∙ takes_again types l next parts.0 w grown parts.2 (omega arith)
    ∙ same_deeds st.history l new s refl refl
  where
    same_pair : {m n : ℕ} {f g : Act} → m ≡ n → f ≡ g → ◌≡◌ {A = ℕ × Act} (m, f) (n, g)
    same_pair {m} {n} {f} {g} e k = cc

    same_deeds : (h l : List Step) (x y : Step) → x.role ≡ y.role → x.act ≡ y.act → deeds ((h ++ x ∷ []) ++ l) ≡ deeds (h ++ y ∷ l)
    same_deeds h l x y r a = ap deeds (append_assoc h (x ∷ []) l) ∙ deeds-append h (x ∷ l) ∙ ap (λ (d : ℕ × Act). deeds h ++ d ∷ deeds l) (same_pair r a) ∙ sym (deeds-append h (y ∷ l))
