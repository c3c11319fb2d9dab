-- Whose step a number is.
use Rattle.std.proofs.Common.{◌≡◌, ℕ, zero, suc, ◌+◌, Bool, true, false, List, [], ◌∷◌, ◌++◌, length, Option, Some, None, Result, Ok, sym, ap, ◌∙◌, arith, length-append}
use Rattle.std.specs.Prelude.{nat_lt, ◌==◌, ◌&&◌, ◌||◌, if◌then◌else◌, slice_get}
use Rattle.std.specs.Option.{option_map, option_map_or}
use Rattle.std.proofs.lemmas.Bool.{cases_eq, eq-eqb, ne_eqb}
use Rattle.std.proofs.lemmas.List.Folds.{list_any-append}
use Rattle.mps_base.specs.declared.action.Act.{Act}
use Rattle.mps_command.specs.Acts.{act_of}
use Rattle.mps_command.specs.Changes.{command_of}
use Rattle.mps_command.specs.declared.answer.Answer.{Answer}
use Rattle.mps_command.specs.declared.answer.Answer.TheVariants.{Done as Stepped, Undone}
use Rattle.mps_command.specs.declared.answer.Done.{Done}
use Rattle.mps_command.specs.declared.answer.Refusal.{Refusal}
use Rattle.mps_command.specs.declared.answer.Refusal.TheVariants.{Violation as Violates, Full}
use Rattle.mps_command.specs.declared.answer.Violation.{Violation}
use Rattle.mps_command.specs.declared.command.Change.{Change}
use Rattle.mps_command.specs.declared.command.Change.TheVariants.{Forward}
use Rattle.mps_local.specs.Local.{LocalType}
use Rattle.mps_machine.specs.Machine.{State, most_numbers, view_of, unless, done_by, accepted, stepped, removed, serve}
use Rattle.mps_machine.specs.Violations.{violation}
use Rattle.mps_room.specs.Journal.{is_accepted}
use Rattle.mps_room.specs.Private.Owners.{owns, owners_after, AreOwners}
use Rattle.mps_room.specs.declared.entry.Entry.{Entry}

-- ---- numbers that are given out

-- a step gets the next number
module _ (types : List LocalType) (st : State) (p : ℕ) (act : Act) (done : Done) where
  abbrev pub step_served : Option Violation → Bool → Result Done Refusal × State
  step_served fault full = unless (option_map Violates fault) st (unless (if full then Some Full else None) st (Ok (done_by types st p act), accepted st p act))

  step_next : (fault : Option Violation) (full : Bool) → Stepped done ≡ stepped (step_served fault full).0 → (done.id ≡ st.next) × ((step_served fault full).1.next ≡ st.next + 1)
  step_next fault full e = grind arith

pub none_stepped : (done : Done) (r : Result (List ℕ) Refusal) → Stepped done ≡ removed r → ⊥
none_stepped done r e = grind arith

serve_next : (types : List LocalType) (st : State) (p : ℕ) (change : Change) (done : Done) → Stepped done ≡ (serve types st p change).0 → (done.id ≡ st.next) × ((serve types st p change).1.next ≡ st.next + 1)
serve_next types st p (Forward step) done e =
    step_next types st p (act_of step) done (violation (view_of types st.history) p (act_of step)) (nat_lt most_numbers st.next) e
serve_next types st p other done e = grind (arith, none_stepped)

-- other changes give out none
pub none_removed : (ids : List ℕ) (r : Result Done Refusal) → Undone ids ≡ stepped r → ⊥
none_removed ids r e = grind arith

-- ---- owners

abbrev pub own_at : List ℕ → ℕ → ℕ → Bool
own_at owners p k = option_map_or (λ owner. owner == p) (slice_get owners k) false

pub not_this : (x b : Bool) → x ≡ (x || ((b && false) || false))
not_this x b = grind arith

-- numbers compared
same_next : (a b : ℕ) → (suc a == suc b) ≡ (a == b)
same_next a b = grind (arith, eq-eqb, ne_eqb, cases_eq)

none_next : (a : ℕ) → (suc a == 0) ≡ false
none_next a = ne_eqb (suc a) 0 (λ (e : suc a ≡ 0). absurd (omega (arith, e)))

-- an owner at this place, or the last one
abbrev pub or_last : Bool → Bool → Bool → Bool
or_last here own last = here || ((own && last) || false)

-- one owner more
owned_more : (owners : List ℕ) (r p k : ℕ) → own_at (owners ++ r ∷ []) p k ≡ or_last (own_at owners p k) (r == p) (length owners == k)
owned_more [] r p zero = grind arith
owned_more [] r p (suc k) = grind (arith, not_this, ne_eqb)
owned_more (q ∷ owners) r p zero = not_this (q == p) (r == p) ∙ ap (or_last (q == p) (r == p)) (sym (none_next (length owners)))
owned_more (q ∷ owners) r p (suc k) = owned_more owners r p k ∙ ap (or_last (own_at owners p k) (r == p)) (sym (same_next (length owners) k))

pub owns_more : (owners : List ℕ) (r p n : ℕ) → owns (owners ++ r ∷ []) p n ≡ or_last (owns owners p n) (r == p) (suc (length owners) == n)
owns_more owners r p n = grind (arith, not_this, none_next, owned_more, same_next)

module _ (types : List LocalType) (st : State) (j : List Entry) (p : ℕ) (change : Change) (owners : List ℕ) (are : AreOwners owners st.next j) where
  abbrev one_more : Answer → List Entry
  one_more a = j ++ record { role = p; command = command_of change; answer = a } ∷ []

  -- the owners after the answer to a change
  pub owners_with : (a : Answer) → a ≡ (serve types st p change).0 → is_accepted a ≡ true → AreOwners (owners_after owners p a) (serve types st p change).1.next (one_more a)
  owners_with (Stepped done) is kept =
      let given = serve_next types st p change done is in
      grind (arith, length-append, list_any-append, owns_more)
  owners_with other is kept = grind (arith, length-append, none_removed, list_any-append, not_this)
