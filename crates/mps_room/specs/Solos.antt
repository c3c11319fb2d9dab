-- A room with one caller: what a call tells, and the laws that every caller's calls keep.
use Rattle.std.specs.Prelude.{◌≡◌, ℕ, ◌==◌, Bool, true, false, List, [], ◌∷◌, ◌++◌, if◌then◌else◌}
use Rattle.std.specs.List.{filter}
use Rattle.std.proofs.Common.{refl, ap, ◌∙◌, eq-eqb}
use Rattle.mps_command.specs.declared.answer.Answer.{Answer}
use Rattle.mps_command.specs.declared.command.Command.{Command}
use Rattle.mps_room.specs.Journal.{grown, answer_to, is_accepted, MayAnswer}
use Rattle.mps_room.specs.Callers.{entry, entries_of}
use Rattle.mps_room.specs.declared.entry.Entry.{Entry}
use Rattle.mps_room.specs.declared.solo.Solo.{Solo}

abbrev pub names_of : Solo → List (List ℕ)
names_of s = s.room.names

abbrev pub role_of : Solo → ℕ
role_of s = s.role

abbrev pub made_of : Solo → List Entry
made_of s = entries_of s.role s.room.journal

-- the room answers the role's command, and keeps it where it is accepted
pub record IsSoloCall (s : Solo) (c : Command) (a : Answer) (t : Solo) : Type 0 where
  pub answer : MayAnswer a (answer_to s.room.names s.room.types s.room.journal s.role c)
  pub journal : t.room.journal ≡ grown s.room.journal s.role c a
  pub names : t.room.names ≡ s.room.names
  pub types : t.room.types ≡ s.room.types
  pub role : t.role ≡ s.role

pub same_names : (s : Solo) (c : Command) (a : Answer) (t : Solo) → IsSoloCall s c a t → names_of t ≡ names_of s
same_names s c a t h = h.names

pub same_role : (s : Solo) (c : Command) (a : Answer) (t : Solo) → IsSoloCall s c a t → role_of t ≡ role_of s
same_role s c a t h = h.role

-- a list with one element more, of which those are taken that a test lets through
pub filter_end : (p : Entry → Bool) (k : List Entry) (e : Entry)
    → filter p (k ++ e ∷ []) ≡ filter p k ++ (if p e then e ∷ [] else [])
filter_end p [] e =
    elim (p e) as
    (λ (b : Bool). (if b then e ∷ [] else []) ≡ [] ++ (if b then e ∷ [] else [])) [ true ↦ refl | false ↦ refl ]
filter_end p (x ∷ k) e =
    let h = filter_end p k e in elim (p x) as (λ (b : Bool).
    (if b then x ∷ filter p (k ++ e ∷ []) else filter p (k ++ e ∷ [])) ≡
    (if b then x ∷ filter p k else filter p k) ++ (if p e then e ∷ [] else [])) [
      | true ↦ ap
          (λ l. x ∷ l) h
      | false ↦ h
    ]

-- one entry of the role more
pub own_entry : (role : ℕ) (k : List Entry) (e : Entry) → e.role ≡ role
    → entries_of role (k ++ e ∷ []) ≡ entries_of role k ++ e ∷ []
own_entry role k e is =
    filter_end (λ (x : Entry). x.role == role) k e ∙ ap (λ (b : Bool). entries_of role k ++ (if b then e ∷ [] else []))
    (eq-eqb e.role role is)

own_grown : (j : List Entry) (p : ℕ) (c : Command) (a : Answer) (b : Bool) → entries_of p
    (if b then j ++ entry p c a ∷ [] else j) ≡ (if b then entries_of p j ++ entry p c a ∷ [] else entries_of p j)
own_grown j p c a true = own_entry p j (entry p c a) refl
own_grown j p c a false = refl

pub made_grows : (s : Solo) (c : Command) (a : Answer) (t : Solo) → IsSoloCall s c a t
    → made_of t ≡ grown (made_of s) (role_of s) c a
made_grows s c a t h =
    (λ i. entries_of (h.role i) (h.journal i)) ∙ own_grown s.room.journal s.role c a (is_accepted a)
