-- A type has no fault exactly where it is closed, guarded and unshadowed, has labels and is within the limits.
use Rattle.std.proofs.Common.{◌≡◌, ℕ, ◌≤◌, ⊎_elim, Bool, true, false, List, [], ◌∷◌, ◌++◌, length, cond, Option, Some, None, refl, sym, ap, ◌∙◌, arith}
use Rattle.std.specs.Prelude.{◌||◌, ◌&&◌, ◌==◌, nat_lt, not}
use Rattle.std.specs.List.{list_any}
use Rattle.std.specs.Option.{option_or}
use Rattle.std.specs.Str.{bytes_eq}
use Rattle.std.proofs.lemmas.Bool.{cases_Bool, and_parts, and_from}
use Rattle.std.proofs.lemmas.Bool.Decides.{nat_tests}
use Rattle.std.proofs.lemmas.List.Sums.{take_while-cons}
use Rattle.mps_global.specs.Global.{GlobalType}
use Rattle.mps_global.specs.Path.{Edge, Loop, Act, binds, is_act, is_bound, is_unguarded}
use Rattle.mps_global.specs.Faults.{has_double, first_true, fault_of}
use Rattle.mps_global.proofs.Sound.{sound_protocol}
use Rattle.mps_global.proofs.Walks.{first_of_tests}
use Rattle.mps_local.specs.Local.{LocalType, Branches, End, Var, Rec, Send, Recv, Select, Branch, NoMore, More}
use Rattle.mps_local.specs.Actions.{labels}
use Rattle.mps_local.specs.Shape.{node_count, depth, IsOtherRole}
use Rattle.mps_local.specs.Projection.{projection}
use Rattle.mps_local.specs.Loops.{is_closed, are_closed, ends_in, is_guarded, are_guarded, is_unshadowed, are_unshadowed, are_labels, is_labelled, are_labelled}
use Rattle.mps_local.specs.LocalFaults.{places, branch_places, size_tests, label_tests, rec_tests, tests_at, fault_at, local_fault_of}
use Rattle.mps_local.specs.declared.faults.LocalFault.TheVariants as faults
use Rattle.mps_local.specs.declared.merging.Merging.{Merging}
use Rattle.mps_local.proofs.Apart.{both_none, both_pass}
use Rattle.mps_local.proofs.Equal.{name_same, name_is, name_turned}
use Rattle.mps_local.proofs.Faulty.{first_of_both}
use Rattle.mps_local.proofs.Formed.{IsFormed, AreFormed}
use Rattle.mps_local.proofs.Looping.{true_unless, false_where, labels_so, faultless_formed}
use Rattle.mps_local.proofs.Projected.{fitting}

none_then : {F : Type 0} (a b : Option F) → a ≡ None → b ≡ None → option_or a b ≡ None
none_then a b e f = grind arith

-- where neither list of tests tells a fault, both together tell none
both_told : {F : Type 0} (a b : List (Bool × F)) → first_true a ≡ None → first_true b ≡ None → first_true (a ++ b) ≡ None
both_told a b e f = first_of_tests a b ∙ none_then (first_true a) (first_true b) e f

variable_fine : {F : Type 0} (unbound unguarded : F) (a b : Bool) → a ≡ true → b ≡ false → first_true ((not a, unbound) ∷ (b, unguarded) ∷ []) ≡ None
variable_fine unbound unguarded a b e f = grind arith

rec_fine : {F : Type 0} (shadowed : F) (a : Bool) → a ≡ false → first_true ((a, shadowed) ∷ []) ≡ None
rec_fine shadowed a e = grind arith

labels_fine : {F : Type 0} (double many none : F) (a b c : Bool) → (not a && not b && not c) ≡ true → first_true ((a, double) ∷ (b, many) ∷ (c, none) ∷ []) ≡ None
labels_fine double many none a b c e = grind arith

-- below a `rec` its own variable is unguarded, and those that were
under_rec : (z name : List ℕ) (above : List Edge) → is_unguarded z (Loop name ∷ above) ≡ (bytes_eq z name || is_unguarded z above)
under_rec z name above = ap (list_any (binds z)) (take_while-cons (λ step. not (is_act step)) (Loop name) above)

or_first : (a b : Bool) → a ≡ true → (a || b) ≡ true
or_first a b h = grind arith

or_second : (a b : Bool) → b ≡ true → (a || b) ≡ true
or_second a b h = grind arith

second_of : (a b : Bool) → (a || b) ≡ true → a ≡ false → b ≡ true
second_of a b h e = grind arith

not_so : (a b : Bool) → a ≡ false → b ≡ true → (not a && b) ≡ true
not_so a b e f = grind arith

not_true : (a : Bool) → not a ≡ true → a ≡ false
not_true a e = grind arith

mutual
  no_fault : (above : List Edge) (bound : List (List ℕ)) (t : LocalType) → ((z : List ℕ) → list_any (bytes_eq z) bound ≡ list_any (binds z) above) → ((z : List ℕ) → is_unguarded z above ≡ true → ends_in z t ≡ false) → is_closed bound t ≡ true → is_guarded t ≡ true → is_unshadowed bound t ≡ true → is_labelled t ≡ true → fault_at (places above t) ≡ None
  no_fault above bound End f g c d u l = refl
  no_fault above bound (Var name) f g c d u l =
      (variable_fine faults.Unbound faults.Unguarded (is_bound name above) (is_unguarded name above) (sym (f name) ∙ c)
      (⊎_elim (λ (e : is_unguarded name above ≡ true). absurd (let k = g name e in let n = name_same name in cc)) (λ (e : is_unguarded name above ≡ false). e) (cases_Bool (is_unguarded name above))))
  no_fault above bound (Rec name body) f g c d u l =
      let us = and_parts (not (list_any (bytes_eq name) bound)) (is_unshadowed (name ∷ bound) body) u in
      let ds = and_parts (not (ends_in name body)) (is_guarded body) d in
      both_told (rec_tests name above) (tests_at (places (Loop name ∷ above) body))
      (rec_fine faults.Shadowed (is_bound name above) (sym (f name) ∙ not_true (list_any (bytes_eq name) bound) us.0))
      (no_fault (Loop name ∷ above) (name ∷ bound) body
      (λ z. ap (λ (b : Bool). bytes_eq z name || b) (f z))
      (grind (arith, name_is, not_true, name_turned, second_of, under_rec, cases_Bool))
      c ds.1 us.1 l)
  no_fault above bound (Send peer sort next) f g c d u l = no_fault (Act ∷ above) bound next f (λ z h. absurd cc) c d u l
  no_fault above bound (Recv peer sort next) f g c d u l = no_fault (Act ∷ above) bound next f (λ z h. absurd cc) c d u l
  no_fault above bound (Select peer branches) f g c d u l =
      let ls = and_parts (are_labels (labels branches)) (are_labelled branches) l in
      both_told (label_tests (labels branches)) (tests_at (branch_places (Act ∷ above) branches))
      (labels_fine faults.DoubleLabel faults.TooManyBranches faults.NoBranches (has_double (labels branches)) (nat_lt 16 (length (labels branches))) (length (labels branches) == 0) ls.0)
      (no_faults (Act ∷ above) bound branches f (λ z h. absurd cc) c d u ls.1)
  no_fault above bound (Branch peer branches) f g c d u l =
      let ls = and_parts (are_labels (labels branches)) (are_labelled branches) l in
      both_told (label_tests (labels branches)) (tests_at (branch_places (Act ∷ above) branches))
      (labels_fine faults.DoubleLabel faults.TooManyBranches faults.NoBranches (has_double (labels branches)) (nat_lt 16 (length (labels branches))) (length (labels branches) == 0) ls.0)
      (no_faults (Act ∷ above) bound branches f (λ z h. absurd cc) c d u ls.1)

  no_faults : (above : List Edge) (bound : List (List ℕ)) (ts : Branches) → ((z : List ℕ) → list_any (bytes_eq z) bound ≡ list_any (binds z) above) → ((z : List ℕ) → is_unguarded z above ≡ true → ⊥) → are_closed bound ts ≡ true → are_guarded ts ≡ true → are_unshadowed bound ts ≡ true → are_labelled ts ≡ true → fault_at (branch_places above ts) ≡ None
  no_faults above bound NoMore f g c d u l = refl
  no_faults above bound (More label t others) f g c d u l =
      let cs = and_parts (is_closed bound t) (are_closed bound others) c in
      let ds = and_parts (is_guarded t) (are_guarded others) d in
      let us = and_parts (is_unshadowed bound t) (are_unshadowed bound others) u in
      let ls = and_parts (is_labelled t) (are_labelled others) l in
      first_of_both (places above t) (branch_places above others)
      ∙ none_then (fault_at (places above t)) (fault_at (branch_places above others))
      (no_fault above bound t f (λ z h. absurd (g z h)) cs.0 ds.0 us.0 ls.0)
      (no_faults above bound others f g cs.1 ds.1 us.1 ls.1)

-- such a type has no fault
pub faultless_so : (t : LocalType) → is_closed [] t ≡ true → is_guarded t ≡ true → is_unshadowed [] t ≡ true → is_labelled t ≡ true → node_count t ≤ 256 → depth t ≤ 64 → local_fault_of t ≡ None
faultless_so t c g u l n d = grind (arith, first_of_tests, nat_tests, no_fault)

-- what holds of a type whose nodes have no fault, where these variables are bound
pub record IsFine (bound : List (List ℕ)) (t : LocalType) : Type 0 where
  pub closed : is_closed bound t ≡ true
  pub guarded : is_guarded t ≡ true
  pub unshadowed : is_unshadowed bound t ≡ true
  pub labelled : is_labelled t ≡ true

record AreFine (bound : List (List ℕ)) (ts : Branches) : Type 0 where
  closed : are_closed bound ts ≡ true
  guarded : are_guarded ts ≡ true
  unshadowed : are_unshadowed bound ts ≡ true
  labelled : are_labelled ts ≡ true

mutual
  -- a type that is formed is fine
  formed_fine : (IsPeer : ℕ → Type 0) (bound : List (List ℕ)) (t : LocalType) → IsFormed IsPeer bound t → IsFine bound t
  formed_fine IsPeer bound End h = record { closed = refl; guarded = refl; unshadowed = refl; labelled = refl }
  formed_fine IsPeer bound (Var name) h = record { closed = h; guarded = refl; unshadowed = refl; labelled = refl }
  formed_fine IsPeer bound (Rec name body) h =
      let k = formed_fine IsPeer (name ∷ bound) body h.2 in record {
        closed = k.closed;
        guarded = not_so (ends_in name body) (is_guarded body) h.1 k.guarded;
        unshadowed = not_so (list_any (bytes_eq name) bound) (is_unshadowed (name ∷ bound) body) h.0 k.unshadowed;
        labelled = k.labelled;
      }
  formed_fine IsPeer bound (Send peer sort next) h =
      let k = formed_fine IsPeer bound next h.1 in
      record { closed = k.closed; guarded = k.guarded; unshadowed = k.unshadowed; labelled = k.labelled }
  formed_fine IsPeer bound (Recv peer sort next) h =
      let k = formed_fine IsPeer bound next h.1 in
      record { closed = k.closed; guarded = k.guarded; unshadowed = k.unshadowed; labelled = k.labelled }
  formed_fine IsPeer bound (Select peer branches) h =
      let k = all_formed_fine IsPeer bound branches h.2 in
      record { closed = k.closed; guarded = k.guarded; unshadowed = k.unshadowed; labelled = and_from (are_labels (labels branches)) (are_labelled branches) h.1 k.labelled }
  formed_fine IsPeer bound (Branch peer branches) h =
      let k = all_formed_fine IsPeer bound branches h.2 in
      record { closed = k.closed; guarded = k.guarded; unshadowed = k.unshadowed; labelled = and_from (are_labels (labels branches)) (are_labelled branches) h.1 k.labelled }

  all_formed_fine : (IsPeer : ℕ → Type 0) (bound : List (List ℕ)) (ts : Branches) → AreFormed IsPeer bound ts → AreFine bound ts
  all_formed_fine IsPeer bound NoMore h = record { closed = refl; guarded = refl; unshadowed = refl; labelled = refl }
  all_formed_fine IsPeer bound (More label t others) h =
      let k = formed_fine IsPeer bound t h.0 in
      let l = all_formed_fine IsPeer bound others h.1 in record {
        closed = and_from (is_closed bound t) (are_closed bound others) k.closed l.closed;
        guarded = and_from (is_guarded t) (are_guarded others) k.guarded l.guarded;
        unshadowed = and_from (is_unshadowed bound t) (are_unshadowed bound others) k.unshadowed l.unshadowed;
        labelled = and_from (is_labelled t) (are_labelled others) k.labelled l.labelled;
      }

-- projections are such types
pub faultless : (merging : Merging) (roles : List (List ℕ)) (role : ℕ) (tree : GlobalType) (t : LocalType) → fault_of roles tree ≡ None → projection merging roles role tree ≡ Some t → local_fault_of t ≡ None
faultless merging roles role tree t h e =
    let sound = sound_protocol roles tree h in
    let fits = fitting merging roles role tree t h e in
    let small = sound.small in let shallow = sound.shallow in let n = fits.nodes_fit in let l = fits.levels_fit in
    let k = formed_fine (IsOtherRole (length roles) role) [] t (faultless_formed merging roles role tree t h e) in
    faultless_so t k.closed k.guarded k.unshadowed k.labelled (omega arith) (omega arith)

-- where a type's nodes have no fault, it does not come to an unguarded variable before an act
unended : (z : List ℕ) (above : List Edge) (t : LocalType) → is_unguarded z above ≡ true → fault_at (places above t) ≡ None → ends_in z t ≡ false
unended z above (Var name) u h = by_test (bytes_eq name z) refl
  where
    by_test : (b : Bool) → bytes_eq name z ≡ b → b ≡ false
    by_test true e = grind (arith, name_is name z e)
    by_test false e = refl
unended z above (Rec name body) u h = by_test (bytes_eq name z)
    (unended z (Loop name ∷ above) body (under_rec z name above ∙ or_second (bytes_eq z name) (is_unguarded z above) u) (both_pass (rec_tests name above) (tests_at (places (Loop name ∷ above) body)) h).1)
  where
    by_test : (b : Bool) → ends_in z body ≡ false → cond b false (ends_in z body) ≡ false
    by_test true e = refl
    by_test false e = e
unended z above other u h = refl

choice_labels : (names : List (List ℕ)) → first_true (label_tests names) ≡ None → are_labels names ≡ true
choice_labels names h = labels_so faults.DoubleLabel faults.TooManyBranches faults.NoBranches (has_double names) (nat_lt 16 (length names)) (length names == 0) h

mutual
  fine : (above : List Edge) (bound : List (List ℕ)) (t : LocalType) → ((z : List ℕ) → list_any (bytes_eq z) bound ≡ list_any (binds z) above) → fault_at (places above t) ≡ None → IsFine bound t
  fine above bound End f h = record { closed = refl; guarded = refl; unshadowed = refl; labelled = refl }
  fine above bound (Var name) f h = grind (arith, both_pass, true_unless)
  fine above bound (Rec name body) f h =
      let below = Loop name ∷ above in
      let b = both_pass (rec_tests name above) (tests_at (places below body)) h in
      let k = fine below (name ∷ bound) body (λ z. ap (λ (c : Bool). bytes_eq z name || c) (f z)) b.1 in
      let own : is_unguarded name below ≡ true = under_rec name name above ∙ or_first (bytes_eq name name) (is_unguarded name above) (name_same name) in
      grind (arith, not_so (ends_in name body) (is_guarded body) (unended name below body own b.1) k.guarded)
  fine above bound (Send peer sort next) f h =
      let k = fine (Act ∷ above) bound next f h in
      record { closed = k.closed; guarded = k.guarded; unshadowed = k.unshadowed; labelled = k.labelled }
  fine above bound (Recv peer sort next) f h =
      let k = fine (Act ∷ above) bound next f h in
      record { closed = k.closed; guarded = k.guarded; unshadowed = k.unshadowed; labelled = k.labelled }
  fine above bound (Select peer branches) f h =
      let below = Act ∷ above in
      let b = both_pass (label_tests (labels branches)) (tests_at (branch_places below branches)) h in
      let k = all_fine below bound branches f b.1 in
      record { closed = k.closed; guarded = k.guarded; unshadowed = k.unshadowed; labelled = and_from (are_labels (labels branches)) (are_labelled branches) (choice_labels (labels branches) b.0) k.labelled }
  fine above bound (Branch peer branches) f h =
      let below = Act ∷ above in
      let b = both_pass (label_tests (labels branches)) (tests_at (branch_places below branches)) h in
      let k = all_fine below bound branches f b.1 in
      record { closed = k.closed; guarded = k.guarded; unshadowed = k.unshadowed; labelled = and_from (are_labels (labels branches)) (are_labelled branches) (choice_labels (labels branches) b.0) k.labelled }

  all_fine : (above : List Edge) (bound : List (List ℕ)) (ts : Branches) → ((z : List ℕ) → list_any (bytes_eq z) bound ≡ list_any (binds z) above) → fault_at (branch_places above ts) ≡ None → AreFine bound ts
  all_fine above bound NoMore f h = record { closed = refl; guarded = refl; unshadowed = refl; labelled = refl }
  all_fine above bound (More label t others) f h =
      let split = first_of_both (places above t) (branch_places above others) in
      let b = both_none (fault_at (places above t)) (fault_at (branch_places above others)) (cc (split, h)) in
      let k = fine above bound t f b.0 in
      let l = all_fine above bound others f b.1 in
      grind (arith, and_from)

-- a type without a fault is fine
pub fine_so : (t : LocalType) → local_fault_of t ≡ None → IsFine [] t
fine_so t h = fine [] [] t (λ z. refl) (both_pass (size_tests t) (tests_at (places [] t)) h).1

-- and within the limits
pub limits_so : (t : LocalType) → local_fault_of t ≡ None → (node_count t ≤ 256) × (depth t ≤ 64)
limits_so t h = grind (arith, both_pass, nat_tests, false_where)
