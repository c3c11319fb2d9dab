-- Lists of parts and of entries.
use Rattle.std.proofs.Common.{◌≡◌, ◌≢◌, ℕ, zero, suc, ◌<◌, ◌≤◌, ◌==◌, Bool, List, [], ◌∷◌, ◌++◌, map, length, set, sym, refl, ap, ◌∙◌, subst, inl, inr, ◌⊎◌, ⊎_elim, arith, append_assoc, append-nil, length-append, ne_eqb, eq-eqb, if◌then◌else◌}
use mathlib.Core.Option as maybe
use lib.ListN.{get_elem?}
use Rattle.std.proofs.lemmas.Bool.{cases_eq}
use Rattle.atomic_table.proofs.Lists.{at_set, set_here, set_else, at_longer}
use Rattle.mps_room.specs.Callers.{entries_of}
use Rattle.mps_room.specs.Solos.{filter_end}
use Rattle.mps_room.specs.declared.entry.Entry.{Entry}
use Rattle.mps_cell.specs.Openings.{Opening, IsLegalIn}
use Rattle.mps_cell.specs.Views.{Part, SeatView, raised}
use Rattle.mps_cell.specs.Rule.{Shows, AllShow, AllHere, AllOther, AllApart, HasRole, RestsOn}
use Rattle.mps_cell.specs.Private.Rule.{Grows}

-- one entry of another role more
other_entry : (role : ℕ) (k : List Entry) (e : Entry) → e.role ≢ role → entries_of role (k ++ e ∷ []) ≡ entries_of role k
other_entry role k e differs = filter_end (λ (x : Entry). x.role == role) k e ∙ (ap (λ (b : Bool). entries_of role k ++ (if b then e ∷ [] else [])) (ne_eqb e.role role differs) ∙ append-nil (entries_of role k))

pub inside : {A : Type 0} (l : List A) (i : ℕ) (a : A) → get_elem? l i ≡ maybe.some a → i < length l
inside [] i a e = absurd (maybe.some-ne-none a (sym e))
inside (x ∷ xs) zero a e = omega arith
inside (x ∷ xs) (suc i) a e = let h = inside xs i a e in omega arith

pub at_end : {A : Type 0} (l : List A) (a b : A) (j : ℕ) → get_elem? (l ++ a ∷ []) j ≡ maybe.some b → (get_elem? l j ≡ maybe.some b) ⊎ ((j ≡ length l) × (a ≡ b))
at_end [] a b zero e = inr (refl, maybe.some-injective a b e)
at_end [] a b (suc j) e = absurd (maybe.some-ne-none b (sym e))
at_end (x ∷ xs) a b zero e = inl e
at_end (x ∷ xs) a b (suc j) e = ⊎_elim (λ h. inl h) (λ (h : (j ≡ length xs) × (a ≡ b)). inr (ap suc h.0, h.1)) (at_end xs a b j e)

pub seats_stay : (K : ℕ → SeatView → Type 0) (vs : List SeatView) (me : ℕ) (w : SeatView) → K me w → ((j : ℕ) (d : SeatView) → j ≢ me → get_elem? vs j ≡ maybe.some d → K j d)
    → (j : ℕ) (d : SeatView) → get_elem? (set vs me w) j ≡ maybe.some d → K j d
seats_stay K vs me w mine others j d e = grind (arith, get_elem?, at_set)

pub raise_all : (j : List Entry) (n : ℕ) (ps : List Part) → n ≤ length j → AllShow j ps → AllShow j (map (raised n) ps)
raise_all j n [] le a = tt
raise_all j n (p ∷ ps) le a = (record { legal = a.0.legal; begins = a.0.begins; reached = le; own = a.0.own; all_seen = a.0.all_seen }, raise_all j n ps le a.1)

pub raise_here : (o : Opening) (owner : ℕ → ℕ) (seat n : ℕ) (ps : List Part) → AllHere o owner seat ps → AllHere o owner seat (map (raised n) ps)
raise_here o owner seat n [] a = tt
raise_here o owner seat n (p ∷ ps) a = (a.0, raise_here o owner seat n ps a.1)

grow_show : (role : ℕ) (k j : List Entry) → Grows role k j → (p : Part) → IsLegalIn p.opening j → p.role ≢ role → Shows k p → Shows j p
grow_show role k j others p legal other s = grind (arith, append_assoc, length-append, other_entry)

pub grow_all : (o : Opening) (owner : ℕ → ℕ) (seat role : ℕ) (k j : List Entry) → Grows role k j → IsLegalIn o j → (ps : List Part) → AllHere o owner seat ps → AllOther role ps → AllShow k ps → AllShow j ps
grow_all o owner seat role k j g legal [] here other a = tt
grow_all o owner seat role k j g legal (p ∷ ps) here other a =
    (grow_show role k j g p (subst (λ (m : Opening). IsLegalIn m j) (sym here.0.0) legal) other.0 a.0, grow_all o owner seat role k j g legal ps here.1 other.1 a.1)

-- what rests on another seat is of another role
pub elsewhere : (o : Opening) (owner : ℕ → ℕ) (role id i : ℕ) → owner role ≡ id → i ≢ id → (ps : List Part) → AllHere o owner i ps → AllOther role ps
elsewhere o owner role id i is apart [] h = tt
elsewhere o owner role id i is apart (p ∷ ps) h = ((λ e. apart (sym h.0.1 ∙ (ap owner e ∙ is))), elsewhere o owner role id i is apart ps h.1)

abbrev pub moved : (ℕ → ℕ) → ℕ → ℕ → ℕ → ℕ
moved owner role to r = if r == role then to else owner r

pub moved_here : (owner : ℕ → ℕ) (role to : ℕ) → moved owner role to role ≡ to
moved_here owner role to = ap (λ (b : Bool). if b then to else owner role) (eq-eqb role role refl)

pub still_here : (o : Opening) (owner : ℕ → ℕ) (role to i : ℕ) (ps : List Part) → AllOther role ps → AllHere o owner i ps → AllHere o (moved owner role to) i ps
still_here o owner role to i [] other h = tt
still_here o owner role to i (p ∷ ps) other h = ((h.0.0, ap (λ (b : Bool). if b then to else owner p.role) (ne_eqb p.role role other.0) ∙ h.0.1), still_here o owner role to i ps other.1 h.1)

raise_other : (role n : ℕ) (ps : List Part) → AllOther role ps → AllOther role (map (raised n) ps)
raise_other role n [] a = tt
raise_other role n (p ∷ ps) a = (a.0, raise_other role n ps a.1)

pub raise_apart : (n : ℕ) (ps : List Part) → AllApart ps → AllApart (map (raised n) ps)
raise_apart n [] a = tt
raise_apart n (p ∷ ps) a = (raise_other p.role n ps a.0, raise_apart n ps a.1)

pub raise_has : (role n : ℕ) (ps : List Part) → HasRole role ps → HasRole role (map (raised n) ps)
raise_has role n [] h = h
raise_has role n (p ∷ ps) h = ⊎_elim (λ (e : p.role ≡ role). inl e) (λ (k : HasRole role ps). inr (raise_has role n ps k)) h

-- a seat's view changes: what rested on it still does, where its new parts are of no fewer roles
pub still_rests : (vs : List SeatView) (id : ℕ) (v w : SeatView) (role seat : ℕ) → get_elem? vs id ≡ maybe.some v → (HasRole role v.parts → HasRole role w.parts)
    → RestsOn vs role seat → RestsOn (set vs id w) role seat
still_rests vs id v w role seat at keeps r = grind (arith, get_elem?, set_here, inside, set_else, cases_eq)

-- one seat more
pub rests_longer : (vs : List SeatView) (w : SeatView) (role seat : ℕ) → RestsOn vs role seat → RestsOn (vs ++ w ∷ []) role seat
rests_longer vs w role seat r = record { view = r.view; there = at_longer vs (w ∷ []) seat r.view r.there; has = r.has }

-- the other roles stay where they rested
pub rests_moved : (vs : List SeatView) (owner : ℕ → ℕ) (role to r : ℕ) → (r ≡ role → RestsOn vs r to) → (r ≢ role → RestsOn vs r (owner r)) → RestsOn vs r (moved owner role to r)
rests_moved vs owner role to r here others = grind (arith, eq-eqb, ne_eqb, cases_eq)

-- of the others of these parts
pub has_other : (p : Part) (ps : List Part) (role : ℕ) → role ≢ p.role → HasRole role (p ∷ ps) → HasRole role ps
has_other p ps role other h = ⊎_elim (λ (e : p.role ≡ role). absurd (other (sym e))) (λ (k : HasRole role ps). k) h
