-- Each step keeps the rule.
use Rattle.std.proofs.Common.{◌≡◌, ◌≢◌, ℕ, zero, suc, ◌+◌, ◌*◌, ◌/◌, ◌%◌, ◌<◌, ◌≤◌, ◌==◌, Bool, false, List, [], ◌∷◌, ◌++◌, length, set, get_or, sym, refl, ap, ◌∙◌, subst, ⊎_elim, inl, inr, arith, Option, Some, None, length-set, length-append, ne_eqb, eq-eqb, if◌then◌else◌, le_refl, append_assoc}
use Rattle.std.proofs.lemmas.List.{append-nil}
use Rattle.std.proofs.lemmas.Bool.{eqb-true, cases_eq}
use mathlib.Core.Option as maybe
use lib.ListN.{get_elem?}
use Rattle.atomic_table.specs.Table.{State, Me, Act, Valid, carried_after, keeps, takes, gives, step, stepped, Allows, Splits, Joins, opening}
use Rattle.atomic_table.proofs.Lists.{exchanged, set_else, set_here, at_last}
use Rattle.mps_room.specs.RoomState.{RoomState}
use Rattle.mps_room.specs.Journal.{IsLegal}
use Rattle.mps_room.specs.declared.entry.Entry.{Entry}
use Rattle.mps_room.specs.declared.numbers.Numbers.{Numbers}
use Rattle.mps_cell.specs.Openings.{Opening, opening_of, room_of, IsLegalIn}
use Rattle.mps_cell.specs.Views.{Part, SeatView, fresh_parts, first_view, part_of, looked, took, gave, without_first_part, first_part_alone, without_first, first_alone, spent}
use Rattle.mps_cell.specs.Rule.{IsJournaled, StartsWith, Rests, AllShow, AllHere, AllOther, AllApart, HasRole, RestsOn, noted_by, word_of, home_of, resting, ShowsLength, Looks, Tries, Gives}
use Rattle.mps_cell.specs.Private.Rule.{with_room, Grows}
use Rattle.mps_cell.proofs.Lists.{inside, at_end, seats_stay, raise_all, raise_here, raise_apart, raise_has, grow_all, elsewhere, moved, moved_here, still_here, still_rests, rests_longer, rests_moved, has_other}

abbrev St : Type 0
St = State RoomState SeatView

abbrev M : Type 0
M = Me RoomState SeatView

home_at_even : (a : Option ℕ) (j : List Entry) → word_of a j % 2 ≡ 0 → a ≡ None
home_at_even a j e = grind arith

word_is : (o : Opening) (s : St) (r : IsJournaled o s) → get_or s.words 0 0 ≡ word_of r.away r.journal
word_is o s r = ap (λ ws. get_or ws 0 0) r.words

-- what a seat is told of the journal
told : (o : Opening) (s : St) (r : IsJournaled o s) (id : ℕ) (v : SeatView) → get_elem? s.views id ≡ maybe.some v → ShowsLength v (get_or s.words 0 0) r.journal
told o s r id v at = grind arith

-- a step that looks, and changes no word
unmoved : (o : Opening) (s : St) (r : IsJournaled o s) (id : ℕ) (me : M) (b : Bool) → get_elem? s.views id ≡ maybe.some me.0
    → IsJournaled o (stepped s 0 (get_or s.words 0 0) id me.1 (looked (get_or s.words 0 0) b me.0) keeps)
unmoved o s r id me b at = let n : ℕ = get_or s.words 0 0 in let mine = r.seats id me.0 at in let t : n / 2 ≡ length r.journal = sym (told o s r id me.0 at).0 in record {
  journal = r.journal;
  away = r.away;
  owner = r.owner;
  legal = r.legal;
  begins = r.begins;
  words = ap (λ ws. set ws 0 (get_or ws 0 0)) r.words;
  homes = r.homes;
  placed = λ t e. let p = r.placed t e in omega (arith, length-set s.views id (looked n b me.0));
  seats = seats_stay (Rests o r.journal r.away r.owner) s.views id (looked n b me.0) record {
    shows = raise_all r.journal (n / 2) me.0.parts (omega arith) mine.shows;
    here = raise_here o r.owner id (n / 2) me.0.parts mine.here;
    apart = raise_apart (n / 2) me.0.parts mine.apart;
    noted = mine.noted;
  } (λ j d _. r.seats j d);
  rests = λ role some. still_rests s.views id me.0 (looked n b me.0) role (r.owner role) at (raise_has role (n / 2) me.0.parts) (r.rests role some);
}

pub looks : (o : Opening) (slots id : ℕ) (me : M) → Allows (IsJournaled o) slots id me 0 (λ n. n) (Looks (step slots 0 0 0 maybe.none) me)
looks o slots id me s r _ at _ = let n : ℕ = get_or s.words 0 0 in
    (looked n (n % 2 == 1) me.0, keeps, tt, unmoved o s r id me (n % 2 == 1) at, ((r.journal, told o s r id me.0 at), refl))

noted_else : (t i : ℕ) (j : List Entry) → i ≢ t → noted_by (Some t) i j ≡ None
noted_else t i j apart = ap (λ (b : Bool). if b then Some j else None) (ne_eqb t i (λ e. apart (sym e)))

noted_here : (t : ℕ) (j : List Entry) → noted_by (Some t) t j ≡ Some j
noted_here t j = ap (λ (b : Bool). if b then Some j else None) (eq-eqb t t refl)

pub tries : (o : Opening) (slots id : ℕ) (me : M) (p : Part) (ps : List Part) (old new : ℕ) → me.0.parts ≡ p ∷ ps → old % 2 ≡ 0 → new ≡ old + 1
    → Allows (IsJournaled o) slots id me 0 (λ n. if n == old then new else n) (Tries (step slots 0 old new maybe.none) me)
tries o slots id me p ps old new some_part even next s r _ at _ = let n : ℕ = get_or s.words 0 0 in let late : Bool = old == 2 * (part_of me.0.parts).reported in let mine = r.seats id me.0 at in
    let F : ℕ → Type 0 = λ k. (w : SeatView) × (a : Act RoomState) × Valid s.homes me.1 a × IsJournaled o (stepped s 0 k id me.1 w a)
    × Tries (step slots 0 old new maybe.none) me n (w, carried_after me.1 a) in
    exchanged n old new F
    (λ hit. let w : SeatView = took r.journal me.0 in let y : RoomState = room_of (part_of me.0.parts).opening r.journal in
    let here : AllHere o r.owner id (p ∷ ps) = subst (AllHere o r.owner id) some_part mine.here in
    let opening : (part_of me.0.parts).opening ≡ o = ap (λ l. (part_of l).opening) some_part ∙ here.0.0 in
    let out : r.away ≡ None = home_at_even r.away r.journal (ap (λ (k : ℕ). k % 2) (sym (word_is o s r) ∙ hit) ∙ even) in
    let homes : s.homes ≡ maybe.some (room_of o r.journal) ∷ [] = r.homes ∙ ap (λ (a : Option ℕ). home_of o a r.journal ∷ []) out in
    let word : n ≡ 2 * length r.journal = word_is o s r ∙ ap (λ (a : Option ℕ). word_of a r.journal) out in (
      w,
      takes 0 y,
      ap (λ (hs : List (maybe.Option RoomState)). get_elem? hs 0) homes ∙ ap (λ (m : Opening). maybe.some (maybe.some (room_of m r.journal))) (sym opening),
      record {
        journal = r.journal;
        away = Some id;
        owner = r.owner;
        legal = r.legal;
        begins = r.begins;
        words = ap (λ (ws : List ℕ). set ws 0 new) r.words ∙ ap (λ (k : ℕ). k ∷ []) (let z : new ≡ 2 * length r.journal + 1 = omega arith in z);
        homes = ap (λ (hs : List (maybe.Option RoomState)). set hs 0 maybe.none) homes;
        placed = λ t e. let i = inside s.views id me.0 at in let same : id ≡ t = cc in omega (arith, length-set s.views id w);
        seats = seats_stay (Rests o r.journal (Some id) r.owner) s.views id w record {
          shows = mine.shows;
          here = mine.here;
          apart = mine.apart;
          noted = sym (noted_here id r.journal);
        } (grind (arith, noted_else));
        rests = λ role some. still_rests s.views id me.0 w role (r.owner role) at (λ h. h) (r.rests role some);
      },
      ((λ _. (r.journal, told o s r id me.0 at, refl)), λ differs. absurd (differs hit)),
    ))
    (grind (arith, unmoved o s r id me late, told o s r id me.0))

noted_is : (a : Option ℕ) (i : ℕ) (k j : List Entry) → Some k ≡ noted_by a i j → (a ≡ Some i) × (k ≡ j)
noted_is a i k j e = grind (arith, eqb-true)

-- a journal that grew begins as it did
grows_on : (role : ℕ) (k j begun : List Entry) → Grows role k j → StartsWith k begun → StartsWith j begun
grows_on role k j begun (inl same) h = subst (λ (l : List Entry). StartsWith l begun) (sym same) h
grows_on role k j begun (inr more) h =
    (h.0 ++ more.0 ∷ [], more.2 ∙ (ap (λ (l : List Entry). l ++ more.0 ∷ []) h.1 ∙ append_assoc begun h.0 (more.0 ∷ [])))

pub gives_back : (o : Opening) (slots id : ℕ) (p : Part) (k j : List Entry) (new : ℕ) → Grows p.role k j → IsLegalIn p.opening j → new ≡ 2 * length j
    → Allows (IsJournaled o) slots id (with_room p k (room_of p.opening j)) 0 (λ _. new) (λ _. Gives (step slots 0 new 0 maybe.none) (with_room p k (room_of p.opening j)) new)
gives_back o slots id p k j new grows legal is s r _ at _ =
    let v : SeatView = (with_room p k (room_of p.opening j)).0 in let w : SeatView = gave j v in let mine = r.seats id v at in
    let was = noted_is r.away id k r.journal mine.noted in let opening : p.opening ≡ o = mine.here.0.0 in
    let now : IsLegalIn o j = subst (λ (m : Opening). IsLegalIn m j) opening legal in (
      w,
      gives,
      tt,
      record {
        journal = j;
        away = None;
        owner = r.owner;
        legal = now;
        begins = grows_on p.role r.journal j o.begun (subst (λ (l : List Entry). Grows p.role l j) was.1 grows) r.begins;
        words = ap (λ (ws : List ℕ). set ws 0 new) r.words ∙ ap (λ (n : ℕ). n ∷ []) is;
        homes = ap (λ (hs : List (maybe.Option RoomState)). set hs 0 (maybe.some (room_of p.opening j))) r.homes ∙ ap (λ (m : Opening). maybe.some (room_of m j) ∷ []) opening;
        placed = λ t e. absurd cc;
        seats = seats_stay (Rests o j None r.owner) s.views id w record {
          shows = (record { legal = legal; begins = ([], sym (append-nil j)); reached = le_refl (length j); own = refl; all_seen = refl }, tt);
          here = mine.here;
          apart = mine.apart;
          noted = refl;
        } (λ i d other there. let old = r.seats i d there in record {
          shows = grow_all o r.owner i p.role k j grows now d.parts old.here (elsewhere o r.owner p.role id i mine.here.0.1 other d.parts old.here) (subst (λ (l : List Entry). AllShow l d.parts) (sym was.1) old.shows);
          here = old.here;
          apart = old.apart;
          noted = old.noted ∙ (ap (λ (a : Option ℕ). noted_by a i r.journal) was.0 ∙ noted_else id i r.journal other);
        });
        rests = λ role some. still_rests s.views id v w role (r.owner role) at (λ h. h) (r.rests role some);
      },
      refl,
    )

unnoted : (a : Option ℕ) (n : ℕ) (j : List Entry) → ((t : ℕ) → a ≡ Some t → t < n) → noted_by a n j ≡ None
unnoted None n j below = refl
unnoted (Some t) n j below = let h = below t refl in noted_else t n j (λ e. omega arith)

abbrev pub pair : Part → Part → Bool → M
pair p q b = (record { parts = p ∷ q ∷ []; noted = None; was_out = b }, [])

-- a role that rested on the seat id moves to the seat `to`, and the other seats stay
others_stay : (o : Opening) (j : List Entry) (away : Option ℕ) (owner : ℕ → ℕ) (role to id : ℕ) → owner role ≡ id → (i : ℕ) (x : SeatView) → i ≢ id → Rests o j away owner i x → Rests o j away (moved owner role to) i x
others_stay o j away owner role to id is i x differs r = grind (arith, still_here, elsewhere)

pub deals : (o : Opening) (id : ℕ) (v : SeatView) (p : Part) (ps : List Part) → v.parts ≡ p ∷ ps → Splits (IsJournaled o) id v (without_first v) (first_alone v)
deals o id v p ps is s r at =
    let mine = r.seats id v at in let n : ℕ = length s.views in let left : SeatView = without_first v in let right : SeatView = first_alone v in let vs : List SeatView = set s.views id left in
    let n_is : length vs ≡ n = length-set s.views id left in
    let to : ℕ → ℕ = moved r.owner p.role n in let K : ℕ → SeatView → Type 0 = Rests o r.journal r.away to in
    let shown : AllShow r.journal (p ∷ ps) = subst (AllShow r.journal) is mine.shows in let here : AllHere o r.owner id (p ∷ ps) = subst (AllHere o r.owner id) is mine.here in
    let apart : AllApart (p ∷ ps) = subst AllApart is mine.apart in
    let lefts : left.parts ≡ ps = ap without_first_part is in let rights : right.parts ≡ p ∷ [] = ap first_part_alone is in
    let new : K n right = grind (arith, moved_here, unnoted) in record {
      journal = r.journal;
      away = r.away;
      owner = to;
      legal = r.legal;
      begins = r.begins;
      words = r.words;
      homes = r.homes;
      placed = λ t e. let h = r.placed t e in omega (arith, n_is, length-append vs (right ∷ []));
      seats = λ j d e. ⊎_elim
          (λ there. seats_stay K s.views id left record {
            shows = subst (AllShow r.journal) (sym lefts) shown.1;
            here = subst (AllHere o to id) (sym lefts) (still_here o r.owner p.role n id ps apart.0 here.1);
            apart = subst AllApart (sym lefts) apart.1;
            noted = mine.noted;
          } (λ i x differs at_i. others_stay o r.journal r.away r.owner p.role n id here.0.1 i x differs (r.seats i x at_i)) j d there)
          (λ (last : (j ≡ length vs) × (right ≡ d)). subst (λ (x : ℕ × SeatView). K x.0 x.1) (λ i. (sym (last.0 ∙ n_is) i, last.1 i)) new)
          (at_end vs right d j e);
      rests = λ role some. rests_moved (vs ++ right ∷ []) r.owner p.role n role
          (λ same. record { view = right; there = at_last vs right n n_is; has = subst (HasRole role) (sym rights) (inl (sym same)) })
          (λ other. rests_longer vs right role (r.owner role) (grind (arith, still_rests, has_other)));
    }

-- a seat with two parts keeps the first
pub divides : (o : Opening) (id : ℕ) (p q : Part) (b : Bool) → Splits (IsJournaled o) id (pair p q b).0 (resting p b).0 (resting q false).0
divides o id p q b s r at =
    let v : SeatView = (pair p q b).0 in let mine = r.seats id v at in let n : ℕ = length s.views in let left : SeatView = (resting p b).0 in let right : SeatView = (resting q false).0 in let vs : List SeatView = set s.views id left in
    let n_is : length vs ≡ n = length-set s.views id left in
    let to : ℕ → ℕ = moved r.owner q.role n in let K : ℕ → SeatView → Type 0 = Rests o r.journal r.away to in
    let differs : p.role ≢ q.role = λ e. mine.apart.0.0 (sym e) in
    let new : K n right = grind (arith, moved_here, unnoted) in record {
      journal = r.journal;
      away = r.away;
      owner = to;
      legal = r.legal;
      begins = r.begins;
      words = r.words;
      homes = r.homes;
      placed = λ t e. let h = r.placed t e in omega (arith, n_is, length-append vs (right ∷ []));
      seats = λ j d e. ⊎_elim
          (λ there. seats_stay K s.views id left record {
            shows = (mine.shows.0, tt);
            here = still_here o r.owner q.role n id (p ∷ []) (differs, tt) (mine.here.0, tt);
            apart = (tt, tt);
            noted = mine.noted;
          } (λ i x other at_i. others_stay o r.journal r.away r.owner q.role n id mine.here.1.0.1 i x other (r.seats i x at_i)) j d there)
          (λ (last : (j ≡ length vs) × (right ≡ d)). subst (λ (x : ℕ × SeatView). K x.0 x.1) (λ i. (sym (last.0 ∙ n_is) i, last.1 i)) new)
          (at_end vs right d j e);
      rests = λ role some. rests_moved (vs ++ right ∷ []) r.owner q.role n role
          (λ same. record { view = right; there = at_last vs right n n_is; has = inl (sym same) })
          (λ other. rests_longer vs right role (r.owner role) (grind (arith, still_rests, has_other)));
    }

-- a seat with one part takes in another's
pub gathers : (o : Opening) (id other : ℕ) (p q : Part) (b b' : Bool) → Joins (IsJournaled o) id (resting p b).0 other (resting q b').0 (pair p q b).0 spent
gathers o id other p q b b' s r at apart at' =
    let both : SeatView = (pair p q b).0 in let vs : List SeatView = set s.views id both in
    let there : get_elem? s.views other ≡ maybe.some (resting q b').0 = sym (set_else s.views id other both apart) ∙ at' in
    let mine = r.seats id (resting p b).0 at in let its = r.seats other (resting q b').0 there in
    let to : ℕ → ℕ = moved r.owner q.role id in let K : ℕ → SeatView → Type 0 = Rests o r.journal r.away to in
    let differs : p.role ≢ q.role = λ e. apart (sym its.here.0.1 ∙ (sym (ap r.owner e) ∙ mine.here.0.1)) in record {
      journal = r.journal;
      away = r.away;
      owner = to;
      legal = r.legal;
      begins = r.begins;
      words = r.words;
      homes = r.homes;
      placed = λ t e. let h = r.placed t e in omega (arith, length-set s.views id both, length-set vs other spent);
      seats = seats_stay K vs other spent record { shows = tt; here = tt; apart = tt; noted = its.noted }
          (λ j d not_other at_j. seats_stay (λ i x. i ≢ other → K i x) s.views id both
          (grind (arith, ne_eqb, moved_here))
          (λ i x _ at_i away. others_stay o r.journal r.away r.owner q.role id other its.here.0.1 i x away (r.seats i x at_i)) j d at_j not_other);
      rests = λ role some.
          let here : get_elem? vs id ≡ maybe.some both = set_here s.views id both (inside s.views id (resting p b).0 at) in
          let first : RestsOn vs role (r.owner role) = grind (arith, still_rests) in
          rests_moved (set vs other spent) r.owner q.role id role
          (λ same. record { view = both; there = set_else vs other id spent (λ e. apart (sym e)) ∙ here; has = inr (inl (sym same)) })
          (grind (arith, still_rests, has_other));
    }

newcomers_show : (o : Opening) → IsLegalIn o o.begun → (role n : ℕ) → AllShow o.begun (fresh_parts o role n)
newcomers_show o legal role zero = tt
newcomers_show o legal role (suc n) =
    (record { legal = legal; begins = ([], sym (append-nil o.begun)); reached = le_refl (length o.begun); own = refl; all_seen = refl }, newcomers_show o legal (role + 1) n)

newcomers_here : (o : Opening) (role n : ℕ) → AllHere o (λ _. 0) 0 (fresh_parts o role n)
newcomers_here o role zero = tt
newcomers_here o role (suc n) = ((refl, refl), newcomers_here o (role + 1) n)

newcomers_other : (o : Opening) (role from n : ℕ) → role < from → AllOther role (fresh_parts o from n)
newcomers_other o role from zero h = tt
newcomers_other o role from (suc n) h = ((λ e. omega arith), newcomers_other o role (from + 1) n (omega arith))

newcomers_apart : (o : Opening) (role n : ℕ) → AllApart (fresh_parts o role n)
newcomers_apart o role zero = tt
newcomers_apart o role (suc n) = (newcomers_other o role (role + 1) n (omega arith), newcomers_apart o (role + 1) n)

newcomers_have : (o : Opening) (role from n : ℕ) → from ≤ role → role < from + n → HasRole role (fresh_parts o from n)
newcomers_have o role from zero low high = absurd (omega arith)
newcomers_have o role from (suc n) low high =
    ⊎_elim (λ (same : role ≡ from). inl (sym same)) (λ (other : role ≡ from → ⊥). inr (newcomers_have o role (from + 1) n (omega arith) (omega arith))) (cases_eq role from)

first_rests : (o : Opening) → IsLegalIn o o.begun → (seat : ℕ) (v : SeatView) → get_elem? (first_view o ∷ []) seat ≡ maybe.some v → Rests o o.begun None (λ _. 0) seat v
first_rests o legal seat v e = grind (arith, newcomers_show, newcomers_here, newcomers_apart)

pub opens : (o : Opening) → IsLegalIn o o.begun → IsJournaled o (opening (2 * length o.begun ∷ []) (room_of o o.begun ∷ []) (first_view o))
opens o legal = record {
  journal = o.begun;
  away = None;
  owner = λ _. 0;
  legal = legal;
  begins = ([], sym (append-nil o.begun));
  words = refl;
  homes = refl;
  placed = λ t e. absurd cc;
  seats = first_rests o legal;
  rests = λ role some. record { view = first_view o; there = refl; has = newcomers_have o role 0 (length o.types) (omega arith) (omega arith) };
}

pub opens_with : (m x : RoomState) (numbers : List Numbers) (n count : ℕ) (items rest : List RoomState) → IsLegal m.names m.types m.journal → count ≡ length m.journal → x ≡ m → items ≡ rest ++ m ∷ [] → rest ≡ []
    → IsJournaled (opening_of x numbers n) (opening (2 * count ∷ []) items (first_view (opening_of x numbers n)))
opens_with m x numbers n count items rest legal counted is now none_else = grind (arith, opens (opening_of m numbers n) legal)
