-- The lists of the roles: how they grow, and that they tell the news.
use Rattle.std.proofs.Common.{◌≡◌, ℕ, suc, ◌+◌, ◌<◌, ◌≤◌, Bool, true, false, List, [], ◌∷◌, ◌++◌, length, take, drop, refl, sym, ap, ◌∙◌, subst, arith, append_assoc, length-append, ⊎_elim}
use Rattle.std.specs.Prelude.{◌==◌, ◌&&◌, ◌||◌, not, if◌then◌else◌, slice_index_or}
use Rattle.std.specs.List.{list_any, filter, flat_map, AllByRecursion}
use Rattle.std.proofs.lemmas.Bool.{cases_Bool, cases_lt, ne_eqb}
use Rattle.std.proofs.lemmas.List.{length-take, take-append-drop, drop_all}
use mathlib.Core.Path.{fun_ext}
use Rattle.mps_command.specs.Changes.{command_of}
use Rattle.mps_command.specs.declared.answer.Answer.{Answer}
use Rattle.mps_command.specs.declared.answer.Answer.TheVariants.{Done as Stepped, Undone}
use Rattle.mps_command.specs.declared.command.Change.{Change}
use Rattle.mps_local.specs.Local.{LocalType}
use Rattle.mps_machine.specs.Machine.{State, serve}
use Rattle.mps_room.specs.Journal.{undone_by, gives, is_own, is_accepted, taken_back, news, FollowsOn}
use Rattle.mps_room.specs.Private.Heard.{hears_of, places_from, places, with_place, undone_at, takes_others, AreHeard}
use Rattle.mps_room.specs.Private.Owners.{owns, owners_after, AreOwners, AreGiven}
use Rattle.mps_room.specs.declared.entry.Entry.{Entry}
use Rattle.mps_room.proofs.Hearing.{all_along, all_push, known_stays, unheard, serve_ids, serve_history, serve_joined, own_stays, last_own}

-- ---- only the numbers that were taken back count

any_alike : (s t : ℕ → Bool) (ids : List ℕ) → AllByRecursion (λ n. s n ≡ t n) ids → list_any s ids ≡ list_any t ids
any_alike s t [] same = refl
any_alike s t (n ∷ ids) same = ap (λ (b : Bool). b || list_any s ids) same.0 ∙ ap (λ (b : Bool). t n || b) (any_alike s t ids same.1)

places_alike : (s t : ℕ → Bool) (p k : ℕ) (j : List Entry) → AllByRecursion (λ e. AllByRecursion (λ n. s n ≡ t n) (undone_by e.answer)) j → places_from s p k j ≡ places_from t p k j
places_alike s t p k [] same = refl
places_alike s t p k (e ∷ j) same =
    ap (λ (b : Bool). if not (e.role == p) && b then k ∷ places_from s p (suc k) j else places_from s p (suc k) j) (any_alike s t (undone_by e.answer) same.0)
    ∙ ap (λ (l : List ℕ). if hears_of t p e then k ∷ l else l) (places_alike s t p (suc k) j same.1)

-- ---- one entry more

place_last : (first last : Bool) (k at : ℕ) (l : List ℕ) → (if first then k ∷ with_place last at l else with_place last at l) ≡ with_place last at (if first then k ∷ l else l)
place_last first last k at l = grind arith

places_joined : (set : ℕ → Bool) (p k at : ℕ) (j : List Entry) (e : Entry) → at ≡ k + length j → places_from set p k (j ++ e ∷ []) ≡ with_place (hears_of set p e) at (places_from set p k j)
places_joined set p k at [] e here = let is : k ≡ at = omega arith in ap (λ (i : ℕ). if hears_of set p e then i ∷ [] else []) is
places_joined set p k at (f ∷ j) e here =
    ap (λ (l : List ℕ). if hears_of set p f then k ∷ l else l) (places_joined set p (suc k) at j e (omega arith))
    ∙ place_last (hears_of set p f) (hears_of set p e) k at (places_from set p (suc k) j)

module _ (types : List LocalType) (st : State) (j : List Entry) (p : ℕ) (change : Change) (owners : List ℕ) (are : AreOwners owners st.next j) (given : AreGiven owners st.history j) where
  abbrev entry_of : Answer → Entry
  entry_of a = record { role = p; command = command_of change; answer = a }

  abbrev one_more : Answer → List Entry
  one_more a = j ++ entry_of a ∷ []

  -- the surviving steps and their owners after the answer to a change
  pub given_with : (a : Answer) → a ≡ (serve types st p change).0 → is_accepted a ≡ true → AreGiven (owners_after owners p a) (serve types st p change).1.history (one_more a)
  given_with (Undone ids) is kept =
      record {
        surviving = serve_history (λ s. owns owners s.role s.id ≡ true) st given.surviving types p change ids is;
        undone = all_push (λ e. AllByRecursion (λ n. n ≤ length owners) (undone_by e.answer)) j (entry_of (Undone ids)) given.undone
            (subst (λ (b : Answer). AllByRecursion (λ n. n ≤ length owners) (undone_by b)) (sym is) (serve_ids owners st given.surviving types p change));
      }
  given_with other is kept = grind (arith, serve_joined, all_push, all_along, own_stays, last_own, length-append)

  -- a role's list, one entry later: whose steps the old entries took back doesn't change
  by_owners : (q : ℕ) (a : Answer) → a ≡ (serve types st p change).0 → is_accepted a ≡ true → places_from (owns (owners_after owners p a) q) q 0 (one_more a) ≡ with_place (hears_of (owns owners q) q (entry_of a)) (length j) (places_from (owns owners q) q 0 j)
  by_owners q (Stepped done) is kept =
      places_joined (owns (owners ++ p ∷ []) q) q 0 (length j) j (entry_of (Stepped done)) (omega arith)
      ∙ ap (with_place (hears_of (owns owners q) q (entry_of (Stepped done))) (length j))
      (grind (arith, places_alike, all_along, known_stays))
  by_owners q (Undone ids) is kept = places_joined (owns owners q) q 0 (length j) j (entry_of (Undone ids)) (omega arith)
  by_owners q other is kept = absurd cc

  module _ (a : Answer) (is : a ≡ (serve types st p change).0) (kept : is_accepted a ≡ true) (later : AreOwners (owners_after owners p a) (serve types st p change).1.next (one_more a)) where
    places_later : (q : ℕ) → places (one_more a) q ≡ with_place (hears_of (owns owners q) q (entry_of a)) (length j) (places j q)
    places_later q =
        ap (λ (set : ℕ → Bool). places_from set q 0 (one_more a)) (fun_ext (λ n. later.owned q n))
        ∙ by_owners q a is kept
        ∙ ap (λ (set : ℕ → Bool). with_place (hears_of (owns owners q) q (entry_of a)) (length j) (places_from set q 0 j)) (sym (fun_ext (λ n. are.owned q n)))

    unheard_entry : (q : ℕ) → takes_others (command_of change) ≡ false → hears_of (owns owners q) q (entry_of a) ≡ false
    unheard_entry q own = ap (λ (b : Answer). hears_of (owns owners q) q (entry_of b)) is ∙ unheard owners st given.surviving types p q change own

    -- the lists after the answer to a change
    pub heard_with : (count : ℕ) (lists new : List (List ℕ)) → AreHeard count lists j → length new ≡ 8
        → ((q : ℕ) → q < count → takes_others (command_of change) ≡ true → slice_index_or new q [] ≡ with_place (hears_of (owns owners q) q (entry_of a)) (length j) (slice_index_or lists q []))
        → (takes_others (command_of change) ≡ false → new ≡ lists)
        → AreHeard count new (one_more a)
    heard_with count lists new old each heard same = grind (arith, places_later, unheard_entry)

-- ---- the news

none_filtered : (set : ℕ → Bool) (ids : List ℕ) → list_any set ids ≡ false → filter set ids ≡ []
none_filtered set [] none = refl
none_filtered set (n ∷ ids) none =
    ⊎_elim
    (λ (y : set n ≡ true). absurd (let k : (true || list_any set ids) ≡ false = rw y at none in cc))
    (λ (o : set n ≡ false). let k : list_any set ids ≡ false = rw o at none in rw o (none_filtered set ids k))
    (cases_Bool (set n))

-- the numbers that are told of an entry, where its place is listed if it tells something
told_of : (own any : Bool) (k : ℕ) (rest : List ℕ) (at : ℕ → List ℕ) (mine : List ℕ) → at k ≡ mine → (any ≡ false → mine ≡ []) → flat_map at (if not own && any then k ∷ rest else rest) ≡ (if own then [] else mine) ++ flat_map at rest
told_of own any k rest at mine here none = grind arith

middle : (a : List Entry) (e : Entry) (j : List Entry) → undone_at (a ++ e ∷ j) (length a) ≡ undone_by e.answer
middle [] e j = refl
middle (f ∷ a) e j = middle a e j

-- the listed entries behind a journal's first ones tell what all entries behind these tell
listed_tell : (set : ℕ → Bool) (p : ℕ) (a j whole : List Entry) (k : ℕ) → whole ≡ a ++ j → k ≡ length a → flat_map (λ i. filter set (undone_at whole i)) (places_from set p k j) ≡ taken_back set p j
listed_tell set p a [] whole k is at = refl
listed_tell set p a (e ∷ j) whole k is at =
    told_of (e.role == p) (list_any set (undone_by e.answer)) k (places_from set p (suc k) j) (λ i. filter set (undone_at whole i)) (filter set (undone_by e.answer))
    (ap (filter set) (ap (λ (w : List Entry). undone_at w k) is ∙ ap (undone_at (a ++ e ∷ j)) at ∙ middle a e j))
    (none_filtered set (undone_by e.answer))
    ∙ ap (λ (l : List ℕ). (if e.role == p then [] else filter set (undone_by e.answer)) ++ l)
    (listed_tell set p (a ++ e ∷ []) j whole (suc k) (is ∙ sym (append_assoc a (e ∷ []) j)) (omega (arith, at, length-append a (e ∷ []))))

places_split : (set : ℕ → Bool) (p k at : ℕ) (a b : List Entry) → at ≡ k + length a → places_from set p k (a ++ b) ≡ places_from set p k a ++ places_from set p at b
places_split set p k at [] b here = let is : k ≡ at = omega arith in ap (λ (i : ℕ). places_from set p i b) is
places_split set p k at (e ∷ a) b here =
    ap (λ (l : List ℕ). if hears_of set p e then k ∷ l else l) (places_split set p (suc k) at a b (omega arith))
    ∙ place_first (hears_of set p e) k (places_from set p (suc k) a) (places_from set p at b)
  where
    place_first : (first : Bool) (k : ℕ) (l m : List ℕ) → (if first then k ∷ (l ++ m) else l ++ m) ≡ (if first then k ∷ l else l) ++ m
    place_first true k l m = refl
    place_first false k l m = refl

all_if : (P : ℕ → Type 0) (first : Bool) (k : ℕ) (l : List ℕ) → P k → AllByRecursion P l → AllByRecursion P (if first then k ∷ l else l)
all_if P first k l one all = grind arith

places_below : (set : ℕ → Bool) (p k n : ℕ) (j : List Entry) → k + length j ≤ n → AllByRecursion (λ i. i < n) (places_from set p k j)
places_below set p k n [] few = tt
places_below set p k n (e ∷ j) few = all_if (λ i. i < n) (hears_of set p e) k (places_from set p (suc k) j) (omega arith) (places_below set p (suc k) n j (omega arith))

places_above : (set : ℕ → Bool) (p k n : ℕ) (j : List Entry) → n ≤ k → AllByRecursion (λ i. n ≤ i) (places_from set p k j)
places_above set p k n [] more = tt
places_above set p k n (e ∷ j) more = all_if (λ i. n ≤ i) (hears_of set p e) k (places_from set p (suc k) j) more (places_above set p (suc k) n j (omega arith))

-- what is told of the entries that a role's list has behind the first n is its news
module _ (j : List Entry) (owners : List ℕ) (p n : ℕ) where
  in_first : 0 + length (take n j) ≤ n
  in_first = omega (arith, length-take n j)

  behind : AllByRecursion (λ i. n ≤ i) (places_from (owns owners p) p (length (take n j)) (drop n j))
  behind = grind (arith, cases_lt, places_above, length-take, drop_all)

  pub news_told : (heard late : List ℕ) → ((q m : ℕ) → is_own j q m ≡ owns owners q m) → heard ≡ places j p
      → ((a b : List ℕ) → heard ≡ a ++ b → AllByRecursion (λ k. k < n) a → AllByRecursion (λ k. n ≤ k) b → late ≡ b)
      → flat_map (λ k. filter (owns owners p) (undone_at j k)) late ≡ news j p n
  news_told heard late own listed after =
      let same : is_own j p ≡ owns owners p = fun_ext (λ m. own p m) in
      let split = take-append-drop n j in
      let is : heard ≡ places_from (owns owners p) p 0 (take n j) ++ places_from (owns owners p) p (length (take n j)) (drop n j) =
      grind (arith, places_split)
      in
      let told = after (places_from (owns owners p) p 0 (take n j)) (places_from (owns owners p) p (length (take n j)) (drop n j)) is
      (places_below (owns owners p) p 0 n (take n j) in_first) behind
      in
      cc (listed_tell (owns owners p) p (take n j) (drop n j) j (length (take n j)) (sym split) refl)

-- a role that there isn't hears of nothing
unowned : (names : List (List ℕ)) (types : List LocalType) (before j : List Entry) (p n : ℕ) → FollowsOn names types before j → length types ≤ p → is_own j p n ≡ false
unowned names types before [] p n each none = refl
unowned names types before (e ∷ j) p n each none =
    let known = each.0.known in
    ap (λ (b : Bool). (b && gives n e.answer) || is_own j p n) (ne_eqb e.role p (λ (q : e.role ≡ p). absurd (omega arith)))
    ∙ unowned names types (before ++ e ∷ []) j p n each.1 none

none_any : (set : ℕ → Bool) (ids : List ℕ) → ((n : ℕ) → set n ≡ false) → list_any set ids ≡ false
none_any set [] none = refl
none_any set (n ∷ ids) none = ap (λ (b : Bool). b || list_any set ids) (none n) ∙ none_any set ids none

none_listed : (set : ℕ → Bool) (p k : ℕ) (j : List Entry) → ((n : ℕ) → set n ≡ false) → places_from set p k j ≡ []
none_listed set p k [] none = refl
none_listed set p k (e ∷ j) none = grind (arith, none_any, none_listed set p (suc k) j none)

pub nobody : (names : List (List ℕ)) (types : List LocalType) (j : List Entry) (p : ℕ) → FollowsOn names types [] j → length types ≤ p → places j p ≡ []
nobody names types j p each none = none_listed (is_own j p) p 0 j (λ n. unowned names types [] j p n each none)
