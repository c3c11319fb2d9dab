-- Arrays that are being written.
use Rattle.std.proofs.Common.{◌≡◌, ℕ, suc, ◌+◌, ◌-◌, ◌<◌, Bool, true, false, List, [], ◌∷◌, ◌++◌, length, drop, drop-cons, add-one, map, replicate, Some, refl, sym, ap, ◌∙◌, arith, rules, append_assoc, append-nil, ⊎_elim, Vec, Global}
use Rattle.std.specs.Prelude.{slice_get, slice_index_or, slice_set, decimal, OnOk, Result}
use Rattle.std.specs.List.{flat_map, range_with_len, AllByRecursion}
use Rattle.std.proofs.lemmas.Bool.{cases_eq, ne_eqb}
use Rattle.std.proofs.lemmas.List.{map-append, get_or_default, get_or-set_same, get_or-set_other}
use Rattle.std.proofs.lemmas.Option.{slice_get_within, get_or_from_slice_get}
use Rattle.mps_base.specs.Spaced.{spaced}
use Rattle.mps_base.specs.declared.action.Step.{Step}
use Rattle.mps_local.specs.Local.{LocalType}
use Rattle.mps_session.specs.SessionState.{moved_from}
use Rattle.serde_json.specs.Data.{Data}
use Rattle.serde_json.specs.View.{view, items_of}
use Rattle.serde_json.specs.declared.value.Value.{Value, Array, the_lemmas}
use Rattle.serde_json.specs.Written.{comma_if, compact_text, items_text}
use Rattle.mps_show.specs.Plain.{ArePlainItems}
use Rattle.mps_show.specs.Shown.{row}
use Rattle.mps_show.specs.Private.Rows.{joined, behind, past_text, words_behind}

-- the numbers from q on
pub range_next : (q n : ℕ) → q < n → range_with_len q (n - q) ≡ q ∷ range_with_len (q + 1) (n - (q + 1))
range_next q n h = grind arith

-- with the bracket an array is written
pub closes : (later : Bool) (ds : List Data) → joined later ds ++ 93 ∷ [] ≡ items_text later (items_of ds)
closes later [] = refl
closes later (d ∷ ds) =
    append_assoc (comma_if later) (compact_text d ++ joined true ds) (93 ∷ [])
    ∙ ap (λ (l : List ℕ). comma_if later ++ l) (append_assoc (compact_text d) (joined true ds) (93 ∷ []) ∙ ap (λ (l : List ℕ). compact_text d ++ l) (closes true ds))

-- the text of a role's past, with brackets and without its first comma, is an array
pub past_array : (ds : List Data) → 91 ∷ (drop 1 (joined true ds) ++ 93 ∷ []) ≡ compact_text (row ds)
past_array [] = refl
past_array (d ∷ ds) = ap (λ (l : List ℕ). 91 ∷ l) (append_assoc (compact_text d) (joined true ds) (93 ∷ []) ∙ ap (λ (l : List ℕ). compact_text d ++ l) (closes true ds))

-- without steps nothing stands in a past
pub nothing_at : (n p : ℕ) → slice_index_or (replicate {A = List ℕ} n []) p [] ≡ []
nothing_at (suc n) (suc p) = nothing_at n p
nothing_at other others = refl

-- the number of one more step stands in its role's past
pub past_more : (pasts : List (List ℕ)) (new digits was : List ℕ) (i : ℕ) (s : Step) (left rest : List Step) (p : ℕ) → i ≡ s.role → i < length pasts → digits ≡ decimal s.id → new ≡ slice_index_or pasts i was ++ 44 ∷ digits → left ≡ s ∷ rest → slice_index_or (slice_set pasts i new) p [] ++ past_text p rest ≡ slice_index_or pasts p [] ++ past_text p left
past_more pasts new digits was i s left rest p of within is e split =
    let same = get_or_default pasts i was [] within in
    ⊎_elim
    (λ (own : i ≡ p). grind (arith, append_assoc, get_or-set_same pasts i new [] within))
    (λ (other : i ≡ p → ⊥). grind (arith, ne_eqb i p other, get_or-set_other pasts i p new [] (λ e. other (sym e))))
    (cases_eq i p)

pub joined-append : (later : Bool) (a b : List Data) → joined later (a ++ b) ≡ joined later a ++ joined (behind later a) b
joined-append later [] b = refl
joined-append later (d ∷ a) b =
    ap (λ (l : List ℕ). comma_if later ++ (compact_text d ++ l)) (joined-append true a b ∙ ap (λ (x : Bool). joined true a ++ joined x b) (behind_true a))
    ∙ ap (λ (l : List ℕ). comma_if later ++ l) (sym (append_assoc (compact_text d) (joined true a) (joined true b)))
    ∙ sym (append_assoc (comma_if later) (compact_text d ++ joined true a) (joined true b))
  where
    behind_true : (ds : List Data) → behind true ds ≡ true
    behind_true [] = refl
    behind_true (x ∷ ds) = refl

pub behind-append : (later : Bool) (a b : List Data) → behind later (a ++ b) ≡ behind (behind later a) b
behind-append later a b = grind arith

-- in front of others
pub items-append : (later : Bool) (a b : List Data) → items_text later (items_of (a ++ b)) ≡ joined later a ++ items_text (behind later a) (items_of b)
items-append later a b = cc (closes later (a ++ b), joined-append later a b, append_assoc (joined later a) (joined (behind later a) b) (93 ∷ []), closes (behind later a) b)

-- some more are written
pub more_joined : (old new whole : List ℕ) (now next : Bool) (a rest : List Data) → new ≡ old ++ joined now a → next ≡ behind now a → old ++ joined now (a ++ rest) ≡ whole → new ++ joined next rest ≡ whole
more_joined old new whole now next a rest e b h = grind (arith, append_assoc, joined-append)

pub more_items : (old new whole : List ℕ) (now next : Bool) (a rest : List Data) → new ≡ old ++ joined now a → next ≡ behind now a → old ++ items_text now (items_of (a ++ rest)) ≡ whole → new ++ items_text next (items_of rest) ≡ whole
more_items old new whole now next a rest e b h = grind (arith, append_assoc, items-append)

pub plain-append : (a b : List Data) → ArePlainItems (items_of a) → ArePlainItems (items_of b) → ArePlainItems (items_of (a ++ b))
plain-append [] b ha hb = hb
plain-append (d ∷ a) b ha hb = (ha.0, plain-append a b ha.1 hb)

-- the rows of q, and those of the numbers after it
pub flat_next : (f : ℕ → List Data) (q n : ℕ) → q < n → flat_map f (range_with_len q (n - q)) ≡ f q ++ flat_map f (range_with_len (q + 1) (n - (q + 1)))
flat_next f q n h = ap (flat_map f) (range_next q n h)

pub map_next : (f : ℕ → Data) (q n : ℕ) → q < n → map f (range_with_len q (n - q)) ≡ f q ∷ map f (range_with_len (q + 1) (n - (q + 1)))
map_next f q n h = ap (map f) (range_next q n h)

-- what is left from a place on
pub next_at : {A : Type 0} (xs : List A) (k : ℕ) (x : A) → slice_get xs k ≡ Some x → drop k xs ≡ x ∷ drop (k + 1) xs
next_at xs k x at =
    let within : k < length xs = slice_get_within xs k x at in
    drop-cons xs k x within ∙ ap (λ y. y ∷ drop (suc k) xs) (get_or_from_slice_get xs k x x at) ∙ ap (λ (j : ℕ). x ∷ drop j xs) (sym (add-one k))

-- a first word and those after it
pub spaced_words : (word : List ℕ) (words : List (List ℕ)) → spaced (word ∷ words) ≡ word ++ words_behind words
spaced_words word [] = sym (append-nil word)
spaced_words word (next ∷ words) = ap (λ (l : List ℕ). word ++ 32 ∷ l) (spaced_words next words)

pub all-append : {A : Type 0} (P : A → Type 0) (a b : List A) → AllByRecursion P a → AllByRecursion P b → AllByRecursion P (a ++ b)
all-append P [] b ha hb = hb
all-append P (x ∷ a) b ha hb = (ha.0, all-append P a b ha.1 hb)

pub on_ok : {T E P : Type 0} (r : Result T E) → P → OnOk r P
on_ok r p = grind arith

-- a text in front of the rest
pub then_more : (mid next new a rest : List ℕ) → next ≡ mid ++ a → new ≡ next ++ rest → new ≡ mid ++ (a ++ rest)
then_more mid next new a rest e h = h ∙ ap (λ (l : List ℕ). l ++ rest) e ∙ append_assoc mid a rest

-- a word and one after it are written, and more words follow
pub words_begin : (out word peer begun new bytes : List ℕ) (words : List (List ℕ)) → begun ≡ out ++ word → new ≡ begun ++ 32 ∷ bytes → bytes ≡ peer → new ++ words_behind words ≡ out ++ (word ++ 32 ∷ spaced (peer ∷ words))
words_begin out word peer begun new bytes words a b e = grind (arith, append_assoc, spaced_words)

-- one word more is written
pub word_more : (old new bytes word whole : List ℕ) (words rest : List (List ℕ)) → new ≡ old ++ 32 ∷ bytes → bytes ≡ word → words ≡ word ∷ rest → old ++ words_behind words ≡ whole → new ++ words_behind rest ≡ whole
word_more old new bytes word whole words rest a e split h = grind (arith, append_assoc)

-- one row more is written
pub row_more : (old comma new whole : List ℕ) (later next : Bool) (d : Data) (rows rest : List Data) → comma ≡ old ++ comma_if later → new ≡ comma ++ compact_text d → next ≡ true → rows ≡ d ∷ rest → old ++ items_text later (items_of rows) ≡ whole → new ++ items_text next (items_of rest) ≡ whole
row_more old comma new whole later next d rows rest a b t split h = grind (arith, append_assoc)

-- an array is begun
pub begins_row : (old new : List ℕ) (left all : List Data) → new ≡ old ++ 91 ∷ [] → left ≡ all → new ++ items_text false (items_of left) ≡ old ++ compact_text (row all)
begins_row old new left all e is = grind (arith, append_assoc)

-- an array shows its items
pub view_array : (v : Vec Value Global) → view (Array v) ≡ row (map view v.items)
view_array v = search (rules, the_lemmas)

-- one more row is made
pub one_more : (made new : List Value) (v : Value) (d : Data) (rows rest whole : List Data) → new ≡ made ++ v ∷ [] → view v ≡ d → rows ≡ d ∷ rest → map view made ++ rows ≡ whole → map view new ++ rest ≡ whole
one_more made new v d rows rest whole a e split h = grind (arith, map-append, append_assoc)

-- some more rows are made
pub more_rows : (made new rows rest all whole : List Data) → new ≡ made ++ rows → all ≡ rows ++ rest → made ++ all ≡ whole → new ++ rest ≡ whole
more_rows made new rows rest all whole a split h = grind (arith, append_assoc)

-- all rows are made
pub all_made : (rows : Vec Value Global) (left whole : List Data) → left ≡ [] → map view rows.items ++ left ≡ whole → view (Array rows) ≡ row whole
all_made rows left whole over h = grind (arith, view_array, append-nil)

-- the steps that moved these messages are the history
pub steps_moved : (types : List LocalType) (done h : List Step) → map (λ m. m.0) (moved_from types done h) ≡ h
steps_moved types done [] = refl
steps_moved types done (s ∷ h) = ap (λ (l : List Step). s ∷ l) (steps_moved types (done ++ s ∷ []) h)
