-- Cells, deals and rows.
use Rattle.std.proofs.Common.{◌≡◌, ℕ, zero, suc, ◌+◌, ◌⊎◌, List, [], ◌∷◌, ◌++◌, Option, Some, None, ◌<◌, length, refl, sym, ap, ◌∙◌, subst, arith, ⊎_elim, inl, inr, length-append, Result, Ok, Err, IfOk}
use Rattle.std.specs.Prelude.{slice_get, get_or, All, IfSome}
use Rattle.std.proofs.lemmas.Option.{slice_get_within, slice_get-get_or, get_or_from_slice_get}
use Rattle.std.proofs.lemmas.List.Elements.{All-nil, All-push, All-get_or}
use Rattle.mps_local.specs.Local.{LocalType}
use Rattle.mps_session.specs.SessionState.{SessionState}
use Rattle.mps_room.specs.RoomState.{RoomState}
use Rattle.mps_cell.specs.Openings.{Opening, opening_of}
use Rattle.mps_cell.proofs.Dealing.{opened_blank}
use Rattle.mps_keeper.specs.declared.restored_room.RestoredRoom.{RestoredRoom}
use Rattle.mps_room.specs.declared.numbers.Numbers.{Numbers}
use Rattle.mps_cell.specs.Calls.{Known}
use Rattle.mps_cell.specs.Cells.{Opened, Closes, Dealt, IsDealOf, fresh, fresh_below, opened_with}
use Rattle.mps_hub.specs.Places.{IsOfCell}
use Rattle.mps_hub.specs.Private.Places.{AreNumbered, AtHome}
use Rattle.mps_hub.specs.Halls.{Hall, AreCellsAround, AreCellsOf, AreCellsWith, AreClosed, AreDeals, AreRoomsOf}

-- what stands in a list with one item more
pub get_push : {A : Type 0} (xs : List A) (y : A) (i : ℕ) (z : A) → slice_get (xs ++ y ∷ []) i ≡ Some z → (slice_get xs i ≡ Some z) ⊎ ((i ≡ length xs) × (y ≡ z))
get_push [] y zero z h = inr (refl, cc)
get_push [] y (suc i) z h = absurd cc
get_push (x ∷ xs) y zero z h = inl h
get_push (x ∷ xs) y (suc i) z h = ⊎_elim (λ (e : slice_get xs i ≡ Some z). inl e) (λ (e : (i ≡ length xs) × (y ≡ z)). inr (ap suc e.0, e.1)) (get_push xs y i z h)

get_more : {A : Type 0} (xs ys : List A) (i : ℕ) (z : A) → slice_get xs i ≡ Some z → slice_get (xs ++ ys) i ≡ Some z
get_more [] ys i z h = absurd cc
get_more (x ∷ xs) ys zero z h = h
get_more (x ∷ xs) ys (suc i) z h = get_more xs ys i z h

get_last : {A : Type 0} (xs : List A) (y : A) → slice_get (xs ++ y ∷ []) (length xs) ≡ Some y
get_last [] y = refl
get_last (x ∷ xs) y = get_last xs y

pub at_home_none : (o : Opened) (xs : List (Option Known)) → AtHome o xs → AtHome o (xs ++ None ∷ [])
at_home_none o xs h i k e =
    ⊎_elim (λ (old : slice_get xs i ≡ Some (Some k)). h i k old) (λ (new : (i ≡ length xs) × (None ≡ Some k)). let n = new.1 in absurd cc) (get_push xs None i (Some k) e)

-- what holds of each element by its place holds of all, and back
all_at : {A : Type 0} (P : A → Type 0) (xs : List A) → ((i : ℕ) (x : A) → slice_get xs i ≡ Some x → P x) → All P xs
all_at P xs h = λ i d less. h i (get_or xs i d) (slice_get-get_or xs i d less)

at_all : {A : Type 0} (P : A → Type 0) (xs : List A) (i : ℕ) (x : A) → All P xs → slice_get xs i ≡ Some x → P x
at_all P xs i x all at =
    let less = slice_get_within xs i x at in
    subst P (get_or_from_slice_get xs i x x at) (All-get_or P xs i x less all)

-- one room more, and its cell
pub around_push : (first : ℕ) (rooms : List RestoredRoom) (cells : List Opened) (r : RestoredRoom) (c : Opened) → AreCellsAround first rooms cells → c.opening ≡ opening_of r.room r.numbers.items (first + length cells)
    → AreCellsAround first (rooms ++ r ∷ []) (cells ++ c ∷ [])
around_push first rooms cells r c h is = record {
  count = omega (arith, length-append cells (c ∷ []), length-append rooms (r ∷ []), h.count);
  each = λ i o e.
      ⊎_elim
      (λ (old : slice_get cells i ≡ Some o). let was = h.each i o old in (was.0, get_more rooms (r ∷ []) i was.0 was.1, was.2))
      (λ (new : (i ≡ length cells) × (c ≡ o)). (
        r,
        subst (λ (n : ℕ). slice_get (rooms ++ r ∷ []) n ≡ Some r) (sym (new.0 ∙ h.count)) (get_last rooms r),
        ap (λ (x : Opened). x.opening) (sym new.1) ∙ is ∙ ap (λ (n : ℕ). opening_of r.room r.numbers.items (first + n)) (sym new.0),
      ))
      (get_push cells c i o e);
}

-- one session more, and its room
pub rooms_push : (names : List (List ℕ)) (sessions : List SessionState) (rooms : List RestoredRoom) (s : SessionState) (r : RestoredRoom) → AreRoomsOf names sessions rooms → r.room ≡ record { names = names; types = s.types; journal = [] }
    → All (λ (n : Numbers). n.newest ≡ None) r.numbers.items → AreRoomsOf names (sessions ++ s ∷ []) (rooms ++ r ∷ [])
rooms_push names sessions rooms s r h is none = record {
  count = omega (arith, length-append rooms (r ∷ []), length-append sessions (s ∷ []), h.count);
  each = λ i x e.
      ⊎_elim
      (λ (old : slice_get rooms i ≡ Some x). let was = h.each i x old in (was.0, get_more sessions (s ∷ []) i was.0 was.1, was.2, was.3))
      (λ (new : (i ≡ length rooms) × (r ≡ x)). (
        s,
        subst (λ (n : ℕ). slice_get (sessions ++ s ∷ []) n ≡ Some s) (sym (new.0 ∙ h.count)) (get_last sessions s),
        ap (λ (y : RestoredRoom). y.room) (sym new.1) ∙ is,
        subst (λ (y : RestoredRoom). All (λ (n : Numbers). n.newest ≡ None) y.numbers.items) new.1 none,
      ))
      (get_push rooms r i x e);
}

-- cells around new rooms are those of their sessions
pub cells_of_new : (names : List (List ℕ)) (first : ℕ) (sessions : List SessionState) (rooms : List RestoredRoom) (cells : List Opened) → AreRoomsOf names sessions rooms → AreCellsAround first rooms cells → AreCellsOf names first sessions cells
cells_of_new names first sessions rooms cells new around = record {
  count = around.count ∙ new.count;
  each = λ i o e. let cell = around.each i o e in let room = new.each i cell.0 cell.1 in (
    room.0,
    room.1,
    opened_blank names room.0.types (first + i) cell.0.room cell.0.numbers.items o.opening cell.2 room.2 room.3 (cell.0.each ∙ ap (λ (m : RoomState). length m.types) room.2),
  );
}

pub hub_of_new : {E : Type 0} (r : Result Hall E) (names : List (List ℕ)) (first : ℕ) (sessions : List SessionState) (rooms : List RestoredRoom) → AreRoomsOf names sessions rooms → IfOk r (λ (h : Hall). AreCellsAround first rooms h.cells) → IfOk r (λ (h : Hall). AreCellsOf names first sessions h.cells)
hub_of_new (Ok h) names first sessions rooms new around = cells_of_new names first sessions rooms h.cells new around
hub_of_new (Err e) names first sessions rooms new around = tt

-- new rooms have these names
pub new_rooms_named : (names : List (List ℕ)) (sessions : List SessionState) (rooms : List RestoredRoom) → AreRoomsOf names sessions rooms → All (λ (r : RestoredRoom). r.room.names ≡ names) rooms
new_rooms_named names sessions rooms new = all_at (λ (r : RestoredRoom). r.room.names ≡ names) rooms (λ i r e. ap (λ (m : RoomState). m.names) (new.each i r e).2)

-- a room that is the only one has the names of all
pub one_named : (names : List (List ℕ)) (rooms : List RestoredRoom) (r : RestoredRoom) → length rooms ≡ 1 → slice_get rooms 0 ≡ Some r → r.room.names ≡ names → All (λ (r : RestoredRoom). r.room.names ≡ names) rooms
one_named names rooms r one at is = all_at (λ (r : RestoredRoom). r.room.names ≡ names) rooms (at_first rooms one at)
  where
    at_first : (rooms : List RestoredRoom) → length rooms ≡ 1 → slice_get rooms 0 ≡ Some r → (i : ℕ) (x : RestoredRoom) → slice_get rooms i ≡ Some x → x.room.names ≡ names
    at_first (x ∷ []) one at zero y there = let same : r ≡ y = cc in subst (λ (m : RestoredRoom). m.room.names ≡ names) same is
    at_first (x ∷ []) one at (suc i) y there = absurd cc
    at_first [] one at i y there = absurd cc
    at_first (x ∷ y ∷ rest) one at i z there = absurd (omega (arith, one))

pub numbered : (names : List (List ℕ)) (first : ℕ) (rooms : List RestoredRoom) (cells : List Opened) → All (λ (r : RestoredRoom). r.room.names ≡ names) rooms → AreCellsAround first rooms cells → AreNumbered names first cells
numbered names first rooms cells named h i o e =
    let cell = h.each i o e in (ap (λ (x : Opening). x.names) cell.2 ∙ at_all (λ (r : RestoredRoom). r.room.names ≡ names) rooms i cell.0 named cell.1, ap (λ (x : Opening). x.session) cell.2)

-- cells of sessions that are all alike
pub all_alike : (names : List (List ℕ)) (types : List LocalType) (first n : ℕ) (sessions : List SessionState) (cells : List Opened) (m : SessionState) → All (λ (s : SessionState). s ≡ m) sessions → m.types ≡ types → length sessions ≡ n → AreCellsOf names first sessions cells → AreCellsWith names types first n cells
all_alike names types first n sessions cells m all is count h = record {
  count = h.count ∙ count;
  each = λ i o e. let was = h.each i o e in
      let alike : was.0 ≡ m = one_of sessions m i was.0 all was.1 in
      was.2 ∙ ap (λ (t : List LocalType). opened_with names t (first + i)) (ap (λ (s : SessionState). s.types) alike ∙ is);
}
  where
    one_of : (sessions : List SessionState) (m : SessionState) (i : ℕ) (s : SessionState) → All (λ (s : SessionState). s ≡ m) sessions → slice_get sessions i ≡ Some s → s ≡ m
    one_of sessions m i s all at =
        let less = slice_get_within sessions i s at in
        let read = slice_get-get_or sessions i s less in
        let same = All-get_or (λ (s : SessionState). s ≡ m) sessions i s less all in
        cc

pub deals_push : (cells : List Opened) (deals : List Dealt) (c : Opened) (d : Dealt) → AreDeals cells deals → IsDealOf c.cell c.opening d → AreDeals (cells ++ c ∷ []) (deals ++ d ∷ [])
deals_push cells deals c d h is = record {
  count = omega (arith, length-append cells (c ∷ []), length-append deals (d ∷ []), h.count);
  each = λ i o e at there.
      ⊎_elim
      (λ (old : slice_get cells i ≡ Some o).
      ⊎_elim
      (λ (was : slice_get deals i ≡ Some e). h.each i o e old was)
      (λ (new : (i ≡ length deals) × (d ≡ e)). let less = slice_get_within cells i o old in absurd (omega (arith, less, new.0, h.count)))
      (get_push deals d i e there))
      (λ (new : (i ≡ length cells) × (c ≡ o)).
      ⊎_elim
      (λ (was : slice_get deals i ≡ Some e). let less = slice_get_within deals i e was in absurd (omega (arith, less, new.0, h.count)))
      (λ (also : (i ≡ length deals) × (d ≡ e)). subst (λ (x : Opened × Dealt). IsDealOf x.0.cell x.0.opening x.1) (λ j. (new.1 j, also.1 j)) is)
      (get_push deals d i e there))
      (get_push cells c i o at);
}

-- one cell more, and what it closed with
pub closed_push : (cells : List Opened) (rooms : List (Option RoomState)) (c : Opened) (r : Option RoomState) → AreClosed cells rooms → ((m : RoomState) → r ≡ Some m → Closes c.opening m) → AreClosed (cells ++ c ∷ []) (rooms ++ r ∷ [])
closed_push cells rooms c r h is = record {
  count = omega (arith, length-append cells (c ∷ []), length-append rooms (r ∷ []), h.count);
  each = λ i o m at there.
      ⊎_elim
      (λ (old : slice_get cells i ≡ Some o).
      ⊎_elim
      (λ (was : slice_get rooms i ≡ Some (Some m)). h.each i o m old was)
      (λ (new : (i ≡ length rooms) × (r ≡ Some m)). let less = slice_get_within cells i o old in absurd (omega (arith, less, new.0, h.count)))
      (get_push rooms r i (Some m) there))
      (λ (new : (i ≡ length cells) × (c ≡ o)).
      ⊎_elim
      (λ (was : slice_get rooms i ≡ Some (Some m)). let less = slice_get_within rooms i (Some m) was in absurd (omega (arith, less, new.0, h.count)))
      (λ (also : (i ≡ length rooms) × (r ≡ Some m)). subst (λ (x : Opened). Closes x.opening m) new.1 (is m also.1))
      (get_push rooms r i (Some m) there))
      (get_push cells c i o at);
}

pub closed_where : (c : Opened) (r : Option RoomState) → IfSome r (λ (m : RoomState). Closes c.opening m) → (m : RoomState) → r ≡ Some m → Closes c.opening m
closed_where c (Some x) h m is = subst (λ (r : Option RoomState). IfSome r (λ (m : RoomState). Closes c.opening m)) is h
closed_where c None h m is = absurd cc

-- each fresh pass is of its cell
pub fresh_of_cell : (c : Opened) (n : ℕ) → All (IsOfCell c) (fresh_below c.cell c.opening n)
fresh_of_cell c zero = All-nil (IsOfCell c)
fresh_of_cell c (suc n) = All-push (IsOfCell c) (fresh_below c.cell c.opening n) (fresh c.cell c.opening n) (fresh_of_cell c n) (record { same_cell = refl; same_opening = refl })

-- the deal after these is of the cell at its place
pub next_deal : (cells : List Opened) (deals done rest : List Dealt) (d : Dealt) (place : ℕ) (o : Opened) → AreDeals cells deals → deals ≡ done ++ d ∷ rest → place ≡ length done → slice_get cells place ≡ Some o → IsDealOf o.cell o.opening d
next_deal cells deals done rest d place o h is at there = h.each place o d there (subst (λ (l : List Dealt). slice_get l place ≡ Some d) (sym is) (subst (λ (n : ℕ). slice_get (done ++ d ∷ rest) n ≡ Some d) (sym at) (get_next done rest d)))
  where
    get_next : (done rest : List Dealt) (d : Dealt) → slice_get (done ++ d ∷ rest) (length done) ≡ Some d
    get_next [] rest d = refl
    get_next (x ∷ done) rest d = get_next done rest d

-- there is a next cell where there is a next deal
pub next_cell : (cells : List Opened) (deals done rest : List Dealt) (d : Dealt) → AreDeals cells deals → deals ≡ done ++ d ∷ rest → length done < length cells
next_cell cells deals done rest d h is = omega (arith, h.count, ap (λ (l : List Dealt). length l) is, length-append done (d ∷ rest))
