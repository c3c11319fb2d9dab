-- Where a role takes no part, and what its projections are like.
use Rattle.std.proofs.Common.{arith, ◌≡◌, ℕ, Bool, true, false, List, [], ◌∷◌, cond, Some, refl, sym, ap, ◌∙◌, subst}
use Rattle.std.specs.Prelude.{◌||◌, ◌==◌}
use Rattle.std.specs.List.{AllByRecursion, list_any}
use Rattle.std.specs.Option.{option_map}
use Rattle.std.specs.Str.{bytes_eq}
use Rattle.std.proofs.lemmas.Bool.{cases_Bool, and_parts, and_from}
use Rattle.mps_base.specs.declared.value.Sort.{Sort}
use Rattle.mps_global.specs.Global as global
use Rattle.mps_global.specs.Global.{GlobalType}
use Rattle.mps_local.specs.Local.{LocalType, Branches, End, Rec, Send, Recv, Select, Branch, More, NoMore}
use Rattle.mps_local.specs.Actions.{nexts}
use Rattle.mps_local.specs.Loops.{ends_in}
use Rattle.mps_local.specs.Merged.{merged}
use Rattle.mps_local.specs.Projection.{place_of, occurs, occurs_in, is_closed, are_closed, is_idle, with_message, with_choice, projection, projections}
use Rattle.mps_local.specs.declared.merging.Merging.{Merging}
use Rattle.mps_local.proofs.Merged.{merged_ends}
use Rattle.mps_local.proofs.Unmerged.{map_some, and_then_some}

-- the parts of a projection
pub data RecParts (merging : Merging) (roles : List (List ℕ)) (role : ℕ) (name : List ℕ) (body : GlobalType) (t : LocalType) : Type 0 where
  idle : is_idle roles role name body ≡ true → t ≡ End → RecParts merging roles role name body t
  busy : is_idle roles role name body ≡ false → (u : LocalType) → projection merging roles role body ≡ Some u → t ≡ Rec name u → RecParts merging roles role name body t

pub rec_parts : (merging : Merging) (roles : List (List ℕ)) (role : ℕ) (name : List ℕ) (body : GlobalType) (t : LocalType) → projection merging roles role (global.Rec name body) ≡ Some t → RecParts merging roles role name body t
rec_parts merging roles role name body t e = by_test (is_idle roles role name body) refl e
  where
    by_test : (b : Bool) → is_idle roles role name body ≡ b → cond b (Some End) (option_map (Rec name) (projection merging roles role body)) ≡ Some t → RecParts merging roles role name body t
    by_test true f g = idle f (let k : t ≡ End = cc in k)
    by_test false f g = let k = map_some (Rec name) (projection merging roles role body) t g in busy f k.0 k.1 (sym k.2)

pub more_parts : (merging : Merging) (roles : List (List ℕ)) (role : ℕ) (label : List ℕ) (next : GlobalType) (others : global.Branches) (ts : Branches) → projections merging roles role (global.More label next others) ≡ Some ts → (u : LocalType) × (us : Branches) × (projection merging roles role next ≡ Some u) × (projections merging roles role others ≡ Some us) × (ts ≡ More label u us)
more_parts merging roles role label next others ts e = grind (arith, and_then_some)

-- more variables are bound
pub or_more : (a b c : Bool) → (b ≡ true → c ≡ true) → (a || b) ≡ true → (a || c) ≡ true
or_more a b c f e = grind arith

mutual
  pub closed_in_more : (some more : List (List ℕ)) → ((z : List ℕ) → list_any (bytes_eq z) some ≡ true → list_any (bytes_eq z) more ≡ true) → (tree : GlobalType) → is_closed some tree ≡ true → is_closed more tree ≡ true
  closed_in_more some more f global.End e = refl
  closed_in_more some more f (global.Var name) e = f name e
  closed_in_more some more f (global.Rec name body) e =
      closed_in_more (name ∷ some) (name ∷ more) (λ z h. or_more (bytes_eq z name) (list_any (bytes_eq z) some) (list_any (bytes_eq z) more) (f z) h) body e
  closed_in_more some more f (global.Message sender receiver sort next) e = closed_in_more some more f next e
  closed_in_more some more f (global.Choice sender receiver branches) e = are_closed_in_more some more f branches e

  are_closed_in_more : (some more : List (List ℕ)) → ((z : List ℕ) → list_any (bytes_eq z) some ≡ true → list_any (bytes_eq z) more ≡ true) → (branches : global.Branches) → are_closed some branches ≡ true → are_closed more branches ≡ true
  are_closed_in_more some more f global.NoMore e = refl
  are_closed_in_more some more f (global.More label next others) e =
      let k = and_parts (is_closed some next) (are_closed some others) e in
      and_from (is_closed more next) (are_closed more others) (closed_in_more some more f next k.0) (are_closed_in_more some more f others k.1)

-- the role does nothing in the tree, which has no other free variable
pub record IsSilent (roles : List (List ℕ)) (role : ℕ) (x : List ℕ) (tree : GlobalType) : Type 0 where
  pub absent : occurs roles role tree ≡ false
  pub closed : is_closed (x ∷ []) tree ≡ true

record AreSilent (roles : List (List ℕ)) (role : ℕ) (x : List ℕ) (branches : global.Branches) : Type 0 where
  absent : occurs_in roles role branches ≡ false
  closed : are_closed (x ∷ []) branches ≡ true

or_both : (a b : Bool) → a ≡ false → b ≡ false → (a || b) ≡ false
or_both a b e f = grind arith

ends_in_rec : (x y : List ℕ) (u : LocalType) → ends_in x (Rec y u) ≡ true → ends_in x u ≡ true
ends_in_rec x y u e = grind arith

message_silent : (a b : Bool) (x : List ℕ) (from to : ℕ) (sort : Sort) (u : LocalType) → ends_in x (cond a (Send to sort u) (cond b (Recv from sort u) u)) ≡ true → (a ≡ false) × (b ≡ false) × (ends_in x u ≡ true)
message_silent a b x from to sort u h = grind arith

choice_silent : (merging : Merging) (a b : Bool) (x : List ℕ) (from to : ℕ) (ts : Branches) (t : LocalType) → cond a (Some (Select to ts)) (cond b (Some (Branch from ts)) (merged merging ts)) ≡ Some t → ends_in x t ≡ true → (a ≡ false) × (b ≡ false) × (merged merging ts ≡ Some t)
choice_silent merging a b x from to ts t e h = grind arith

-- each branch comes to the variable before any action
abbrev AllEnd : List ℕ → Branches → Type 0
AllEnd x ts = AllByRecursion (λ u. ends_in x u ≡ true) (nexts ts)

all_so : (x : List ℕ) (t : LocalType) (ts : Branches) → ends_in x t ≡ true → AllByRecursion (λ u. ends_in x t ≡ ends_in x u) (nexts ts) → AllEnd x ts
all_so x t NoMore h a = tt
all_so x t (More label u others) h a = (sym a.0 ∙ h, all_so x t others h a.1)

mutual
  -- where a role's projection comes to a variable before any action
  pub silent_end : (merging : Merging) (roles : List (List ℕ)) (role : ℕ) (x : List ℕ) (tree : GlobalType) (t : LocalType) → projection merging roles role tree ≡ Some t → ends_in x t ≡ true → IsSilent roles role x tree
  silent_end merging roles role x global.End t e h = absurd (let k : End ≡ t = cc in let l = ap (ends_in x) k ∙ h in cc)
  silent_end merging roles role x (global.Var name) t e h = grind arith
  silent_end merging roles role x (global.Rec name body) t e h = by_parts (rec_parts merging roles role name body t e)
      (λ u f g. silent_end merging roles role x body u f g)
    where
      by_parts : RecParts merging roles role name body t → ((u : LocalType) → projection merging roles role body ≡ Some u → ends_in x u ≡ true → IsSilent roles role x body) → IsSilent roles role x (global.Rec name body)
      by_parts (idle f g) again = absurd (let k = ap (ends_in x) (sym g) ∙ h in cc)
      by_parts (busy f u g k) again = grind (arith, ends_in_rec, closed_in_more)
  silent_end merging roles role x (global.Message sender receiver sort next) t e h =
      let from = place_of roles sender in let to = place_of roles receiver in
      let k = map_some (with_message role from to sort) (projection merging roles role next) t e in
      let n = message_silent (role == from) (role == to) x from to sort k.0 (ap (ends_in x) k.2 ∙ h) in
      let s = silent_end merging roles role x next k.0 k.1 n.2 in
      record { absent = or_both (role == from || role == to) (occurs roles role next) (or_both (role == from) (role == to) n.0 n.1) s.absent; closed = s.closed }
  silent_end merging roles role x (global.Choice sender receiver branches) t e h =
      let from = place_of roles sender in let to = place_of roles receiver in
      let k = and_then_some (with_choice merging role from to) (projections merging roles role branches) t e in
      let n = choice_silent merging (role == from) (role == to) x from to k.0 t k.2 h in
      let s = silent_ends merging roles role x branches k.0 k.1 (all_so x t k.0 h (merged_ends x merging k.0 t n.2)) in
      record { absent = or_both (role == from || role == to) (occurs_in roles role branches) (or_both (role == from) (role == to) n.0 n.1) s.absent; closed = s.closed }

  silent_ends : (merging : Merging) (roles : List (List ℕ)) (role : ℕ) (x : List ℕ) (branches : global.Branches) (ts : Branches) → projections merging roles role branches ≡ Some ts → AllEnd x ts → AreSilent roles role x branches
  silent_ends merging roles role x global.NoMore ts e h = record { absent = refl; closed = refl }
  silent_ends merging roles role x (global.More label next others) ts e h =
      let k = more_parts merging roles role label next others ts e in
      let l : AllEnd x (More label k.0 k.1) = subst (AllEnd x) k.4 h in
      let a = silent_end merging roles role x next k.0 k.2 l.0 in
      let b = silent_ends merging roles role x others k.1 k.3 l.1 in
      record { absent = or_both (occurs roles role next) (occurs_in roles role others) a.absent b.absent; closed = and_from (is_closed (x ∷ []) next) (are_closed (x ∷ []) others) a.closed b.closed }

-- a loop that is not idle does not come to its variable before an action
pub busy_guarded : (merging : Merging) (roles : List (List ℕ)) (role : ℕ) (name : List ℕ) (body : GlobalType) (u : LocalType) → is_idle roles role name body ≡ false → projection merging roles role body ≡ Some u → ends_in name u ≡ false
busy_guarded merging roles role name body u f e = grind (arith, silent_end, cases_Bool)
