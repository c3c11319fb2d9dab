-- The way of a conversation through a protocol, where it is known what each role will choose: one message after the other.
use Rattle.std.proofs.Common.{◌≡◌, ◌≢◌, ℕ, zero, suc, Bool, true, false, cond, List, [], ◌∷◌, ◌++◌, drop, Option, None, Some, refl, sym, ap, ◌∙◌}
use Rattle.std.specs.Prelude.{⊤, ◌==◌, ◌&&◌, if◌then◌else◌}
use Rattle.std.specs.Str.{bytes_eq}
use Rattle.std.proofs.lemmas.Bool.{ne_eqb}
use Rattle.mps_base.specs.Sorts.{fits}
use Rattle.mps_base.specs.declared.action.Message.{Message}
use Rattle.mps_base.specs.declared.action.Message.TheVariants.{Value as Plain, Label}
use Rattle.mps_base.specs.declared.value.Sort.{Sort}
use Rattle.mps_global.specs.Global as global
use Rattle.mps_global.specs.Global.{GlobalType}
use Rattle.mps_local.specs.Projection.{place_of}
use Rattle.mps_fidelity.proofs.Parts.{tree_at}

-- a loop around a part of a tree
pub record Around : Type 0 where
  pub name : List ℕ
  pub body : GlobalType

-- what each role has still to choose, the loops around, the nearest first, and what is left in them
pub record Site : Type 0 where
  pub chosen : ℕ → List (List ℕ)
  pub loops : List Around
  pub tree : GlobalType

-- what goes from one role to another: a value of the sort, or that label
pub data Kind : Type 0 where
  OfSort : (sort : Sort) → Kind
  OfLabel : (label : List ℕ) → Kind

pub record Item : Type 0 where
  pub from : ℕ
  pub to : ℕ
  pub kind : Kind

abbrev pub IsKind : Kind → Message → Type 0
IsKind (OfSort sort) (Plain v) = fits v sort ≡ true
IsKind (OfLabel l) (Label m) = m ≡ l
IsKind kind m = ⊥

abbrev pub site : (ℕ → List (List ℕ)) → List Around → GlobalType → Site
site chosen loops tree = record { chosen = chosen; loops = loops; tree = tree }

-- a branch of a choice: the one of the next label that is to be chosen, or else the first
abbrev pub first_branch : global.Branches → List ℕ × GlobalType
first_branch global.NoMore = ([], global.End)
first_branch (global.More l next others) = (l, next)

abbrev pub named : List ℕ → Option GlobalType → global.Branches → List ℕ × GlobalType
named l None branches = first_branch branches
named l (Some next) branches = (l, next)

abbrev pub taken : List (List ℕ) → global.Branches → List ℕ × GlobalType
taken [] branches = first_branch branches
taken (l ∷ ls) branches = named l (tree_at l branches) branches

-- the role has chosen
abbrev pub fewer : ℕ → (ℕ → List (List ℕ)) → ℕ → List (List ℕ)
fewer p chosen q = if p == q then drop 1 (chosen q) else chosen q

-- back to the loop of the variable
abbrev pub jump : (ℕ → List (List ℕ)) → List ℕ → List Around → Site
jump chosen x [] = site chosen [] global.End
jump chosen x (l ∷ ls) = if bytes_eq x l.name then site chosen (l ∷ ls) l.body else jump chosen x ls

module _ (roles : List (List ℕ)) where
  -- one node further
  abbrev pub further : (ℕ → List (List ℕ)) → List Around → GlobalType → Site
  further chosen loops global.End = site chosen loops global.End
  further chosen loops (global.Var x) = jump chosen x loops
  further chosen loops (global.Rec x body) = site chosen (record { name = x; body = body } ∷ loops) body
  further chosen loops (global.Message sender receiver sort next) = site chosen loops next
  further chosen loops (global.Choice sender receiver branches) =
      site (fewer (place_of roles sender) chosen) loops (taken (chosen (place_of roles sender)) branches).1

  abbrev pub on : Site → Site
  on s = further s.chosen s.loops s.tree

  -- what goes at the node
  abbrev pub item_of : (ℕ → List (List ℕ)) → GlobalType → Option Item
  item_of chosen (global.Message sender receiver sort next) =
      Some (record { from = place_of roles sender; to = place_of roles receiver; kind = OfSort sort })
  item_of chosen (global.Choice sender receiver branches) =
      Some (record { from = place_of roles sender; to = place_of roles receiver; kind = OfLabel (taken (chosen (place_of roles sender)) branches).0 })
  item_of chosen tree = None

  abbrev pub item : Site → Option Item
  item s = item_of s.chosen s.tree

  -- so many nodes further
  abbrev pub ahead : ℕ → Site → Site
  ahead zero s = s
  ahead (suc n) s = ahead n (on s)

  pub ahead_on : (n : ℕ) (s : Site) → ahead n (on s) ≡ on (ahead n s)
  ahead_on zero s = refl
  ahead_on (suc n) s = ahead_on n (on s)

-- a sum, as it is walked
abbrev pub plus : ℕ → ℕ → ℕ
plus zero d = d
plus (suc n) d = suc (plus n d)

pub plus_suc : (n d : ℕ) → plus n (suc d) ≡ suc (plus n d)
plus_suc zero d = refl
plus_suc (suc n) d = ap suc (plus_suc n d)

-- which of two is not less
pub data Compared (n m : ℕ) : Type 0 where
  not_less : (d : ℕ) → m ≡ plus n d → Compared n m
  less : (d : ℕ) → n ≡ plus m (suc d) → Compared n m

pub compare : (n m : ℕ) → Compared n m
compare zero m = not_less m refl
compare (suc n) zero = less n refl
compare (suc n) (suc m) = by_case (compare n m)
  where
    by_case : Compared n m → Compared (suc n) (suc m)
    by_case (not_less d e) = not_less d (ap suc e)
    by_case (less d e) = less d (ap suc e)

-- what p gives q in an item
abbrev pub here : (p q : ℕ) → Option Item → List Kind
here p q None = []
here p q (Some i) = if p == i.from && q == i.to then i.kind ∷ [] else []

-- the role has no part in it
abbrev pub IsQuiet : ℕ → Option Item → Type 0
IsQuiet p None = ⊤
IsQuiet p (Some i) = (p ≢ i.from) × (p ≢ i.to)

module _ (roles : List (List ℕ)) where
  -- all that p gives q on so many nodes
  abbrev pub heard : (p q n : ℕ) → Site → List Kind
  heard p q zero s = []
  heard p q (suc n) s = here p q (item roles s) ++ heard p q n (on roles s)

  abbrev pub Quiet : ℕ → ℕ → Site → Type 0
  Quiet p zero s = ⊤
  Quiet p (suc n) s = IsQuiet p (item roles s) × Quiet p n (on roles s)

  pub ahead_plus : (n d : ℕ) (s : Site) → ahead roles (plus n d) s ≡ ahead roles d (ahead roles n s)
  ahead_plus zero d s = refl
  ahead_plus (suc n) d s = ahead_plus n d (on roles s)

  pub heard_plus : (p q n d : ℕ) (s : Site) → heard p q (plus n d) s ≡ heard p q n s ++ heard p q d (ahead roles n s)
  heard_plus p q zero d s = refl
  heard_plus p q (suc n) d s = ap (λ (ks : List Kind). here p q (item roles s) ++ ks) (heard_plus p q n d (on roles s)) ∙ sym (joined (here p q (item roles s)) (heard p q n (on roles s)) (heard p q d (ahead roles n (on roles s))))
    where
      joined : (a b c : List Kind) → (a ++ b) ++ c ≡ a ++ (b ++ c)
      joined [] b c = refl
      joined (x ∷ a) b c = ap (λ (ks : List Kind). x ∷ ks) (joined a b c)

  quiet_from : (p q : ℕ) (o : Option Item) → IsQuiet p o → here p q o ≡ []
  quiet_from p q None h = refl
  quiet_from p q (Some i) h = rw (ne_eqb p i.from h.0) refl

  quiet_to : (p q : ℕ) (o : Option Item) → IsQuiet p o → here q p o ≡ []
  quiet_to p q None h = refl
  quiet_to p q (Some i) h = by_tests (q == i.from) (p == i.to) (ne_eqb p i.to h.1)
    where
      by_tests : (a b : Bool) → b ≡ false → cond (a && b) (i.kind ∷ []) [] ≡ []
      by_tests true true e = absurd cc
      by_tests true false e = refl
      by_tests false b e = refl

  pub quiet_gives : (p q n : ℕ) (s : Site) → Quiet p n s → heard p q n s ≡ []
  quiet_gives p q zero s h = refl
  quiet_gives p q (suc n) s h = rw (quiet_from p q (item roles s) h.0) (quiet_gives p q n (on roles s) h.1)

  pub quiet_takes : (p q n : ℕ) (s : Site) → Quiet p n s → heard q p n s ≡ []
  quiet_takes p q zero s h = refl
  quiet_takes p q (suc n) s h = rw (quiet_to p q (item roles s) h.0) (quiet_takes p q n (on roles s) h.1)

  -- nor does the role choose
  quiet_on : (p : ℕ) (chosen : ℕ → List (List ℕ)) (loops : List Around) (tree : GlobalType) → IsQuiet p (item_of roles chosen tree) → (further roles chosen loops tree).chosen p ≡ chosen p
  quiet_on p chosen loops global.End h = refl
  quiet_on p chosen loops (global.Var x) h = jumped loops
    where
      jumped : (ls : List Around) → (jump chosen x ls).chosen p ≡ chosen p
      jumped [] = refl
      jumped (l ∷ ls) = by_test (bytes_eq x l.name) (jumped ls)
        where
          by_test : (b : Bool) → (jump chosen x ls).chosen p ≡ chosen p → (cond b (site chosen (l ∷ ls) l.body) (jump chosen x ls)).chosen p ≡ chosen p
          by_test true e = refl
          by_test false e = e
  quiet_on p chosen loops (global.Rec x body) h = refl
  quiet_on p chosen loops (global.Message sender receiver sort next) h = refl
  quiet_on p chosen loops (global.Choice sender receiver branches) h = by_test (place_of roles sender == p) (ne_eqb (place_of roles sender) p (λ e. h.0 (sym e)))
    where
      by_test : (b : Bool) → b ≡ false → cond b (drop 1 (chosen p)) (chosen p) ≡ chosen p
      by_test true e = absurd cc
      by_test false e = refl

  pub quiet_chooses : (p n : ℕ) (s : Site) → Quiet p n s → (ahead roles n s).chosen p ≡ s.chosen p
  quiet_chooses p zero s h = refl
  quiet_chooses p (suc n) s h = quiet_chooses p n (on roles s) h.1 ∙ quiet_on p s.chosen s.loops s.tree h.0
