-- Types in the places of variables.
use Rattle.std.proofs.Common.{arith, ◌≡◌, ℕ, ◌+◌, ⊎_elim, Bool, true, false, List, ◌∷◌, cond, refl, sym, ap, ◌∙◌, subst, add-one}
use Rattle.std.specs.Prelude.{◌||◌, ◌&&◌, if◌then◌else◌}
use Rattle.std.specs.List.{list_any}
use Rattle.std.specs.Str.{bytes_eq}
use Rattle.std.proofs.lemmas.Bool.{cases_Bool}
use mathlib.Core.Path.{fun_ext}
use Rattle.mps_local.specs.Local.{LocalType, Branches, End, Var, Rec, Send, Recv, Select, Branch, NoMore, More}
use Rattle.mps_local.specs.Loops.{ends_in, is_closed, are_closed}
use Rattle.mps_local.specs.Unfolding.{replaced, replaced_in, leading, unfolded}
use Rattle.mps_local.proofs.Equal.{name_same, name_is, name_turned}

-- a type for each name
abbrev pub Env : Type 0
Env = List ℕ → LocalType

abbrev pub put : List ℕ → LocalType → Env → Env
put x t env z = if bytes_eq z x then t else env z

abbrev mutual
  -- the type with these types in the places of its variables
  pub filled : Env → LocalType → LocalType
  filled env End = End
  filled env (Var y) = env y
  filled env (Rec y u) = Rec y (filled (put y (Var y) env) u)
  filled env (Send peer sort u) = Send peer sort (filled env u)
  filled env (Recv peer sort u) = Recv peer sort (filled env u)
  filled env (Select peer branches) = Select peer (filled_in env branches)
  filled env (Branch peer branches) = Branch peer (filled_in env branches)

  pub filled_in : Env → Branches → Branches
  filled_in env NoMore = NoMore
  filled_in env (More label u others) = More label (filled env u) (filled_in env others)

put_same : (b : Bool) (t r s : LocalType) → (b ≡ false → r ≡ s) → cond b t r ≡ cond b t s
put_same b t r s f = grind arith

put_replaced : (b : Bool) (x : List ℕ) (t v r s : LocalType) → replaced x t v ≡ v → replaced x t r ≡ s → replaced x t (cond b v r) ≡ cond b v s
put_replaced b x t v r s e f = grind arith

mutual
  pub replaced_filled : (x : List ℕ) (t : LocalType) (env out : Env) → ((z : List ℕ) → replaced x t (env z) ≡ out z) → ((z : List ℕ) → bytes_eq z x ≡ false → env z ≡ out z) → (u : LocalType) → replaced x t (filled env u) ≡ filled out u
  replaced_filled x t env out f g End = refl
  replaced_filled x t env out f g (Var y) = f y
  replaced_filled x t env out f g (Rec y u) =
      ⊎_elim
      (grind (arith, fun_ext, put_same, name_is))
      (λ (e : bytes_eq y x ≡ false).
      rw e (ap (λ (k : LocalType). Rec y k) (replaced_filled x t (put y (Var y) env) (put y (Var y) out)
      (λ z. put_replaced (bytes_eq z y) x t (Var y) (env z) (out z) (rw e refl) (f z))
      (λ z h. put_same (bytes_eq z y) (Var y) (env z) (out z) (λ k. g z h)) u)))
      (cases_Bool (bytes_eq y x))
  replaced_filled x t env out f g (Send peer sort u) = ap (Send peer sort) (replaced_filled x t env out f g u)
  replaced_filled x t env out f g (Recv peer sort u) = ap (Recv peer sort) (replaced_filled x t env out f g u)
  replaced_filled x t env out f g (Select peer branches) = ap (Select peer) (replaced_filled_in x t env out f g branches)
  replaced_filled x t env out f g (Branch peer branches) = ap (Branch peer) (replaced_filled_in x t env out f g branches)

  replaced_filled_in : (x : List ℕ) (t : LocalType) (env out : Env) → ((z : List ℕ) → replaced x t (env z) ≡ out z) → ((z : List ℕ) → bytes_eq z x ≡ false → env z ≡ out z) → (us : Branches) → replaced_in x t (filled_in env us) ≡ filled_in out us
  replaced_filled_in x t env out f g NoMore = refl
  replaced_filled_in x t env out f g (More label u others) =
      let a = replaced_filled x t env out f g u in
      let b = replaced_filled_in x t env out f g others in
      cc

-- nothing in it is replaced
abbrev pub IsWhole : LocalType → Type 0
IsWhole t = (x : List ℕ) (s : LocalType) → replaced x s t ≡ t

abbrev pub AreWhole : Env → Type 0
AreWhole env = (z : List ℕ) → IsWhole (env z)

pub whole_filled : (env : Env) → AreWhole env → (u : LocalType) → IsWhole (filled env u)
whole_filled env w u x s = replaced_filled x s env env (λ z. w z x s) (λ z e. refl) u

pub put_cases : (b : Bool) (F : LocalType → Type 0) (t s : LocalType) → (b ≡ true → F t) → (b ≡ false → F s) → F (cond b t s)
put_cases b F t s f g = grind arith

pub whole_put : (x : List ℕ) (t : LocalType) (env : Env) → IsWhole t → AreWhole env → AreWhole (put x t env)
whole_put x t env w ws z = put_cases (bytes_eq z x) IsWhole t (env z) (λ e. w) (λ e. ws z)

pub opened_filled : (x : List ℕ) (t : LocalType) (env : Env) → AreWhole env → (u : LocalType) → replaced x t (filled (put x (Var x) env) u) ≡ filled (put x t env) u
opened_filled x t env w u = grind (arith, replaced_filled, name_same)

leading_replaced : (x : List ℕ) (t v : LocalType) → ends_in x v ≡ false → leading (replaced x t v) ≡ leading v
leading_replaced x t (Rec y u) e =
    ⊎_elim (λ (f : bytes_eq y x ≡ true). rw f refl)
    (λ (f : bytes_eq y x ≡ false).
    let k : ends_in x u ≡ false = rw f at e in
    rw f (ap (λ (n : ℕ). n + 1) (leading_replaced x t u k)))
    (cases_Bool (bytes_eq y x))
leading_replaced x t other e = grind arith

-- a guarded recursive type unfolds as what it opens to
pub unfolded_rec : (x : List ℕ) (v : LocalType) → ends_in x v ≡ false → unfolded (Rec x v) ≡ unfolded (replaced x (Rec x v) v)
unfolding unfolded
unfolded_rec x v e = grind (arith, add-one, leading_replaced)

ends_replaced : (x : List ℕ) (t : LocalType) → ends_in x (replaced x End t) ≡ false
ends_replaced x (Var y) = grind (arith, cases_Bool)
ends_replaced x (Rec y u) =
    ⊎_elim (λ (f : bytes_eq y x ≡ true). rw f (rw f refl))
    (λ (f : bytes_eq y x ≡ false). rw f (rw f (ends_replaced x u)))
    (cases_Bool (bytes_eq y x))
ends_replaced x other = refl

pub ends_whole : (x : List ℕ) (t : LocalType) → IsWhole t → ends_in x t ≡ false
ends_whole x t w = subst (λ (k : LocalType). ends_in x k ≡ false) (w x End) (ends_replaced x t)

pub ends_filled : (x : List ℕ) (env : Env) (u : LocalType) → ((z : List ℕ) → ends_in z u ≡ true → ends_in x (env z) ≡ false) → ends_in x (filled env u) ≡ false
ends_filled x env (Rec y u) f =
    ⊎_elim (λ (e : bytes_eq y x ≡ true). rw e refl)
    (λ (e : bytes_eq y x ≡ false).
    rw e (ends_filled x (put y (Var y) env) u
    (grind (arith, put_cases, name_turned))))
    (cases_Bool (bytes_eq y x))
ends_filled x env other f = grind (arith, name_same)

-- a loop's body, with the loop in the place of its variable, is what the loop unfolds as
pub loop_unfolds : (name : List ℕ) (b : LocalType) (env : Env) → AreWhole env → ends_in name b ≡ false → unfolded (filled env (Rec name b)) ≡ unfolded (filled (put name (filled env (Rec name b)) env) b)
loop_unfolds name b env w guard =
    unfolded_rec name (filled (put name (Var name) env) b)
    (ends_filled name (put name (Var name) env) b (λ z h.
    grind (arith, put_cases, name_is, ends_whole)))
    ∙ ap unfolded (opened_filled name (filled env (Rec name b)) env w b)

both_true : (a b : Bool) → (a && b) ≡ true → (a ≡ true) × (b ≡ true)
both_true a b e = grind arith

mutual
  -- a type whose variables stand for themselves stays
  pub filled_same : (env : Env) (bound : List (List ℕ)) → ((z : List ℕ) → list_any (bytes_eq z) bound ≡ true → env z ≡ Var z) → (u : LocalType) → is_closed bound u ≡ true → filled env u ≡ u
  filled_same env bound f End e = refl
  filled_same env bound f (Var y) e = f y e
  filled_same env bound f (Rec y u) e =
      ap (Rec y) (filled_same (put y (Var y) env) (y ∷ bound)
      (λ z h. here (bytes_eq z y) z (name_is z y) h) u e)
    where
      here : (b : Bool) (z : List ℕ) → (b ≡ true → z ≡ y) → (b || list_any (bytes_eq z) bound) ≡ true → cond b (Var y) (env z) ≡ Var z
      here true z g h = ap Var (sym (g refl))
      here false z g h = f z h
  filled_same env bound f (Send peer sort u) e = ap (Send peer sort) (filled_same env bound f u e)
  filled_same env bound f (Recv peer sort u) e = ap (Recv peer sort) (filled_same env bound f u e)
  filled_same env bound f (Select peer branches) e = ap (Select peer) (filled_same_in env bound f branches e)
  filled_same env bound f (Branch peer branches) e = ap (Branch peer) (filled_same_in env bound f branches e)

  filled_same_in : (env : Env) (bound : List (List ℕ)) → ((z : List ℕ) → list_any (bytes_eq z) bound ≡ true → env z ≡ Var z) → (us : Branches) → are_closed bound us ≡ true → filled_in env us ≡ us
  filled_same_in env bound f NoMore e = refl
  filled_same_in env bound f (More label u others) e =
      let k = both_true (is_closed bound u) (are_closed bound others) e in
      let a = filled_same env bound f u k.0 in
      let b = filled_same_in env bound f others k.1 in
      cc
