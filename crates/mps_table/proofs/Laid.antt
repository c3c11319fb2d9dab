-- What is laid out is a table of the type.
use Rattle.std.proofs.Common.{◌≡◌, ℕ, suc, ◌+◌, ◌≤◌, ◌<◌, Bool, true, false, cond, List, [], ◌∷◌, length, Some, ⊎_elim, refl, sym, ap, ◌∙◌, subst, arith, add-one, add-zero, length-append}
use Rattle.std.specs.Prelude.{◌++◌, not}
use Rattle.std.specs.List.{list_any, AllByRecursion}
use Rattle.std.specs.Str.{bytes_eq}
use Rattle.std.proofs.lemmas.Bool.{cases_Bool, and_parts}
use Rattle.std.proofs.lemmas.Option.{slice_get_within}
use Rattle.mps_table.specs.Private.Drafts.{nowhere}
use Rattle.mps_base.specs.declared.value.Sort.{Sort}
use Rattle.mps_local.specs.Local.{LocalType, Branches, End, Var, Rec, Send, Recv, Select, Branch, NoMore, More}
use Rattle.mps_local.specs.Actions.{labels, nexts}
use Rattle.mps_local.specs.Loops.{ends_in, is_closed, are_closed, is_guarded, are_guarded}
use Rattle.mps_local.specs.Shape.{node_count, branch_nodes}
use Rattle.mps_local.specs.Unfolding.{unfolded}
use Rattle.mps_local.proofs.Equal.{name_same, name_is, name_turned}
use Rattle.mps_local.proofs.Filling.{Env, put, filled, filled_in, AreWhole, whole_put, whole_filled, loop_unfolds, filled_same}
use Rattle.mps_table.specs.declared.row.TableRow.{TableRow}
use Rattle.mps_table.specs.declared.row.TableRow.TheVariants as rows
use Rattle.mps_table.specs.Graph.{Graph}
use Rattle.mps_table.specs.Private.Graph.{IsWithin, LeadsWithin, IsSound}
use Rattle.mps_table.specs.Standing.{HasFrom, StandsIn, StandFrom, HasBranches, AreRowsOf, StandsFor}
use Rattle.mps_table.specs.Private.Laying.{size, branch_size, all_labels, branch_labels, Places, put_node, start, starts, all_targets, branch_targets, all_rows, branch_rows}

abbrev mutual
  -- the types of the rows: what each action or end of the type is, with closed types in the places of its variables
  pub flat : Env → LocalType → List LocalType
  flat env End = End ∷ []
  flat env (Var x) = []
  flat env (Rec x u) = flat (put x (filled env (Rec x u)) env) u
  flat env (Send peer sort u) = Send peer sort (filled env u) ∷ flat env u
  flat env (Recv peer sort u) = Recv peer sort (filled env u) ∷ flat env u
  flat env (Select peer branches) = Select peer (filled_in env branches) ∷ flat_in env branches
  flat env (Branch peer branches) = Branch peer (filled_in env branches) ∷ flat_in env branches

  pub flat_in : Env → Branches → List LocalType
  flat_in env NoMore = []
  flat_in env (More label u others) = flat env u ++ flat_in env others

mutual
  pub length-flat : (env : Env) (t : LocalType) → length (flat env t) ≡ size t
  length-flat env End = refl
  length-flat env (Var x) = refl
  length-flat env (Rec x u) = length-flat (put x (filled env (Rec x u)) env) u
  length-flat env (Send peer sort u) = rw add-one (ap suc (length-flat env u))
  length-flat env (Recv peer sort u) = rw add-one (ap suc (length-flat env u))
  length-flat env (Select peer branches) = rw add-one (ap suc (length-flat_in env branches))
  length-flat env (Branch peer branches) = rw add-one (ap suc (length-flat_in env branches))

  length-flat_in : (env : Env) (b : Branches) → length (flat_in env b) ≡ branch_size b
  length-flat_in env NoMore = refl
  length-flat_in env (More label u others) =
      omega (arith, length-append (flat env u) (flat_in env others), length-flat env u, length-flat_in env others)

length-starts : (places : Places) (at : ℕ) (b : Branches) → length (starts places at b) ≡ length (labels b)
length-starts places at NoMore = refl
length-starts places at (More label u others) = ap suc (length-starts places (at + size u) others)

length-both : (xs ys : List ℕ) (zs ws : List (List ℕ)) → length xs ≡ length zs → length ys ≡ length ws → length (xs ++ ys) ≡ length (zs ++ ws)
length-both xs ys zs ws e f = omega (arith, length-append xs ys, length-append zs ws)

mutual
  -- a node for each label
  pub length-all_targets : (places : Places) (at : ℕ) (t : LocalType) → length (all_targets places at t) ≡ length (all_labels t)
  length-all_targets places at End = refl
  length-all_targets places at (Var x) = refl
  length-all_targets places at (Rec x u) = length-all_targets (put_node x (start places at u) places) at u
  length-all_targets places at (Send peer sort u) = length-all_targets places (at + 1) u
  length-all_targets places at (Recv peer sort u) = length-all_targets places (at + 1) u
  length-all_targets places at (Select peer b) = cc (length-both (starts places (at + 1) b) (branch_targets places (at + 1) b) (labels b) (branch_labels b) (length-starts places (at + 1) b) (length-branch_targets places (at + 1) b))
  length-all_targets places at (Branch peer b) = cc (length-both (starts places (at + 1) b) (branch_targets places (at + 1) b) (labels b) (branch_labels b) (length-starts places (at + 1) b) (length-branch_targets places (at + 1) b))

  length-branch_targets : (places : Places) (at : ℕ) (b : Branches) → length (branch_targets places at b) ≡ length (branch_labels b)
  length-branch_targets places at NoMore = refl
  length-branch_targets places at (More label u others) = cc (length-both (all_targets places at u) (branch_targets places (at + size u) others) (all_labels u) (branch_labels others) (length-all_targets places at u) (length-branch_targets places (at + size u) others))

-- what a list has from a place on, it has in two parts
has_both : {A : Type 0} (list : List A) (from : ℕ) (xs ys : List A) → HasFrom list from (xs ++ ys) → HasFrom list from xs × HasFrom list (from + length xs) ys
has_both list from [] ys h = (tt, rw add-zero h)
has_both list from (x ∷ xs) ys h = grind (arith, has_both list (suc from) xs ys h.1)

has_at : {A : Type 0} (list : List A) (from to : ℕ) (xs : List A) → from ≡ to → HasFrom list from xs → HasFrom list to xs
has_at list from to xs e h = subst (λ (n : ℕ). HasFrom list n xs) e h

unfolded_end : unfolded End ≡ End
unfolding unfolded
unfolded_end = refl

unfolded_send : (peer : ℕ) (sort : Sort) (u : LocalType) → unfolded (Send peer sort u) ≡ Send peer sort u
unfolding unfolded
unfolded_send peer sort u = refl

unfolded_recv : (peer : ℕ) (sort : Sort) (u : LocalType) → unfolded (Recv peer sort u) ≡ Recv peer sort u
unfolding unfolded
unfolded_recv peer sort u = refl

unfolded_select : (peer : ℕ) (b : Branches) → unfolded (Select peer b) ≡ Select peer b
unfolding unfolded
unfolded_select peer b = refl

unfolded_branch : (peer : ℕ) (b : Branches) → unfolded (Branch peer b) ≡ Branch peer b
unfolding unfolded
unfolded_branch peer b = refl

guard_of : (x : List ℕ) (u : LocalType) → is_guarded (Rec x u) ≡ true → (ends_in x u ≡ false) × (is_guarded u ≡ true)
guard_of x u g = let p = and_parts (not (ends_in x u)) (is_guarded u) g in (by_test (ends_in x u) p.0, p.1)
  where
    by_test : (b : Bool) → not b ≡ true → b ≡ false
    by_test true e = absurd cc
    by_test false e = refl

-- the node of a type's start stands for the type, filled
begins_at : (types : List LocalType) (places : Places) (env : Env) (at : ℕ) (t : LocalType) → AreWhole env → is_guarded t ≡ true → ((z : List ℕ) → ends_in z t ≡ true → StandsIn types (places z) (env z)) → HasFrom types at (flat env t) → StandsIn types (start places at t) (filled env t)
begins_at types places env at (Rec x u) w g f h =
    let p = guard_of x u g in
    let t = filled env (Rec x u) in
    let inner = begins_at types places (put x t env) at u (whole_put x t env (whole_filled env w (Rec x u)) w) p.1
    (λ z e. here (bytes_eq z x) z refl e p.0) h in
    inner ∙ ap Some (sym (loop_unfolds x u env w p.0))
  where
    here : (b : Bool) (z : List ℕ) → bytes_eq z x ≡ b → ends_in z u ≡ true → ends_in x u ≡ false → StandsIn types (places z) (cond b (filled env (Rec x u)) (env z))
    here true z e k p = absurd (let bad : ends_in x u ≡ true = subst (λ (y : List ℕ). ends_in y u ≡ true) (name_is z x e) k in cc)
    here false z e k p = f z (let l : bytes_eq x z ≡ false = name_turned x z ∙ e in rw l k)
begins_at types places env at other w g f h = grind (arith, unfolded_end, name_same, unfolded_send, filled, unfolded_recv, unfolded_select, filled_in, unfolded_branch)

-- what a closed type comes to before any action is bound
ends_bound : (bound : List (List ℕ)) (z : List ℕ) (t : LocalType) → is_closed bound t ≡ true → ends_in z t ≡ true → list_any (bytes_eq z) bound ≡ true
ends_bound bound z (Var y) c e = subst (λ (n : List ℕ). list_any (bytes_eq n) bound ≡ true) (name_is y z e) c
ends_bound bound z (Rec y u) c e =
    ⊎_elim (λ (f : bytes_eq y z ≡ true). absurd (cc))
    (λ (f : bytes_eq y z ≡ false).
    let k : ends_in z u ≡ true = rw f at e in
    let l : bytes_eq z y ≡ false = name_turned z y ∙ f in
    rw l at (ends_bound (y ∷ bound) z u c k))
    (cases_Bool (bytes_eq y z))
ends_bound bound z other c e = absurd cc

-- each of these variables has a node that stands for its type
abbrev pub Agree : List LocalType → List (List ℕ) → Places → Env → Type 0
Agree types bound places env = (z : List ℕ) → list_any (bytes_eq z) bound ≡ true → StandsIn types (places z) (env z)

starts_stand : (types : List LocalType) (places : Places) (env : Env) (bound : List (List ℕ)) (at : ℕ) (t : LocalType) → AreWhole env → Agree types bound places env → is_guarded t ≡ true → is_closed bound t ≡ true → HasFrom types at (flat env t) → StandsIn types (start places at t) (filled env t)
starts_stand types places env bound at t w a g c h = begins_at types places env at t w g (λ z e. a z (ends_bound bound z t c e)) h

-- the branches' nodes stand for the branches' types
branches_stand : (types : List LocalType) (targets : List ℕ) (places : Places) (env : Env) (bound : List (List ℕ)) (at first : ℕ) (b : Branches) → AreWhole env → Agree types bound places env → are_guarded b ≡ true → are_closed bound b ≡ true → HasFrom types at (flat_in env b) → HasFrom targets first (starts places at b) → StandFrom types targets first (nexts (filled_in env b))
branches_stand types targets places env bound at first NoMore w a g c h k = tt
branches_stand types targets places env bound at first (More label u others) w a g c h k =
    let gs = and_parts (is_guarded u) (are_guarded others) g in
    let cs = and_parts (is_closed bound u) (are_closed bound others) c in
    let hs = has_both types at (flat env u) (flat_in env others) h in
    let rest = has_at types (at + length (flat env u)) (at + size u) (flat_in env others) (ap (λ (n : ℕ). at + n) (length-flat env u)) hs.1 in grind (arith, starts_stand types places env bound, branches_stand types targets places env bound (at + size u) (suc first) others w a gs.1 cs.1 rest k.1)

labels-filled_in : (env : Env) (b : Branches) → labels (filled_in env b) ≡ labels b
labels-filled_in env NoMore = refl
labels-filled_in env (More label u others) = ap (λ (ls : List (List ℕ)). label ∷ ls) (labels-filled_in env others)

both_rows : (g : Graph) (types : List LocalType) (xs ys : List TableRow) (ts us : List LocalType) → AreRowsOf g types xs ts → AreRowsOf g types ys us → AreRowsOf g types (xs ++ ys) (ts ++ us)
both_rows g types [] ys [] us a b = b
both_rows g types (x ∷ xs) ys (t ∷ ts) us a b = (a.0, both_rows g types xs ys ts us a.1 b)
both_rows g types other ys others us a b = absurd a

put_agrees : (types : List LocalType) (b : Bool) (n m : ℕ) (t u : LocalType) → StandsIn types n t → (b ≡ false → StandsIn types m u) → StandsIn types (cond b n m) (cond b t u)
put_agrees types b n m t u f g = grind arith

-- in a `rec` its variable has the node of the `rec`
rec_agrees : (types : List LocalType) (places : Places) (env : Env) (bound : List (List ℕ)) (at : ℕ) (x : List ℕ) (u : LocalType) → AreWhole env → Agree types bound places env → is_guarded (Rec x u) ≡ true → is_closed bound (Rec x u) ≡ true → HasFrom types at (flat env (Rec x u)) → Agree types (x ∷ bound) (put_node x (start places at u) places) (put x (filled env (Rec x u)) env)
rec_agrees types places env bound at x u w a g c h z e =
    put_agrees types (bytes_eq z x) (start places at u) (places z) (filled env (Rec x u)) (env z)
    (starts_stand types places env bound at (Rec x u) w a g c h) (λ f. a z (rw f at e))

-- a choice's labels and the nodes after them are where its row says
choice_stands : (g : Graph) (types : List LocalType) (places : Places) (env : Env) (bound : List (List ℕ)) (at first : ℕ) (b : Branches) → AreWhole env → Agree types bound places env → are_guarded b ≡ true → are_closed bound b ≡ true → HasFrom types at (flat_in env b) → HasFrom g.labels first (labels b) → HasFrom g.targets first (starts places at b) → HasBranches g types first (length (labels b)) (filled_in env b)
choice_stands g types places env bound at first b w a gs cs h k l =
    record { as_many = ap length (sym (labels-filled_in env b)); labels = subst (λ (ls : List (List ℕ)). HasFrom g.labels first ls) (sym (labels-filled_in env b)) k; targets = branches_stand types g.targets places env bound at first b w a gs cs h l }

mutual
  -- the rows of a closed and guarded type are those of its parts, wherever they stand
  pub rows_laid : (g : Graph) (types : List LocalType) (places : Places) (env : Env) (bound : List (List ℕ)) (at first : ℕ) (t : LocalType) → AreWhole env → Agree types bound places env → is_guarded t ≡ true → is_closed bound t ≡ true → HasFrom types at (flat env t) → HasFrom g.labels first (all_labels t) → HasFrom g.targets first (all_targets places at t) → AreRowsOf g types (all_rows places at first t) (flat env t)
  rows_laid g types places env bound at first End w a gs cs h k l = (refl, tt)
  rows_laid g types places env bound at first (Var x) w a gs cs h k l = tt
  rows_laid g types places env bound at first (Rec x u) w a gs cs h k l =
      let t = filled env (Rec x u) in
      rows_laid g types (put_node x (start places at u) places) (put x t env) (x ∷ bound) at first u
      (whole_put x t env (whole_filled env w (Rec x u)) w)
      (rec_agrees types places env bound at x u w a gs cs h)
      (guard_of x u gs).1 cs h k l
  rows_laid g types places env bound at first (Send peer sort u) w a gs cs h k l =
      let rest = has_at types (suc at) (at + 1) (flat env u) (sym (add-one at)) h.1 in grind (arith, filled env u, starts_stand types places env bound (at + 1) u w a gs cs rest, rows_laid g types places env bound (at + 1) first u w a gs cs rest k l)
  rows_laid g types places env bound at first (Recv peer sort u) w a gs cs h k l =
      let rest = has_at types (suc at) (at + 1) (flat env u) (sym (add-one at)) h.1 in grind (arith, filled env u, starts_stand types places env bound (at + 1) u w a gs cs rest, rows_laid g types places env bound (at + 1) first u w a gs cs rest k l)
  rows_laid g types places env bound at first (Select peer b) w a gs cs h k l =
      let rest = has_at types (suc at) (at + 1) (flat_in env b) (sym (add-one at)) h.1 in
      let ks = has_both g.labels first (labels b) (branch_labels b) k in
      let ls = has_both g.targets first (starts places (at + 1) b) (branch_targets places (at + 1) b) l in (
        (filled_in env b, refl, choice_stands g types places env bound (at + 1) first b w a gs cs rest ks.0 ls.0),
        branches_laid g types places env bound (at + 1) (first + length (labels b)) b w a gs cs rest ks.1
            (has_at g.targets (first + length (starts places (at + 1) b)) (first + length (labels b)) (branch_targets places (at + 1) b) (ap (λ (n : ℕ). first + n) (length-starts places (at + 1) b)) ls.1),
      )
  rows_laid g types places env bound at first (Branch peer b) w a gs cs h k l =
      let rest = has_at types (suc at) (at + 1) (flat_in env b) (sym (add-one at)) h.1 in
      let ks = has_both g.labels first (labels b) (branch_labels b) k in
      let ls = has_both g.targets first (starts places (at + 1) b) (branch_targets places (at + 1) b) l in (
        (filled_in env b, refl, choice_stands g types places env bound (at + 1) first b w a gs cs rest ks.0 ls.0),
        branches_laid g types places env bound (at + 1) (first + length (labels b)) b w a gs cs rest ks.1
            (has_at g.targets (first + length (starts places (at + 1) b)) (first + length (labels b)) (branch_targets places (at + 1) b) (ap (λ (n : ℕ). first + n) (length-starts places (at + 1) b)) ls.1),
      )

  branches_laid : (g : Graph) (types : List LocalType) (places : Places) (env : Env) (bound : List (List ℕ)) (at first : ℕ) (b : Branches) → AreWhole env → Agree types bound places env → are_guarded b ≡ true → are_closed bound b ≡ true → HasFrom types at (flat_in env b) → HasFrom g.labels first (branch_labels b) → HasFrom g.targets first (branch_targets places at b) → AreRowsOf g types (branch_rows places at first b) (flat_in env b)
  branches_laid g types places env bound at first NoMore w a gs cs h k l = tt
  branches_laid g types places env bound at first (More label u others) w a gs cs h k l =
      let gp = and_parts (is_guarded u) (are_guarded others) gs in
      let cp = and_parts (is_closed bound u) (are_closed bound others) cs in
      let hs = has_both types at (flat env u) (flat_in env others) h in
      let ks = has_both g.labels first (all_labels u) (branch_labels others) k in
      let ls = has_both g.targets first (all_targets places at u) (branch_targets places (at + size u) others) l in
      both_rows g types (all_rows places at first u) (branch_rows places (at + size u) (first + length (all_labels u)) others) (flat env u) (flat_in env others)
      (rows_laid g types places env bound at first u w a gp.0 cp.0 hs.0 ks.0 ls.0)
      (branches_laid g types places env bound (at + size u) (first + length (all_labels u)) others w a gp.1 cp.1
      (has_at types (at + length (flat env u)) (at + size u) (flat_in env others) (ap (λ (n : ℕ). at + n) (length-flat env u)) hs.1)
      ks.1
      (has_at g.targets (first + length (all_targets places at u)) (first + length (all_labels u)) (branch_targets places (at + size u) others) (ap (λ (n : ℕ). first + n) (length-all_targets places at u)) ls.1))

has_behind : {A : Type 0} (y : A) (ys : List A) (from : ℕ) (xs : List A) → HasFrom ys from xs → HasFrom (y ∷ ys) (suc from) xs
has_behind y ys from [] h = tt
has_behind y ys from (x ∷ xs) h = (h.0, has_behind y ys (suc from) xs h.1)

has_all : {A : Type 0} (xs : List A) → HasFrom xs 0 xs
has_all [] = tt
has_all (x ∷ xs) = (refl, has_behind x xs 0 xs (has_all xs))

-- what is laid out from the start is a table of the type
pub laid_stands : (g : Graph) (places : Places) (t : LocalType) → is_closed [] t ≡ true → is_guarded t ≡ true → g.rows ≡ all_rows places 0 0 t → g.labels ≡ all_labels t → g.targets ≡ all_targets places 0 t → g.first ≡ start places 0 t → StandsFor g g.first t
laid_stands g places t c guarded e l m f =
    let env : Env = λ z. End in
    let types = flat env t in
    let whole : AreWhole env = λ z x s. refl in
    let agree : Agree types [] places env = λ z k. absurd (let bad : false ≡ true = k in cc) in
    let same : filled env t ≡ t = filled_same env [] (λ z k. absurd (let bad : false ≡ true = k in cc)) t c in
    let laid = rows_laid g types places env [] 0 0 t whole agree guarded c (has_all types)
    (subst (λ (xs : List (List ℕ)). HasFrom xs 0 (all_labels t)) (sym l) (has_all (all_labels t)))
    (subst (λ (xs : List ℕ). HasFrom xs 0 (all_targets places 0 t)) (sym m) (has_all (all_targets places 0 t))) in
    let stands = starts_stand types places env [] 0 t whole agree guarded c (has_all types) in grind arith

both_within : (many : ℕ) (xs ys : List TableRow) → AllByRecursion (IsWithin many) xs → AllByRecursion (IsWithin many) ys → AllByRecursion (IsWithin many) (xs ++ ys)
both_within many [] ys a b = b
both_within many (x ∷ xs) ys a b = (a.0, both_within many xs ys a.1 b)

mutual
  -- each choice has its labels among so many, where all labels are
  rows_within : (many : ℕ) (places : Places) (at first : ℕ) (t : LocalType) → first + length (all_labels t) ≤ many → AllByRecursion (IsWithin many) (all_rows places at first t)
  rows_within many places at first End h = (tt, tt)
  rows_within many places at first (Var x) h = tt
  rows_within many places at first (Rec x u) h = rows_within many (put_node x (start places at u) places) at first u h
  rows_within many places at first (Send peer sort u) h = (tt, rows_within many places (at + 1) first u h)
  rows_within many places at first (Recv peer sort u) h = (tt, rows_within many places (at + 1) first u h)
  rows_within many places at first (Select peer b) h =
      let k = length-append (labels b) (branch_labels b) in
      (omega arith, branches_within many places (at + 1) (first + length (labels b)) b (omega arith))
  rows_within many places at first (Branch peer b) h =
      let k = length-append (labels b) (branch_labels b) in
      (omega arith, branches_within many places (at + 1) (first + length (labels b)) b (omega arith))

  branches_within : (many : ℕ) (places : Places) (at first : ℕ) (b : Branches) → first + length (branch_labels b) ≤ many → AllByRecursion (IsWithin many) (branch_rows places at first b)
  branches_within many places at first NoMore h = tt
  branches_within many places at first (More label u others) h =
      let k = length-append (all_labels u) (branch_labels others) in
      grind (arith, both_within many (all_rows places at first u) (branch_rows places (at + size u) (first + length (all_labels u)) others) (rows_within many places at first u (omega arith)) (branches_within many places (at + size u) (first + length (all_labels u)) others (omega arith)))

both_known : (n : ℕ) (xs ys : List ℕ) → AllByRecursion (λ m. m < n) xs → AllByRecursion (λ m. m < n) ys → AllByRecursion (λ m. m < n) (xs ++ ys)
both_known n [] ys a b = b
both_known n (x ∷ xs) ys a b = (a.0, both_known n xs ys a.1 b)

-- where branches start are nodes
starts_known : (types : List LocalType) (places : Places) (env : Env) (bound : List (List ℕ)) (at : ℕ) (b : Branches) → AreWhole env → Agree types bound places env → are_guarded b ≡ true → are_closed bound b ≡ true → HasFrom types at (flat_in env b) → AllByRecursion (λ m. m < length types) (starts places at b)
starts_known types places env bound at NoMore w a g c h = tt
starts_known types places env bound at (More label u others) w a g c h =
    let gs = and_parts (is_guarded u) (are_guarded others) g in
    let cs = and_parts (is_closed bound u) (are_closed bound others) c in
    let hs = has_both types at (flat env u) (flat_in env others) h in
    let rest = has_at types (at + length (flat env u)) (at + size u) (flat_in env others) (ap (λ (n : ℕ). at + n) (length-flat env u)) hs.1 in grind (arith, slice_get_within types (start places at u) (unfolded (filled env u)) (starts_stand types places env bound at u w a gs.0 cs.0 hs.0), starts_known types places env bound (at + size u) others w a gs.1 cs.1 rest)

mutual
  -- after each label is a node
  targets_known : (types : List LocalType) (places : Places) (env : Env) (bound : List (List ℕ)) (at : ℕ) (t : LocalType) → AreWhole env → Agree types bound places env → is_guarded t ≡ true → is_closed bound t ≡ true → HasFrom types at (flat env t) → AllByRecursion (λ m. m < length types) (all_targets places at t)
  targets_known types places env bound at End w a g c h = tt
  targets_known types places env bound at (Var x) w a g c h = tt
  targets_known types places env bound at (Rec x u) w a g c h =
      let t = filled env (Rec x u) in
      targets_known types (put_node x (start places at u) places) (put x t env) (x ∷ bound) at u
      (whole_put x t env (whole_filled env w (Rec x u)) w)
      (rec_agrees types places env bound at x u w a g c h)
      (guard_of x u g).1 c h
  targets_known types places env bound at (Send peer sort u) w a g c h = grind (arith, targets_known types places env bound (at + 1) u w a g c (has_at types (suc at) (at + 1) (flat env u) (sym (add-one at)) h.1))
  targets_known types places env bound at (Recv peer sort u) w a g c h = grind (arith, targets_known types places env bound (at + 1) u w a g c (has_at types (suc at) (at + 1) (flat env u) (sym (add-one at)) h.1))
  targets_known types places env bound at (Select peer b) w a g c h =
      let rest = has_at types (suc at) (at + 1) (flat_in env b) (sym (add-one at)) h.1 in
      grind (arith, both_known (length types) (starts places (at + 1) b) (branch_targets places (at + 1) b) (starts_known types places env bound (at + 1) b w a g c rest) (branch_targets_known types places env bound (at + 1) b w a g c rest))
  targets_known types places env bound at (Branch peer b) w a g c h =
      let rest = has_at types (suc at) (at + 1) (flat_in env b) (sym (add-one at)) h.1 in
      grind (arith, both_known (length types) (starts places (at + 1) b) (branch_targets places (at + 1) b) (starts_known types places env bound (at + 1) b w a g c rest) (branch_targets_known types places env bound (at + 1) b w a g c rest))

  branch_targets_known : (types : List LocalType) (places : Places) (env : Env) (bound : List (List ℕ)) (at : ℕ) (b : Branches) → AreWhole env → Agree types bound places env → are_guarded b ≡ true → are_closed bound b ≡ true → HasFrom types at (flat_in env b) → AllByRecursion (λ m. m < length types) (branch_targets places at b)
  branch_targets_known types places env bound at NoMore w a g c h = tt
  branch_targets_known types places env bound at (More label u others) w a g c h =
      let gs = and_parts (is_guarded u) (are_guarded others) g in
      let cs = and_parts (is_closed bound u) (are_closed bound others) c in
      let hs = has_both types at (flat env u) (flat_in env others) h in
      both_known (length types) (all_targets places at u) (branch_targets places (at + size u) others)
      (targets_known types places env bound at u w a gs.0 cs.0 hs.0)
      (branch_targets_known types places env bound (at + size u) others w a gs.1 cs.1
      (has_at types (at + length (flat env u)) (at + size u) (flat_in env others) (ap (λ (n : ℕ). at + n) (length-flat env u)) hs.1))

-- rows of types lead to nodes
rows_lead : (g : Graph) (types : List LocalType) (es : List TableRow) (ts : List LocalType) → AreRowsOf g types es ts → AllByRecursion (LeadsWithin (length types)) es
rows_lead g types [] [] a = tt
rows_lead g types (rows.End ∷ es) (t ∷ ts) a = (tt, rows_lead g types es ts a.1)
rows_lead g types (rows.Send peer sort next ∷ es) (t ∷ ts) a = grind (arith, slice_get_within types next (unfolded a.0.0) a.0.2, rows_lead g types es ts a.1)
rows_lead g types (rows.Recv peer sort next ∷ es) (t ∷ ts) a = grind (arith, slice_get_within types next (unfolded a.0.0) a.0.2, rows_lead g types es ts a.1)
rows_lead g types (rows.Select peer first count ∷ es) (t ∷ ts) a = (tt, rows_lead g types es ts a.1)
rows_lead g types (rows.Branch peer first count ∷ es) (t ∷ ts) a = (tt, rows_lead g types es ts a.1)
rows_lead g types other others a = absurd a

as_many : (g : Graph) (types : List LocalType) (es : List TableRow) (ts : List LocalType) → AreRowsOf g types es ts → length ts ≡ length es
as_many g types [] [] a = refl
as_many g types (e ∷ es) (t ∷ ts) a = ap suc (as_many g types es ts a.1)
as_many g types other others a = absurd a

-- what is laid out of a closed and guarded type is a sound table
pub laid_sound : (t : LocalType) → is_closed [] t ≡ true → is_guarded t ≡ true → IsSound (all_rows nowhere 0 0 t) (all_labels t) (all_targets nowhere 0 t) (start nowhere 0 t)
laid_sound t c guarded =
    let g : Graph = record { rows = all_rows nowhere 0 0 t; labels = all_labels t; targets = all_targets nowhere 0 t; first = start nowhere 0 t } in
    let env : Env = λ z. End in
    let types = flat env t in
    let whole : AreWhole env = λ z x s. refl in
    let agree : Agree types [] nowhere env = λ z k. absurd (cc) in
    let laid = rows_laid g types nowhere env [] 0 0 t whole agree guarded c (has_all types) (has_all (all_labels t)) (has_all (all_targets nowhere 0 t)) in
    let many = as_many g types (all_rows nowhere 0 0 t) types laid in
    record {
      paired = sym (length-all_targets nowhere 0 t);
      within = rows_within (length (all_labels t)) nowhere 0 0 t (omega arith);
      leads = subst (λ (n : ℕ). AllByRecursion (LeadsWithin n) (all_rows nowhere 0 0 t)) many (rows_lead g types (all_rows nowhere 0 0 t) types laid);
      targets_known = subst (λ (n : ℕ). AllByRecursion (λ m. m < n) (all_targets nowhere 0 t)) many (targets_known types nowhere env [] 0 t whole agree guarded c (has_all types));
      first_known = subst (λ (n : ℕ). start nowhere 0 t < n) many (slice_get_within types (start nowhere 0 t) (unfolded (filled env t)) (starts_stand types nowhere env [] 0 t whole agree guarded c (has_all types)));
    }

mutual
  -- it has no more rows and fewer labels than the type has nodes
  pub size_small : (t : LocalType) → (size t ≤ node_count t) × (length (all_labels t) < node_count t)
  size_small End = (omega arith, omega arith)
  size_small (Var x) = (omega arith, omega arith)
  size_small (Rec x u) = let k = size_small u in (omega arith, omega arith)
  size_small (Send peer sort u) = let k = size_small u in (omega arith, omega arith)
  size_small (Recv peer sort u) = let k = size_small u in (omega arith, omega arith)
  size_small (Select peer b) = let k = branches_small b in (omega arith, omega (arith, length-append (labels b) (branch_labels b)))
  size_small (Branch peer b) = let k = branches_small b in (omega arith, omega (arith, length-append (labels b) (branch_labels b)))

  branches_small : (b : Branches) → (branch_size b ≤ branch_nodes b) × (length (labels b) + length (branch_labels b) ≤ branch_nodes b)
  branches_small NoMore = (omega arith, omega arith)
  branches_small (More label u others) = grind (arith, size_small u, branches_small others, length-append (all_labels u) (branch_labels others))
