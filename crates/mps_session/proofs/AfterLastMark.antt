-- What comes after a role's last mark, which is found by its name.
use Rattle.std.proofs.Common.{arith, ◌≡◌, ℕ, ◌⊎◌, true, false, List, [], ◌∷◌, ◌++◌, Option, Some, None, refl, sym, ap, ◌∙◌, ⊎_elim, inl, inr, append_assoc}
use Rattle.std.specs.Prelude.{◌==◌, is_some, IsSome, if◌then◌else◌}
use Rattle.std.specs.List.{find}
use Rattle.std.specs.Option.{option_map, option_and_then}
use Rattle.std.proofs.lemmas.Bool.{cases_Bool, cond-true, cond-false, eqb-true}
use Rattle.mps_base.specs.declared.action.Step.{Step}
use Rattle.mps_history.specs.Slots.{value_in}
use Rattle.mps_history.specs.Steps.{IsIn, IsRising, step_of, steps_of}
use Rattle.mps_history.proofs.Order.{filter-IsIn, step_of_member}
use Rattle.mps_history.proofs.Slots.{value_in-bound}
use Rattle.mps_machine.specs.Machine.{is_mark, since_mark}
use Rattle.mps_machine.proofs.Marks.{since_at, since_append}
use Rattle.mps_arena.specs.Keys.{first_key}
use Rattle.mps_arena.specs.KeyedSteps.{KeyedStep, steps, keys_of, of_role, AreSound}
use Rattle.mps_arena.specs.Neighbours.{next_of_role_in, id_in}
use Rattle.mps_links.proofs.Firsts.{id_first}
use Rattle.mps_links.proofs.Links.{next_is}
use Rattle.mps_stores.specs.Stores.{Keys, mark_of, store_after, rebound}
use Rattle.mps_stores.proofs.Bindings.{after_binding, after_other, after_idle}
use Rattle.mps_log.specs.Values.{last_mark}
use Rattle.mps_session.specs.Private.FirstNumber.{first_number}

-- what comes after a mark is of the history
since_in : (name : List ℕ) (h c : List Step) (s : Step) → since_mark name h ≡ Some c → IsIn s c → IsIn s h
since_in name [] c s e i = absurd cc
since_in name (t ∷ h) c s e i =
    ⊎_elim
    (λ (y : is_some (since_mark name h) ≡ true).
    inr (since_in name h c s (sym (cond-true (is_some (since_mark name h)) (since_mark name h) (if is_mark name t.act then Some h else None) y) ∙ e) i))
    (grind (arith, cond-false, cond-true, cases_Bool))
    (cases_Bool (is_some (since_mark name h)))

behind_in : (name : List ℕ) (p : ℕ) (h c : List Step) (s : Step) → since_mark name (steps_of p h) ≡ Some (s ∷ c) → IsIn s h
behind_in name p h c s e = (filter-IsIn (λ t. t.role == p) s h (since_in name (steps_of p h) (s ∷ c) s e (inl refl))).0

-- what comes first after a mark is a step that is there
first_some : (o : Option (List Step)) (n : ℕ) → Some (Some n) ≡ option_map first_number o → (s : Step) × (h : List Step) × (o ≡ Some (s ∷ h)) × (s.id ≡ n)
first_some o n e = grind arith

pub first_there : (name : List ℕ) (p : ℕ) (h : List Step) (n : ℕ) → IsRising h → Some (Some n) ≡ option_map first_number (since_mark name (steps_of p h)) → IsSome (step_of h n)
first_there name p h n rising e = grind (arith, first_some, step_of_member, behind_in)

module _ (name : List ℕ) (p : ℕ) where
  abbrev pub own : List KeyedStep → List Step
  own es = steps_of p (steps es)

  abbrev pub since : List KeyedStep → Option (List Step)
  since es = since_mark name (own es)

  -- the role's last mark of the name has that key
  record IsMarkAt (es : List KeyedStep) (k : ℕ) : Type 0 where
    before : List KeyedStep
    behind : List KeyedStep
    keyed : KeyedStep
    parts : es ≡ before ++ keyed ∷ behind
    key : keyed.key ≡ k
    role : keyed.step.role ≡ p
    since : since_mark name (own es) ≡ Some (own behind)

  -- a keyed step of the role binds the name where it marks it, and else leaves it
  abbrev Binds : Keys → KeyedStep → Type 0
  Binds store x =
      ((is_mark name x.step.act ≡ true) × (value_in name (store_after mark_of p store x) ≡ Some x.key))
      ⊎ ((is_mark name x.step.act ≡ false) × (value_in name (store_after mark_of p store x) ≡ value_in name store))

  binds : (store : Keys) (x : KeyedStep) → (x.step.role == p) ≡ true → Binds store x
  binds store x mine = grind (arith, after_idle, after_binding, eqb-true, value_in-bound, cond-true, cond-false, cases_Bool)

  -- what the name is bound to after the keyed steps: their last mark of it, or what it was bound to
  abbrev Bound : Keys → List KeyedStep → Type 0
  Bound store es =
      ((since_mark name (own es) ≡ None) × (value_in name (rebound mark_of p store es) ≡ value_in name store))
      ⊎ ((k : ℕ) × IsMarkAt es k × (value_in name (rebound mark_of p store es) ≡ Some k))

  own_other : (x : KeyedStep) (es : List KeyedStep) → (x.step.role == p) ≡ false → own (x ∷ es) ≡ own es
  own_other x es f = cond-false (x.step.role == p) (x.step ∷ own es) (own es) f

  own_mine : (x : KeyedStep) (es : List KeyedStep) → (x.step.role == p) ≡ true → own (x ∷ es) ≡ x.step ∷ own es
  own_mine x es t = cond-true (x.step.role == p) (x.step ∷ own es) (own es) t

  -- a mark among the later keyed steps stays the last
  later : (x : KeyedStep) (es : List KeyedStep) (k : ℕ) → IsMarkAt es k → IsMarkAt (x ∷ es) k
  later x es k w = record {
    before = x ∷ w.before;
    behind = w.behind;
    keyed = w.keyed;
    parts = ap (λ (l : List KeyedStep). x ∷ l) w.parts;
    key = w.key;
    role = w.role;
    since =
        grind (arith, own_mine, since_append, own_other, cases_Bool);
  }

  bound_by : (store : Keys) (es : List KeyedStep) → Bound store es
  bound_by store [] = inl (refl, refl)
  bound_by store (x ∷ es) =
      ⊎_elim
      (λ (w : (since_mark name (own es) ≡ None) × (value_in name (rebound mark_of p (store_after mark_of p store x) es) ≡ value_in name (store_after mark_of p store x))).
      ⊎_elim
      (λ (t : (x.step.role == p) ≡ true).
      let here : since_mark name (own (x ∷ es)) ≡ (if is_mark name x.step.act then Some (own es) else None) =
      ap (since_mark name) (own_mine x es t) ∙ since_at name x.step (own es) w.0 in
      ⊎_elim
      (λ (b : (is_mark name x.step.act ≡ true) × (value_in name (store_after mark_of p store x) ≡ Some x.key)).
      let at : IsMarkAt (x ∷ es) x.key = record {
        before = [];
        behind = es;
        keyed = x;
        parts = refl;
        key = refl;
        role = eqb-true x.step.role p t;
        since = here ∙ cond-true (is_mark name x.step.act) (Some (own es)) None b.0;
      } in
      inr (x.key, at, w.1 ∙ b.1))
      (grind (arith, cond-false))
      (binds store x t))
      (grind (arith, own_other, after_other))
      (cases_Bool (x.step.role == p)))
      (grind (arith, later))
      (bound_by (store_after mark_of p store x) es)

  -- where the name is bound to nothing, the role has no mark of it
  pub no_mark : (es : List KeyedStep) → last_mark es p name ≡ None → since_mark name (own es) ≡ None
  no_mark es none = grind (arith, bound_by)

  first_of_role : (h : List Step) → option_map (λ (s : Step). s.id) (find (λ s. s.role == p) h) ≡ first_number (steps_of p h)
  first_of_role [] = refl
  first_of_role (s ∷ h) =
      ⊎_elim
      (λ (t : (s.role == p) ≡ true). rw t refl)
      (λ (f : (s.role == p) ≡ false). rw f (first_of_role h))
      (cases_Bool (s.role == p))

  marked_first : (es : List KeyedStep) (k : ℕ) → AreSound es → IsMarkAt es k → option_map first_number (since_mark name (own es)) ≡ Some (option_and_then (id_in es) (next_of_role_in es k))
  marked_first es k sound w =
      let next : next_of_role_in es k ≡ first_key (keys_of (of_role p) w.behind) =
      ap (next_of_role_in es) (sym w.key) ∙ next_is es sound w.before w.behind w.keyed w.parts ∙ ap (λ (r : ℕ). first_key (keys_of (of_role r) w.behind)) w.role in
      let whole : es ≡ (w.before ++ w.keyed ∷ []) ++ w.behind = w.parts ∙ sym (append_assoc w.before (w.keyed ∷ []) w.behind) in
      grind (arith, id_first, first_of_role)

  -- the role's next step after the one of that key comes first after its last mark of the name
  pub after_mark : (es : List KeyedStep) (k : ℕ) → AreSound es → last_mark es p name ≡ Some k → option_map first_number (since_mark name (own es)) ≡ Some (option_and_then (id_in es) (next_of_role_in es k))
  after_mark es k sound is = grind (arith, marked_first, bound_by)
