-- The steps of a closed set without commits can be undone, the newest first.
use Rattle.std.proofs.Common.{◌≡◌, ℕ, ◌+◌, ◌<◌, ◌⊎◌, Bool, true, false, not, List, [], ◌∷◌, ◌++◌, length, Result, refl, sym, ap, ◌∙◌, subst, arith, ⊎_elim, inl, eq-eqb, length-append, append_assoc}
use Rattle.std.specs.Prelude.{◌==◌, ◌&&◌}
use Rattle.std.specs.List.{filter, AllByRecursion}
use Rattle.std.proofs.lemmas.Bool.{cases_Bool, cond-false, eqb-true, ne_eqb, not_from_true, not_from_false, false≢true}
use Rattle.std.proofs.lemmas.List.Elements.{filter-append}
use Rattle.mps_base.specs.declared.action.Step.{Step}
use Rattle.mps_command.specs.declared.answer.Refusal.{Refusal}
use Rattle.mps_command.specs.declared.command.Change.TheVariants.{Undo}
use Rattle.mps_local.specs.Local.{LocalType}
use Rattle.mps_history.specs.Dependence.{DependsOn, Directly, Through, IsClosed}
use Rattle.mps_history.specs.Steps.{IsIn, IsRising, without}
use Rattle.mps_history.proofs.Least.{filter_twice, closed_in_rest}
use Rattle.mps_history.proofs.Order.{at_member, from_members, filter-IsIn, IsIn-append, IsIn-append_right, rising_apart, same_step, IsRising-append_right}
use Rattle.mps_history.proofs.Reaching.{earlier, DependsOn-earlier}
use Rattle.mps_history.proofs.Removal.{filter-all}
use Rattle.mps_machine.specs.Machine.{State, undo, undone, Request, after, IsSound}
use Rattle.mps_machine.specs.Runs.{AreUndos}
use Rattle.mps_machine.specs.Undoing.{IsUnneeded}
use Rattle.mps_machine.proofs.Moves.{Spares}
use Rattle.mps_machine.proofs.Sound.{without_sound}
use Rattle.mps_machine.proofs.Undoing.{refuses_needed}

-- steps whose order is turned, before others
abbrev pub turned : List Step → List Step → List Step
turned [] b = b
turned (x ∷ r) b = turned r (x ∷ b)

-- what comes after stays after
turned-append : (r b : List Step) → turned r b ≡ turned r [] ++ b
turned-append [] b = refl
turned-append (x ∷ r) b =
    turned-append r (x ∷ b)
    ∙ sym (append_assoc (turned r []) (x ∷ []) b)
    ∙ ap (λ l. l ++ b) (sym (turned-append r (x ∷ [])))

-- each list is one whose order is turned
pub turn : (h r : List Step) → (q : List Step) × (turned r h ≡ turned q [])
turn [] r = (r, refl)
turn (x ∷ h) r = turn h (x ∷ r)

-- what depends on a member of a closed set is a member
carried : (h : List Step) (set : ℕ → Bool) → IsClosed h set → {t s : Step} → IsIn t h → IsIn s h → DependsOn h t s → set s.id ≡ true → set t.id ≡ true
carried h set closed it is (Directly t s e) m = closed t s it is m e
carried h set closed it is (Through t u s i e d) m = closed t u it i (carried h set closed i is d m) e

-- undos that take back the steps of a set: one for each
pub record TakenBack (types : List LocalType) (st : State) (gone : ℕ → Bool) : Type 0 where
  pub undos : List Request
  pub back : AreUndos undos
  pub leads : after types st undos ≡ record st { history = without st.history gone }
  pub each : length (without st.history gone) + length undos ≡ length st.history

-- the newest step of a closed set
module _ (a b : List Step) (x : Step) (gone : ℕ → Bool) (rising : IsRising (a ++ x ∷ b)) (closed : IsClosed (a ++ x ∷ b) gone) (member : gone x.id ≡ true) (newest : AllByRecursion (λ t. gone t.id ≡ false) b) where
  abbrev h : List Step
  h = a ++ x ∷ b

  -- it is in the history
  pub x_in : IsIn x h
  x_in = IsIn-append_right x a (x ∷ b) (inl refl)

  -- no later step is in the set
  none_later : (t : Step) → IsIn t h → gone t.id ≡ true → x.id < t.id → ⊥
  none_later t i e less =
      ⊎_elim
      (λ (j : IsIn t a). let below = rising_apart a (x ∷ b) t x rising j (inl refl) in omega arith)
      (λ (j : (t ≡ x) ⊎ IsIn t b).
      ⊎_elim
      (λ (same : t ≡ x). let equal : t.id ≡ x.id = ap (λ (y : Step). y.id) same in omega arith)
      (λ (k : IsIn t b). false≢true (sym (at_member (λ u. gone u.id ≡ false) b t newest k) ∙ e))
      j)
      (IsIn-append t a (x ∷ b) i)

  -- so no step depends on it
  pub unneeded : IsUnneeded h x
  unneeded t i d = none_later t i (carried h gone closed i x_in d member) (DependsOn-earlier h d)

  -- and it alone is closed
  pub alone : IsClosed h (λ m. m == x.id)
  alone t s it is e d =
      let same = same_step h s x rising is x_in (eqb-true s.id x.id e) in
      let less = earlier h t s d in
      let went = closed t s it is (ap (λ (y : Step). gone y.id) same ∙ member) d in
      absurd (none_later t it went (subst (λ (y : Step). y.id < t.id) same less))

  -- the other steps have other numbers
  before_stay : filter (λ t. not (t.id == x.id)) a ≡ a
  before_stay = filter-all (λ t. not (t.id == x.id)) a (from_members (λ t. not (t.id == x.id) ≡ true) a (λ t i. let less = rising_apart a (x ∷ b) t x rising i (inl refl) in not_from_false (t.id == x.id) (ne_eqb t.id x.id (λ e. omega arith))))

  after_stay : filter (λ t. not (t.id == x.id)) b ≡ b
  after_stay = filter-all (λ t. not (t.id == x.id)) b (from_members (λ t. not (t.id == x.id) ≡ true) b (λ t i. let more = at_member (λ u. x.id < u.id) b t (IsRising-append_right a (x ∷ b) rising).0 i in not_from_false (t.id == x.id) (ne_eqb t.id x.id (λ e. omega arith))))

  -- so without it the others are left
  pub taken_out : without h (λ m. m == x.id) ≡ a ++ b
  taken_out =
      filter-append (λ t. not (t.id == x.id)) a (x ∷ b)
      ∙ ap (λ l. l ++ filter (λ t. not (t.id == x.id)) (x ∷ b)) before_stay
      ∙ ap (λ l. a ++ l) (cond-false (not (x.id == x.id)) (x ∷ filter (λ t. not (t.id == x.id)) b) (filter (λ t. not (t.id == x.id)) b) (not_from_true (x.id == x.id) (eq-eqb x.id x.id refl)) ∙ after_stay)

  -- it goes with the set
  pub goes_with : without (without h (λ m. m == x.id)) gone ≡ without h gone
  goes_with =
      filter_twice (λ t. not (gone t.id)) (λ t. not (t.id == x.id)) (λ t. not (gone t.id)) h
      (from_members (λ t. not (gone t.id) ≡ (not (t.id == x.id) && not (gone t.id))) h (λ t i. grind (arith, eqb-true, cases_Bool (t.id == x.id))))

-- the newest step of the set is undone first
module _ (types : List LocalType) (gone : ℕ → Bool) (a b : List Step) (x : Step) (st : State) (ok : IsSound types st) (split : st.history ≡ a ++ x ∷ b) (member : gone x.id ≡ true) (newest : AllByRecursion (λ t. gone t.id ≡ false) b) (closed : IsClosed st.history gone) (spares : Spares st.history gone) where
  -- what holds of the history, by its parts
  rising : IsRising (a ++ x ∷ b)
  rising = subst IsRising split ok.rising

  closed_here : IsClosed (a ++ x ∷ b) gone
  closed_here = subst (λ (l : List Step). IsClosed l gone) split closed

  there : IsIn x st.history
  there = rw split (x_in a b x gone rising closed_here member newest)

  -- the step is closed, and can be undone
  undone_alone : IsClosed st.history (λ m. m == x.id)
  undone_alone = rw split (alone a b x gone rising closed_here member newest)

  undoes : undo st x.role x.id ≡ undone st x.id
  undoes =
      (refuses_needed types st ok).free x.role x.id x (record { survives = there; role = refl; number = refl })
      (λ commit. false≢true (sym (spares x there commit) ∙ member))
      (rw split (unneeded a b x gone rising closed_here member newest))

  abbrev next : State
  next = record st { history = without st.history (λ m. m == x.id) }

  -- what is left
  next_history : next.history ≡ a ++ b
  next_history = rw split (taken_out a b x gone rising closed_here member newest)

  same_left : without next.history gone ≡ without st.history gone
  same_left = rw split (goes_with a b x gone rising closed_here member newest)

  one_less : length next.history + 1 ≡ length st.history
  one_less = grind (arith, next_history, split, length-append)

  -- after it the others of the set go
  pub newest_goes : (IsSound types next → next.history ≡ a ++ b → IsClosed next.history gone → Spares next.history gone → TakenBack types next gone) → TakenBack types st gone
  newest_goes others =
      let rest = others (without_sound types st (λ m. m == x.id) ok undone_alone) next_history (closed_in_rest st.history (λ m. m == x.id) ok.rising undone_alone gone closed) (λ c i commit. spares c (filter-IsIn (λ t. not (t.id == x.id)) c st.history i).0 commit) in
      record {
        undos = (x.role, Undo x.id) ∷ rest.undos;
        back = (tt, rest.back);
        leads = ap (λ (r : Result (List ℕ) Refusal × State). after types r.1 rest.undos) undoes ∙ rest.leads ∙ ap (λ (l : List Step). let left : State = record st { history = l } in left) same_left;
        each = grind (arith, rest.each, same_left, one_less);
      }

-- so all steps of the set go, from the end of the history to its front
pub takes_back : (types : List LocalType) (gone : ℕ → Bool) (r b : List Step) (st : State) → IsSound types st → st.history ≡ turned r b → AllByRecursion (λ t. gone t.id ≡ false) b → IsClosed st.history gone → Spares st.history gone → TakenBack types st gone
takes_back types gone [] b st ok e none closed spares =
    let all : without st.history gone ≡ st.history = grind (arith, filter-all, from_members, at_member, not_from_false) in
    record {
      undos = [];
      back = tt;
      leads = ap (λ (l : List Step). let left : State = record st { history = l } in left) (sym all);
      each = ap (λ l. length l + 0) all ∙ omega arith;
    }
takes_back types gone (x ∷ r) b st ok e none closed spares =
    ⊎_elim
    (λ (member : gone x.id ≡ true).
    let split = e ∙ turned-append r (x ∷ b) in
    newest_goes types gone (turned r []) b x st ok split member none closed spares
    (λ sound left shut spared. takes_back types gone r b (record st { history = without st.history (λ m. m == x.id) }) sound (left ∙ sym (turned-append r b)) none shut spared))
    (λ (stays : gone x.id ≡ false). takes_back types gone r (x ∷ b) st ok e (stays, none) closed spares)
    (cases_Bool (gone x.id))
