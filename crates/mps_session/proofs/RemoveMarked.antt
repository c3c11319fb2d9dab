-- Marked steps removed, the newest first.
use Rattle.std.proofs.Common.{◌≡◌, ℕ, ◌+◌, ◌<◌, Bool, true, false, List, [], ◌∷◌, ◌++◌, length, map, not, Option, Some, None, refl, sym, ap, ◌∙◌, subst, arith, ⊎_elim, append_assoc}
use mathlib.Core.Path.{ap₂}
use Rattle.std.specs.Prelude.{◌==◌, reverse, IfSome}
use Rattle.std.specs.List.{filter, AllByRecursion}
use Rattle.std.proofs.lemmas.Bool.{cases_Bool}
use Rattle.std.proofs.lemmas.List.{map-append, length-set, reverse-append}
use Rattle.mps_base.specs.declared.action.Step.{Step}
use Rattle.mps_history.specs.Steps.{numbers, within, without}
use Rattle.mps_history.specs.Dependence.{consequences}
use Rattle.mps_local.specs.Local.{LocalType}
use Rattle.mps_history.proofs.Reaching.{consequences_closed}
use Rattle.mps_machine.specs.Rule.{replay}
use Rattle.mps_machine.proofs.Apart.{left_out}
use Rattle.mps_machine.proofs.Sound.{view_is}
use Rattle.mps_machine.specs.Machine.{State, view_of, IsSound}
use Rattle.mps_arena.specs.KeyedSteps.{KeyedStep, steps, keyed_at, AreSound}
use Rattle.mps_arena.specs.Keys.{last_key}
use Rattle.mps_arena.specs.Neighbours.{CanGo}
use Rattle.mps_arena.proofs.Chains.{keyed_key}
use Rattle.mps_arena.proofs.Keeping.{all_at, keyed_split}
use Rattle.mps_links.specs.Marks.{marked_keys, marked_steps, unmarked_steps, AreMarksClosed, marked_by, unmarked}
use Rattle.mps_links.proofs.Going.{unmarked_stay, one_fewer, last_marked, still_closed, none_go}
use Rattle.mps_links.proofs.Marked.{marked_with, marked_without}
use Rattle.mps_log.proofs.Remarked as remarking
use Rattle.mps_table.specs.Standing.{StandsFor}
use Rattle.mps_session.specs.Private.Configurations.{Lists, cursor_of}
use Rattle.mps_session.specs.Private.Invariant.{AreCursors, ArePlaced, Holds}
use Rattle.mps_session.specs.Private.Leaving.{HasLeft}
use Rattle.mps_session.proofs.HoldsAfterRemoval.{returned_holds}

-- what is kept doesn't depend on marks
module _ (types : List LocalType) (c : Lists) (m : KeyedStep → Bool) (holds : Holds types c) where
  abbrev now : Lists
  now = record c { keyed_steps = remarking.again m c.keyed_steps }

  same : steps now.keyed_steps ≡ steps c.keyed_steps
  same = remarking.steps_again m c.keyed_steps

  placed : ArePlaced types now
  placed a b e is =
      let w = remarking.place_again m c.keyed_steps a b e is in
      subst (λ (y : KeyedStep). StandsFor (cursor_of c y.step.role).table y.before.at ((view_of types (steps a)).participant y.step.role).to_come) (sym w.same)
      (subst (λ (h : List Step). StandsFor (cursor_of c w.keyed.step.role).table w.keyed.before.at ((view_of types h).participant w.keyed.step.role).to_come) (sym (ap steps w.front ∙ remarking.steps_again m w.before))
      (holds.placed w.before w.behind w.keyed w.parts))

  pub again_holds : Holds types now
  again_holds = record {
    sound = subst (λ (h : List Step). let st : State = record { history = h; next = c.issued + 1 } in IsSound types st) (sym same) holds.sound;
    roles = holds.roles;
    peers = holds.peers;
    members = remarking.all_again m (λ s. s.role < length types) c.keyed_steps holds.members;
    kept = remarking.sound_again m c.keyed_steps holds.kept;
    cursors = subst (λ (h : List Step). AreCursors (length types) c.cursors (view_of types h)) (sym same) holds.cursors;
    placed = placed;
    few = holds.few;
  }

  -- the same, where that is what was written
  pub again_holds_as : (keyed_steps : List KeyedStep) (issued : ℕ) → keyed_steps ≡ remarking.again m c.keyed_steps → issued ≡ c.issued → Holds types (record { cursors = c.cursors; keyed_steps = keyed_steps; issued = issued })
  again_holds_as keyed_steps issued is same = grind (arith, same, again_holds)

all_filter : (P : KeyedStep → Type 0) (p : KeyedStep → Bool) (es : List KeyedStep) → AllByRecursion P es → AllByRecursion P (filter p es)
all_filter P p [] a = tt
all_filter P p (x ∷ es) a =
    ⊎_elim
    (λ (t : p x ≡ true). rw t (a.0, all_filter P p es a.1))
    (λ (f : p x ≡ false). rw f (all_filter P p es a.1))
    (cases_Bool (p x))

-- where no step is marked, none is when some go
pub filter_unmarked : (p : KeyedStep → Bool) (es : List KeyedStep) → marked_keys es ≡ [] → marked_keys (filter p es) ≡ []
filter_unmarked p [] e = refl
filter_unmarked p (x ∷ es) e =
    ⊎_elim
    (λ (t : x.marked ≡ true). let no : x.key ∷ marked_keys es ≡ [] = sym (marked_with x es t) ∙ e in absurd cc)
    (λ (f : x.marked ≡ false).
    let rest = filter_unmarked p es (sym (marked_without x es f) ∙ e) in
    grind (arith, marked_without, cases_Bool))
    (cases_Bool x.marked)

-- nor when one joins
pub push_unmarked : (es : List KeyedStep) (x : KeyedStep) → x.marked ≡ false → marked_keys es ≡ [] → marked_keys (es ++ x ∷ []) ≡ []
push_unmarked [] x f e = marked_without x [] f
push_unmarked (y ∷ es) x f e =
    ⊎_elim
    (λ (t : y.marked ≡ true). let no : y.key ∷ marked_keys es ≡ [] = sym (marked_with y es t) ∙ e in absurd cc)
    (λ (g : y.marked ≡ false). marked_without y (es ++ x ∷ []) g ∙ push_unmarked es x f (sym (marked_without y es g) ∙ e))
    (cases_Bool y.marked)

-- marks that were put on and taken off leave nothing
pub unmarked_again : (es : List KeyedStep) (set : ℕ → Bool) → marked_keys es ≡ [] → map unmarked (map (marked_by set) es) ≡ es
unmarked_again [] set e = refl
unmarked_again (x ∷ es) set e =
    ⊎_elim
    (λ (t : x.marked ≡ true). let no : x.key ∷ marked_keys es ≡ [] = sym (marked_with x es t) ∙ e in absurd cc)
    (λ (f : x.marked ≡ false).
    ap₂ (λ (m : Bool) (l : List KeyedStep). let y : KeyedStep = record x { marked = m } in y ∷ l) (sym f) (unmarked_again es set (sym (marked_without x es f) ∙ e)))
    (cases_Bool x.marked)

-- what the marked steps leave so far, and their numbers
pub record AreGoing (first now : Lists) (earlier ids : List ℕ) : Type 0 where
  pub closed : AreMarksClosed now.keyed_steps
  pub members : AllByRecursion (λ e. e.step.role < length now.cursors) now.keyed_steps
  pub told : ids ++ reverse (numbers (marked_steps now.keyed_steps)) ≡ earlier ++ reverse (numbers (marked_steps first.keyed_steps))
  pub left : unmarked_steps now.keyed_steps ≡ unmarked_steps first.keyed_steps
  pub issued : now.issued ≡ first.issued
  pub holds : (types : List LocalType) → Holds types first → Holds types now

module _ (first now next : Lists) (earlier ids : List ℕ) (k : ℕ) (x : KeyedStep) (going : AreGoing first now earlier ids) (sound : AreSound now.keyed_steps) (newest : last_key None (marked_keys now.keyed_steps) ≡ Some k) (found : keyed_at k now.keyed_steps ≡ Some x) (can : CanGo now.keyed_steps k) (left : HasLeft x now next) where
  gone : next.keyed_steps ≡ filter (λ e. not (e.key == k)) now.keyed_steps
  gone = left.keyed_steps ∙ ap (λ (j : ℕ). filter (λ e. not (e.key == j)) now.keyed_steps) (keyed_key k now.keyed_steps x found)

  long : length next.cursors ≡ length now.cursors
  long = ap length left.cursors ∙ length-set now.cursors x.step.role _

  pub going_on : AreGoing first next earlier (ids ++ x.step.id ∷ [])
  going_on = record {
    closed = subst AreMarksClosed (sym gone) (still_closed now.keyed_steps k sound newest going.closed);
    members = rw (long, gone) (all_filter (λ e. e.step.role < length now.cursors) (λ e. not (e.key == k)) now.keyed_steps going.members);
    told =
        append_assoc ids (x.step.id ∷ []) (reverse (numbers (marked_steps next.keyed_steps)))
        ∙ ap (λ (l : List ℕ). ids ++ l)
        (ap (λ (l : List KeyedStep). x.step.id ∷ reverse (numbers (marked_steps l))) gone
        ∙ sym (ap (λ (h : List Step). reverse (numbers h)) (last_marked now.keyed_steps k sound newest x found)
        ∙ ap reverse (map-append (λ (s : Step). s.id) (marked_steps (filter (λ e. not (e.key == k)) now.keyed_steps)) (x.step ∷ []))
        ∙ reverse-append (numbers (marked_steps (filter (λ e. not (e.key == k)) now.keyed_steps))) (x.step.id ∷ [])))
        ∙ going.told;
    left = ap unmarked_steps gone ∙ unmarked_stay now.keyed_steps k sound newest ∙ going.left;
    issued = left.issued ∙ going.issued;
    holds = λ types h. returned_holds types now next k x (going.holds types h) found can left;
  }

  pub fewer : length (marked_keys next.keyed_steps) + 1 ≡ length (marked_keys now.keyed_steps)
  fewer = ap (λ (l : List KeyedStep). length (marked_keys l) + 1) gone ∙ one_fewer now.keyed_steps k sound newest

-- at the end no step is marked
module _ (first now : Lists) (earlier ids : List ℕ) (going : AreGoing first now earlier ids) (none : marked_keys now.keyed_steps ≡ []) where
  pub all_gone : steps now.keyed_steps ≡ unmarked_steps first.keyed_steps
  all_gone = sym (none_go now.keyed_steps none) ∙ going.left

-- a step that can go is there
there : (es : List KeyedStep) (k : ℕ) → CanGo es k → (x : KeyedStep) × (keyed_at k es ≡ Some x)
there es k can = grind arith

-- what holds of all holds of the keyed step of a key
pub role_there : (es : List KeyedStep) (k n len : ℕ) → len ≡ n → AllByRecursion (λ e. e.step.role < n) es → IfSome (keyed_at k es) (λ e. e.step.role < len)
role_there es k n len same all = grind (arith, keyed_split, all_at, same)

-- what was removed leads on from the view that is left
pub leads_back : (types : List LocalType) (st : State) (h : List Step) (n : ℕ) → IsSound types st → h ≡ without st.history (consequences st.history n) → replay (view_of types h) (within st.history (consequences st.history n)) ≡ Some (view_of types st.history)
leads_back types st h n ok is =
    let out = left_out (consequences st.history n) types st.history ok.view ok.rising (consequences_closed st.history n ok.rising) ok.replayed in
    cc (view_is types st ok)

-- each step is of a role that has a cursor
pub members_there : (types : List LocalType) (c : Lists) → Holds types c → AllByRecursion (λ e. e.step.role < length c.cursors) c.keyed_steps
members_there types c holds = subst (λ (n : ℕ). AllByRecursion (λ (e : KeyedStep). e.step.role < n) c.keyed_steps) (sym holds.cursors.long) holds.members

-- one turn, as the code takes it
module _ (first now next : Lists) (earlier ids : List ℕ) (k id : ℕ) (going : AreGoing first now earlier ids) (sound : AreSound now.keyed_steps) (newest : last_key None (marked_keys now.keyed_steps) ≡ Some k) (can : CanGo now.keyed_steps k) (told : IfSome (keyed_at k now.keyed_steps) (λ e. id ≡ e.step.id)) (gone : IfSome (keyed_at k now.keyed_steps) (λ e. HasLeft e now next)) where
  abbrev x : (y : KeyedStep) × (keyed_at k now.keyed_steps ≡ Some y)
  x = there now.keyed_steps k can

  left : HasLeft x.0 now next
  left = subst (λ (o : Option KeyedStep). IfSome o (λ e. HasLeft e now next)) x.1 gone

  number : id ≡ x.0.step.id
  number = subst (λ (o : Option KeyedStep). IfSome o (λ e. id ≡ e.step.id)) x.1 told

  pub turn : AreGoing first next earlier (ids ++ id ∷ [])
  turn = subst (λ (i : ℕ). AreGoing first next earlier (ids ++ i ∷ [])) (sym number) (going_on first now next earlier ids k x.0 going sound newest x.1 can left)

  pub fewer_left : length (marked_keys next.keyed_steps) + 1 ≡ length (marked_keys now.keyed_steps)
  fewer_left = fewer first now next earlier ids k x.0 going sound newest x.1 can left
