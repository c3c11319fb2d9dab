-- Two lists of what a role did, compared from the last step back.
use Rattle.std.proofs.Common.{◌≡◌, ℕ, ◌+◌, ◌≤◌, Bool, true, false, not, List, [], ◌∷◌, ◌++◌, length, Option, Some, None, refl, sym, ap, ◌∙◌, subst, arith, ⊎_elim, append_assoc, append-nil, length-append}
use Rattle.std.specs.Prelude.{◌↔◌, is_some, IsTrue}
use Rattle.std.specs.Option.{option_map, option_or}
use Rattle.std.proofs.lemmas.Bool.{eqb-true}
use Rattle.std.proofs.lemmas.List.{append_cancel_right}
use Rattle.mps_base.specs.declared.action.Step.{Step}
use Rattle.mps_machine.specs.View.{Deed}
use Rattle.mps_arena.specs.Keys.{last_key}
use Rattle.mps_arena.specs.KeyedSteps.{KeyedStep, keys_of, of_role, keyed_at, AreSound}
use Rattle.mps_arena.specs.Neighbours.{prev_of_role_in}
use Rattle.mps_arena.proofs.Chains.{keyed_key}
use Rattle.mps_links.proofs.Firsts.{keyed_in}
use Rattle.mps_links.proofs.Lasts.{IsLast, last_is, nothing_last}
use Rattle.mps_links.proofs.Links.{prev_is}
use Rattle.mps_links.proofs.StepKeys.{cases_key}
use Rattle.mps_log.specs.Shown.{moved_of}
use Rattle.mps_log.specs.Values.{given_by, message_taken}
use Rattle.mps_session.specs.Private.Pasts.{deed_of, deed_in, past_in}
use Rattle.mps_session.proofs.Pasts.{did, did-append, did_own, did_nothing}

-- what the step of a key did, by its act and by what it took
module _ (es : List KeyedStep) (k : ℕ) (s : Step) (there : option_map (λ (e : KeyedStep). e.step) (keyed_at k es) ≡ Some s) where
  abbrev deed_at : Deed
  deed_at = record { act = s.act; moved = option_or (given_by s.act) (message_taken es k) }

  deed_at_is : deed_in es k ≡ Some deed_at
  deed_at_is = grind (arith, keyed_key)

module _ (a b : List KeyedStep) (j k : ℕ) (s t : Step) (first : option_map (λ (e : KeyedStep). e.step) (keyed_at j a) ≡ Some s) (second : option_map (λ (e : KeyedStep). e.step) (keyed_at k b) ≡ Some t) where
  pub deeds_from : s.act ≡ t.act → message_taken a j ≡ message_taken b k → deed_in a j ≡ deed_in b k
  deeds_from act took = cc (deed_at_is a j s first, deed_at_is b k t second)

  pub same_taken : deed_in a j ≡ deed_in b k → message_taken a j ≡ message_taken b k
  same_taken e = grind (arith, keyed_key)

-- more than a list ends it
not_empty : (xs ys zs : List Deed) (d : Deed) → zs ≡ ys → xs ++ d ∷ ys ≡ zs → ⊥
not_empty xs ys zs d e h = omega (arith, length-append xs (d ∷ ys), ap length e, ap length h)

same_end : (xs ys us vs : List Deed) (d e : Deed) → us ≡ vs → xs ++ d ∷ us ≡ ys ++ e ∷ vs → d ≡ e
same_end xs ys us vs d e same h =
    let front : xs ++ d ∷ [] ≡ ys ++ e ∷ [] = append_cancel_right (xs ++ d ∷ []) (ys ++ e ∷ []) us
    (append_assoc xs (d ∷ []) us ∙ h ∙ ap (λ (l : List Deed). ys ++ e ∷ l) (sym same) ∙ sym (append_assoc ys (e ∷ []) us)) in
    last_same xs ys front
  where
    last_same : (xs ys : List Deed) → xs ++ d ∷ [] ≡ ys ++ e ∷ [] → d ≡ e
    last_same [] [] k = cc
    last_same [] (y ∷ ys) k = let r : [] ≡ ys ++ e ∷ [] = cc in absurd (omega (arith, ap length r, length-append ys (e ∷ [])))
    last_same (x ∷ xs) [] k = let r : xs ++ d ∷ [] ≡ [] = cc in absurd (omega (arith, ap length r, length-append xs (d ∷ [])))
    last_same (x ∷ xs) (y ∷ ys) k = last_same xs ys (let r : xs ++ d ∷ [] ≡ ys ++ e ∷ [] = cc in r)

module _ (p : ℕ) where
  -- after some place the role's steps were looked at, and the key is that of its last step before
  pub record IsLooked (es : List KeyedStep) (at : Option ℕ) : Type 0 where
    pub front : List KeyedStep
    pub rest : List KeyedStep
    pub parts : es ≡ front ++ rest
    pub key : at ≡ last_key None (keys_of (of_role p) front)

  abbrev starts : (es : List KeyedStep) → IsLooked es (last_key None (keys_of (of_role p) es))
  starts es = record { front = es; rest = []; parts = sym (append-nil es); key = refl }

  module _ (es : List KeyedStep) (at : Option ℕ) (w : IsLooked es at) where
    ended : did p es w.front ≡ [] → past_in p es ≡ did p es w.rest
    ended e = grind (arith, did, did-append)

    nothing_left : at ≡ None → did p es w.front ≡ []
    nothing_left e = did_nothing p es w.front (nothing_last (keys_of (of_role p) w.front) (sym w.key ∙ e))

    module _ (k : ℕ) (is : at ≡ Some k) where
      pub last : IsLast (of_role p) w.front k
      last = last_is (of_role p) w.front k (sym w.key ∙ is)

      abbrev pub x : KeyedStep
      x = last.keyed

      es_is : es ≡ last.before ++ x ∷ (last.behind ++ w.rest)
      es_is = w.parts ∙ ap (λ l. l ++ w.rest) last.parts ∙ append_assoc last.before (x ∷ last.behind) w.rest

      abbrev deed : Deed
      deed = deed_of (x.step, moved_of es x)

      did_now : did p es (x ∷ (last.behind ++ w.rest)) ≡ deed ∷ did p es w.rest
      did_now = grind (arith, did_own, did-append, did, did_nothing)

      past_now : past_in p es ≡ did p es last.before ++ deed ∷ did p es w.rest
      past_now = grind (arith, did, es_is, did-append, did_now)

      module _ (sound : AreSound es) where
        pub here : keyed_at k es ≡ Some x
        here = subst (λ (j : ℕ). keyed_at j es ≡ Some x) last.key (keyed_in es sound.distinct sound.rising last.before (last.behind ++ w.rest) x es_is)

        deed_is : deed_in es k ≡ Some deed
        deed_is = ap (option_map (λ (e : KeyedStep). deed_of (e.step, moved_of es e))) here

        abbrev goes : IsLooked es (prev_of_role_in es k)
        goes = record {
          front = last.before;
          rest = x ∷ (last.behind ++ w.rest);
          parts = es_is;
          key =
              ap (prev_of_role_in es) (sym last.key)
              ∙ prev_is es sound last.before (last.behind ++ w.rest) x es_is
              ∙ ap (λ r. last_key None (keys_of (of_role r) last.before)) (eqb-true x.step.role p last.passes);
        }

  -- what was looked at in both is the same
  pub record AreAlike (a b : List KeyedStep) (at by : Option ℕ) (turns : ℕ) : Type 0 where
    pub first : IsLooked a at
    pub second : IsLooked b by
    pub same : did p a first.rest ≡ did p b second.rest
    pub count : turns ≤ length first.rest

  pub alike_starts : (a b : List KeyedStep) → AreAlike a b (last_key None (keys_of (of_role p) a)) (last_key None (keys_of (of_role p) b)) 0
  alike_starts a b = record { first = starts a; second = starts b; same = refl; count = omega arith }

  module _ (a b : List KeyedStep) (at by : Option ℕ) (turns : ℕ) (w : AreAlike a b at by turns) where
    -- where nothing is left of the first, the pasts are the same just where nothing is left of the second
    second_ends : (r : Bool) → is_some by ≡ not r → did p a w.first.front ≡ [] → IsTrue r ↔ (past_in p a ≡ past_in p b)
    second_ends r told none =
        let all = ended a at w.first none in
        ⊎_elim
        (λ (e : by ≡ None).
        grind (arith, ended b by w.second (nothing_left b by w.second e)))
        (λ (k : (j : ℕ) × (by ≡ Some j)).
        let other = past_now b by w.second k.0 k.1 in
        let more : (past_in p a ≡ past_in p b) → ⊥ = λ s. not_empty (did p b (last b by w.second k.0 k.1).before) (did p b w.second.rest) (did p a w.first.rest) (deed b by w.second k.0 k.1) w.same (sym other ∙ sym s ∙ all) in
        ((λ t. absurd (not_true r (sym told ∙ ap is_some k.1) t)), (λ s. absurd (more s))))
        (cases_key by)
      where
        not_false : (r : Bool) → not r ≡ false → r ≡ true
        not_false true e = refl
        not_false false e = absurd cc

        not_true : (r : Bool) → not r ≡ true → r ≡ true → ⊥
        not_true true e t = cc
        not_true false e t = cc

    pub first_ends : (r : Bool) → is_some by ≡ not r → at ≡ None → IsTrue r ↔ (past_in p a ≡ past_in p b)
    first_ends r told e = second_ends r told (nothing_left a at w.first e)

    pub ends_by_count : (r : Bool) → is_some by ≡ not r → length a ≤ turns → IsTrue r ↔ (past_in p a ≡ past_in p b)
    ends_by_count r told long =
        second_ends r told (empty w.first.front (λ x l e. omega (arith, long, w.count, ap length w.first.parts, length-append w.first.front w.first.rest, ap length e)))
      where
        empty : (l : List KeyedStep) → ((x : KeyedStep) (m : List KeyedStep) → l ≡ x ∷ m → ⊥) → did p a l ≡ []
        empty [] h = refl
        empty (x ∷ m) h = absurd (h x m refl)

    module _ (j : ℕ) (at_is : at ≡ Some j) where
      pub first_longer : by ≡ None → past_in p a ≡ past_in p b → ⊥
      first_longer none s =
          not_empty (did p a (last a at w.first j at_is).before) (did p a w.first.rest) (did p b w.second.rest) (deed a at w.first j at_is) (sym w.same)
          (sym (past_now a at w.first j at_is) ∙ s ∙ ended b by w.second (nothing_left b by w.second none))

      module _ (k : ℕ) (by_is : by ≡ Some k) (sa : AreSound a) (sb : AreSound b) where
        pub first_here : keyed_at j a ≡ Some (x a at w.first j at_is)
        first_here = here a at w.first j at_is sa

        pub second_here : keyed_at k b ≡ Some (x b by w.second k by_is)
        second_here = here b by w.second k by_is sb

        pub must_be_same : past_in p a ≡ past_in p b → deed_in a j ≡ deed_in b k
        must_be_same s =
            deed_is a at w.first j at_is sa
            ∙ ap Some (same_end (did p a (last a at w.first j at_is).before) (did p b (last b by w.second k by_is).before) (did p a w.first.rest) (did p b w.second.rest) (deed a at w.first j at_is) (deed b by w.second k by_is) w.same
            (sym (past_now a at w.first j at_is) ∙ s ∙ past_now b by w.second k by_is))
            ∙ sym (deed_is b by w.second k by_is sb)

        pub alike_goes : deed_in a j ≡ deed_in b k → AreAlike a b (prev_of_role_in a j) (prev_of_role_in b k) (turns + 1)
        alike_goes e =
            let da = deed a at w.first j at_is in
            let db = deed b by w.second k by_is in
            let one : Some da ≡ Some db = sym (deed_is a at w.first j at_is sa) ∙ e ∙ deed_is b by w.second k by_is sb in
            let heads : da ≡ db = cc in
            record {
              first = goes a at w.first j at_is sa;
              second = goes b by w.second k by_is sb;
              same =
                  grind (arith, did_now);
              count = omega (arith, w.count, length-append (last a at w.first j at_is).behind w.first.rest);
            }
