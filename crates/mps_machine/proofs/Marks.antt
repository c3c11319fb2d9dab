-- What a sound state promises of returns to a mark.
use Rattle.std.proofs.Common.{arith, ◌≡◌, ℕ, true, false, List, [], ◌∷◌, ◌++◌, Option, Some, None, Err, refl, sym, ap, ◌∙◌, subst, inl, inr, eq-eqb}
use Rattle.std.specs.Prelude.{◌≢◌, ◌==◌, is_some, if◌then◌else◌}
use Rattle.std.proofs.lemmas.Bool.{cases_Bool, cond-true, cond-false, eqb-true}
use Rattle.std.proofs.lemmas.Slice.Eq.{bytes_eq-Decides}
use Rattle.mps_base.specs.declared.action.Act.{Act}
use Rattle.mps_base.specs.declared.action.Act.TheVariants.{Mark}
use Rattle.mps_base.specs.declared.action.Step.{Step}
use Rattle.mps_command.specs.declared.answer.Refusal.TheVariants.{NoMark}
use Rattle.mps_history.specs.Steps.{IsIn, steps_of}
use Rattle.mps_history.proofs.Order.{IsIn-append_right, IsIn-filter, filter-IsIn}
use Rattle.mps_local.specs.Local.{LocalType}
use Rattle.mps_machine.specs.Machine.{State, is_mark, since_mark, back_to, IsSound}
use Rattle.mps_machine.specs.Undoing.{IsOwn, IsLastMark, ReturnsToMarks}
use Rattle.mps_machine.proofs.Undoing.{own_allowed}

-- what comes after the last mark of a part comes after the last of the whole
pub since_append : (name : List ℕ) (a b c : List Step) → since_mark name b ≡ Some c → since_mark name (a ++ b) ≡ Some c
since_append name [] b c e = e
since_append name (s ∷ a) b c e = cc (since_append name a b c e)

pub since_at : (name : List ℕ) (s : Step) (h : List Step) → since_mark name h ≡ None → since_mark name (s ∷ h) ≡ (if is_mark name s.act then Some h else None)
since_at name s h e = cond-false (is_some (since_mark name h)) (since_mark name h) (if is_mark name s.act then Some h else None) (ap is_some e)

-- an act is a mark of the name exactly where it is that act
is_mark_itself : (name : List ℕ) (act : Act) → act ≡ Mark name → is_mark name act ≡ true
is_mark_itself name act e = ap (is_mark name) e ∙ (bytes_eq-Decides name name).1 refl

no_mark_is : (name : List ℕ) (act : Act) → act ≢ Mark name → is_mark name act ≡ false
no_mark_is name act other = grind (arith, bytes_eq-Decides, cases_Bool)

-- no step of the list marks the name
abbrev HasNoMark : List ℕ → List Step → Type 0
HasNoMark name h = (t : Step) → IsIn t h → t.act ≢ Mark name

since_none : (name : List ℕ) (h : List Step) → HasNoMark name h → since_mark name h ≡ None
since_none name [] none = refl
since_none name (s ∷ h) none =
    since_at name s h (since_none name h (λ t i. none t (inr i)))
    ∙ cond-false (is_mark name s.act) (Some h) None (no_mark_is name s.act (none s (inl refl)))

none_since : (name : List ℕ) (h : List Step) → since_mark name h ≡ None → HasNoMark name h
none_since name [] e = λ t i. absurd i
none_since name (s ∷ h) e = grind (arith, since_append, bytes_eq-Decides, since_at, cond-true, none_since name h)

-- what comes after the last mark is found
since_last : (h : List Step) (p : ℕ) (name : List ℕ) (mark : Step) (behind : List Step) → IsLastMark h p name mark behind → since_mark name (steps_of p h) ≡ Some behind
since_last h p name mark behind w = cc (since_append name w.before (mark ∷ behind) behind (since_at name mark behind (since_none name behind w.last) ∙ cond-true (is_mark name mark.act) (Some behind) None (is_mark_itself name mark.act w.marks)))

-- a return is refused only where there is no mark
refused_none : (st : State) (o : Option (List Step)) → (back_to o st).0 ≡ Err NoMark → o ≡ None
refused_none st o e = grind arith

-- the first step after the mark is the role's own
first_own : (h : List Step) (p : ℕ) (name : List ℕ) (mark s : Step) (behind : List Step) → IsLastMark h p name mark (s ∷ behind) → IsOwn h p s.id s
first_own h p name mark s behind w =
    let there : IsIn s (steps_of p h) = subst (λ (l : List Step). IsIn s l) (sym w.parts) (IsIn-append_right s w.before (mark ∷ s ∷ behind) (inr (inl refl))) in
    grind (arith, filter-IsIn, eqb-true)

pub returns_to_marks : (types : List LocalType) (st : State) → IsSound types st → ReturnsToMarks st
returns_to_marks types st ok =
    let h = st.history in
    record {
      refused = λ p name. (
        λ e s i r. none_since name (steps_of p h) (refused_none st (since_mark name (steps_of p h)) e) s (IsIn-filter (λ t. t.role == p) s h i (eq-eqb s.role p r)),
        λ none. ap (λ (o : Option (List Step)). (back_to o st).0)
            (since_none name (steps_of p h) (λ t i. let k = filter-IsIn (λ x. x.role == p) t h i in none t k.0 (eqb-true t.role p k.1))),
      );
      first = λ p name mark s behind w.
          cc (since_last h p name mark (s ∷ behind) w, own_allowed h p s.id s ok.rising (first_own h p name mark s behind w));
      nothing = λ p name mark w. ap (λ (o : Option (List Step)). back_to o st) (since_last h p name mark [] w);
    }
