-- What each role did, by the keyed steps and by the replay.
use Rattle.std.proofs.Common.{◌≡◌, ℕ, ◌<◌, ◌≤◌, true, false, List, [], ◌∷◌, ◌++◌, Some, refl, sym, ap, ◌∙◌, arith, inl, append_assoc, append-nil}
use Rattle.std.specs.Prelude.{◌==◌, map}
use Rattle.std.specs.List.{filter, AllByRecursion}
use Rattle.std.proofs.lemmas.Bool.{cases_Bool, cases_lt, cond-true, cond-false, eqb-true, eqb-false, ne_eqb}
use Rattle.std.proofs.lemmas.List.{map-append}
use Rattle.std.proofs.lemmas.List.Elements.{filter-append}
use Rattle.mps_base.specs.declared.action.Step.{Step}
use Rattle.mps_history.specs.Swaps.{Swaps}
use Rattle.mps_local.specs.Local.{LocalType}
use Rattle.mps_machine.specs.View.{Deed, View, opening}
use Rattle.mps_machine.specs.Rule.{replay}
use Rattle.mps_machine.proofs.Stepping.{replay_parts, replay_from, replay-append}
use Rattle.mps_machine.proofs.Swapping.{past_of, past_step, past_stays, one_past_is_one_view, one_view_by_swaps, swaps_lead_to_one_view}
use Rattle.mps_arena.specs.KeyedSteps.{KeyedStep, steps, keys_of, of_role, IsSmall, AreSound}
use Rattle.mps_arena.proofs.Chains.{keys_without}
use Rattle.mps_links.proofs.StepKeys.{none_passes}
use Rattle.mps_log.specs.Shown.{Moved, moved_of, shown}
use Rattle.mps_session.specs.Private.Pasts.{deed_of, deeds_of, past_in}
use Rattle.mps_session.specs.Private.Configurations.{Lists, state_of}
use Rattle.mps_session.specs.Private.Invariant.{Holds}
use Rattle.mps_session.specs.SessionState.{SessionState, moved_from, session_view}
use Rattle.mps_session.proofs.HoldsAfterAct.{v, replayed}
use Rattle.mps_session.proofs.MovedMessages.{moved_is}

module _ (p : ℕ) where
  deeds_with : (m : Moved) (moves : List Moved) → (m.0.role == p) ≡ true → deeds_of p (m ∷ moves) ≡ deed_of m ∷ deeds_of p moves
  deeds_with m moves t = ap (λ (l : List Moved). map deed_of l) (cond-true (m.0.role == p) (m ∷ filter (λ k. k.0.role == p) moves) (filter (λ k. k.0.role == p) moves) t)

  deeds_without : (m : Moved) (moves : List Moved) → (m.0.role == p) ≡ false → deeds_of p (m ∷ moves) ≡ deeds_of p moves
  deeds_without m moves f = ap (λ (l : List Moved). map deed_of l) (cond-false (m.0.role == p) (m ∷ filter (λ k. k.0.role == p) moves) (filter (λ k. k.0.role == p) moves) f)

  -- what role p did in a part of the keyed steps
  abbrev pub did : List KeyedStep → List KeyedStep → List Deed
  did es part = deeds_of p (shown es part)

  pub did-append : (es a b : List KeyedStep) → did es (a ++ b) ≡ did es a ++ did es b
  did-append es a b = grind (arith, map-append, filter-append)

  pub did_own : (es b : List KeyedStep) (y : KeyedStep) → (y.step.role == p) ≡ true → did es (y ∷ b) ≡ deed_of (y.step, moved_of es y) ∷ did es b
  did_own es b y t = deeds_with (y.step, moved_of es y) (shown es b) t

  did_other : (es b : List KeyedStep) (y : KeyedStep) → (y.step.role == p) ≡ false → did es (y ∷ b) ≡ did es b
  did_other es b y f = deeds_without (y.step, moved_of es y) (shown es b) f

  pub did_nothing : (es b : List KeyedStep) → keys_of (of_role p) b ≡ [] → did es b ≡ []
  did_nothing es [] e = refl
  did_nothing es (y ∷ b) e =
      let f : (y.step.role == p) ≡ false = none_passes (of_role p) (y ∷ b) y.step e (inl refl) in
      did_other es b y f ∙ did_nothing es b (sym (keys_without (of_role p) y b f) ∙ e)

  -- a role that no session has did nothing
  did_stranger : (es b : List KeyedStep) → 8 ≤ p → AllByRecursion (λ e. IsSmall e.step) b → did es b ≡ []
  did_stranger es [] large small = refl
  did_stranger es (y ∷ b) large small = grind (arith, cond-false, ne_eqb, did_stranger es b large small.1)

  -- a replay puts what its steps did after the past
  past_from : (types : List LocalType) (a b : List Step) (v w : View) → replay (opening types) a ≡ Some v → replay v b ≡ Some w → past_of w p ≡ past_of v p ++ deeds_of p (moved_from types a b)
  past_from types a [] v w ea eb = cc (append-nil (past_of v p))
  past_from types a (s ∷ b) v w ea eb =
      let parts = replay_parts v w s b eb in
      let u = parts.0 in
      let there : replay (opening types) (a ++ s ∷ []) ≡ Some u = replay-append (opening types) v a (s ∷ []) ea ∙ replay_from v u s [] parts.1 in
      let rest = past_from types (a ++ s ∷ []) b u w there parts.2 in
      grind (arith, v, past_of, eqb-true, past_step, append_assoc, deeds_with, ne_eqb, eqb-false, past_stays, deeds_without, cases_Bool)

  -- what the keyed steps say that a role did is its past
  past_is : (types : List LocalType) (es : List KeyedStep) (v : View) → AreSound es → replay (opening types) (steps es) ≡ Some v → past_in p es ≡ past_of v p
  past_is types es v sound e = ap (deeds_of p) (moved_is types es v sound e) ∙ sym (past_from types [] (steps es) (opening types) v refl e)

module _ (types : List LocalType) (a b : List KeyedStep) (v w : View) (sa : AreSound a) (sb : AreSound b) (ea : replay (opening types) (steps a) ≡ Some v) (eb : replay (opening types) (steps b) ≡ Some w) where
  -- where each of eight roles did the same, so did each role
  each_past : ((p : ℕ) → p < 8 → past_in p a ≡ past_in p b) → (p : ℕ) → past_in p a ≡ past_in p b
  each_past same p = grind (arith, did_stranger, cases_lt)

  one_view : ((p : ℕ) → p < 8 → past_in p a ≡ past_in p b) → v ≡ w
  one_view same = one_past_is_one_view types (steps a) (steps b) v w ea eb (λ p. sym (past_is p types a v sa ea) ∙ each_past same p ∙ past_is p types b w sb eb)

  one_past : v ≡ w → (p : ℕ) → past_in p a ≡ past_in p b
  one_past same p = past_is p types a v sa ea ∙ ap (λ (u : View). past_of u p) same ∙ sym (past_is p types b w sb eb)

-- two sessions have one view just where each role did the same in both, and just where swaps join their histories
pub record AreTold (a b : List KeyedStep) (m n : SessionState) : Type 0 where
  pub views : ((p : ℕ) → p < 8 → past_in p a ≡ past_in p b) → session_view m ≡ session_view n
  pub pasts : session_view m ≡ session_view n → (p : ℕ) → past_in p a ≡ past_in p b
  pub swaps : session_view m ≡ session_view n → Swaps m.state.history n.state.history
  pub swapped : Swaps m.state.history n.state.history → session_view m ≡ session_view n

told_of : (types : List LocalType) (c d : Lists) → Holds types c → Holds types d → AreTold c.keyed_steps d.keyed_steps (record { types = types; state = state_of c }) (record { types = types; state = state_of d })
told_of types c d hc hd = grind (arith, replayed, one_view, v, one_past, one_view_by_swaps, swaps_lead_to_one_view)

pub told : (types others : List LocalType) (c d : Lists) (m n : SessionState) → Holds types c → Holds others d → record { types = types; state = state_of c } ≡ m → record { types = others; state = state_of d } ≡ n → m.types ≡ n.types → AreTold c.keyed_steps d.keyed_steps m n
told types others c d m n hc hd is js same = grind (arith, told_of)
