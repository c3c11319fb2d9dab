-- `put_history` keeps what holds in each turn of its loop, by the lemmas of Rows.
use Rattle.std.proofs.Common.{◌≡◌, [], ◌∷◌, ◌++◌, ◌<◌, true, refl, append-nil, arith, List, length, map, sym, ap, ◌∙◌, subst, ℕ}
use Rattle.std.proofs.lemmas.List.{length-replicate}
use Rattle.std.specs.List.{AllByRecursion}
use Rattle.std.specs.Prelude.{Option, slice_index_or, decimal}
use Rattle.std.specs.Option.{option_copied}
use Rattle.mps_base.specs.declared.action.Message.{Message}
use Rattle.mps_base.specs.declared.action.Step.{Step}
use Rattle.mps_session.specs.Peers.{IsKnown}
use Rattle.mps_session.specs.SessionState.{moves_of}
use Rattle.mps_show.specs.Private.Rows.{past_text}
use Rattle.mps_show.specs.Plain.{ArePlainItems}
use Rattle.mps_show.specs.Shown.{step_shown}
use Rattle.mps_show.proofs.Rows.{begins_row, row_more, nothing_at, past_more, steps_moved}
use Rattle.serde_json.specs.View.{items_of}
use Rattle.mps_show.proofs.text_state.put_history.Goals as goal

pub loop-moved-init : goal.loop-moved-init
loop-moved-init c =
    let names = c.args.names.now in
    let session = c.args.session.now in
    let is = c.into_iter-moved-iterator.ensures.into_iter_gives ∙ c.moves-moved-items.ensures.moves in
    record {
      text = begins_row c.args.out.now.items c.push.new.self.items (map (step_shown names) c.into_iter-moved-iterator.result) (map (step_shown names) (moves_of session)) c.in_ok-push.ensures.items (ap (map (step_shown names)) is);
      plain = λ h. subst (λ (l : List (Step × Option Message)). ArePlainItems (items_of (map (step_shown names) l))) is h;
      known = subst (λ (l : List (Step × Option Message)). AllByRecursion (λ m. IsKnown (length names) m.0) l) (sym c.into_iter-moved-iterator.ensures.into_iter_gives)
          (subst (λ (n : ℕ). AllByRecursion (λ m. IsKnown n m.0) c.moves-moved-items.result) (sym c.requires.count) c.moves-moved-items.ensures.known);
      pasts = λ p. ap (λ (l : List (List ℕ)). slice_index_or l p [] ++ past_text p (map (λ m. m.0) c.into_iter-moved-iterator.result)) c.requires.pasts
          ∙ ap (λ (l : List ℕ). l ++ past_text p (map (λ m. m.0) c.into_iter-moved-iterator.result)) (nothing_at (length session.types) p)
          ∙ ap (past_text p) (ap (map (λ m. m.0)) is ∙ steps_moved session.types [] session.state.history);
    }

pub loop-moved-preserved : goal.loop-moved-preserved
loop-moved-preserved c =
    let f = step_shown c.args.names.now in
    let left = c.loop-moved.moved-iterator in
    let rest = c.next.new.self in
    let split : left ≡ (c.in-Some.moved.0.now, option_copied c.in-Some.moved.1) ∷ rest = c.in-Some.ensures.steps in
    let known = subst (λ (l : List (Step × Option Message)). AllByRecursion (λ m. IsKnown (length c.args.names.now) m.0) l) split c.loop-moved.invariant.known in
    let within : c.index.result < length c.loop-moved.pasts = omega (arith, known.0.0, c.loop-moved.auto.pasts, ap length c.requires.pasts, length-replicate {A = List ℕ} (length c.args.session.now.types) []) in
    record {
      text = row_more c.loop-moved.out.items c.put_comma.new.out.items c.put_step.new.out.items _ c.loop-moved.later true (f (c.in-Some.moved.0.now, option_copied c.in-Some.moved.1)) (map f left) (map f rest) c.in_ok-put_comma.ensures c.in_ok-put_step.ensures.text refl (ap (map f) split) c.loop-moved.invariant.text;
      plain = λ h. c.loop-moved.invariant.plain (subst (λ (l : List (Step × Option Message)). ArePlainItems (items_of (map f l))) (sym split) (c.in_ok-put_step.ensures.plain, h));
      known = known.1;
      pasts = λ p. past_more c.loop-moved.pasts c.put.new.self c.set.new.self c.index-pasts-index.result c.index.result c.in-Some.moved.0.now (map (λ m. m.0) left) (map (λ m. m.0) rest) p c.index.ensures.place within (c.set.ensures ∙ ap decimal c.number.ensures.number) c.in_ok-put.ensures (ap (map (λ m. m.0)) split) ∙ c.loop-moved.invariant.pasts p;
    }

pub returns-clause-pasts : goal.returns-clause-pasts
returns-clause-pasts c = λ p.
    let past = slice_index_or c.loop-moved.pasts p [] in
    sym (append-nil past) ∙ sym (ap (λ (l : List (Step × Option Message)). past ++ past_text p (map (λ m. m.0) l)) c.in-None.ensures.steps.0) ∙ c.loop-moved.invariant.pasts p
