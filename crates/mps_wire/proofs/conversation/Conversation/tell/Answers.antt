-- `Conversation::tell` meets its clauses `err` and `ok`, by the lemmas of Calling and Conversing.
use Rattle.std.proofs.Common.{◌≡◌, ℕ, List, [], ◌∷◌, ◌++◌, sym, ap, ◌∙◌}
use Rattle.mps_lines.specs.Lines.{ended}
use Rattle.mps_wire.proofs.Calling.{unwritten_line, broken_line, sent_line}
use Rattle.mps_wire.proofs.Conversing.{on_err_of}
use Rattle.mps_wire.proofs.conversation.Conversation.tell.Goals as goal

-- a text alone, with its LF
ended_alone : (empty text written pushed : List ℕ) → empty ≡ [] → written ≡ empty ++ text → pushed ≡ written ++ 10 ∷ [] → pushed ≡ ended text
ended_alone empty text written pushed e w p = p ∙ ap (λ (l : List ℕ). l ++ 10 ∷ []) (w ∙ ap (λ (l : List ℕ). l ++ text) e)

pub returns-in_err-write_outcome-clause-err : goal.returns-in_err-write_outcome-clause-err
returns-in_err-write_outcome-clause-err g c = λ waits line start r. on_err_of _ _ (unwritten_line g.C.Caller waits line start _ _ r _)

pub returns-in_err-push-clause-err : goal.returns-in_err-push-clause-err
returns-in_err-push-clause-err g c = λ waits line start r. on_err_of _ _ (unwritten_line g.C.Caller waits line start _ _ r _)

pub returns-then-not-may_tell-clause-err : goal.returns-then-not-may_tell-clause-err
returns-then-not-may_tell-clause-err g c = λ waits line start r. unwritten_line g.C.Caller waits line start _ _ r _

pub returns-in-Ok-clause-ok : goal.returns-in-Ok-clause-ok
returns-in-Ok-clause-ok g c = λ waits line start r.
    let t = c.in_ok-write_outcome.ensures.ok in
    let is = ended_alone _ t.0 _ c.push.new.self.items c.clear.ensures.items t.1 c.in_ok-push.ensures.items in
    sent_line g.C.Caller waits line start _ _ r t.0 t.2 (sym c.may_tell.ensures ∙ c.if-not-may_tell.false) _ _ _ (c.as_slice.ensures.value ∙ is) c.in-Ok.ensures.sent

pub returns-clause-err : goal.returns-clause-err
returns-clause-err g c = λ waits line start r.
    let t = c.in_ok-write_outcome.ensures.ok in
    let is = ended_alone _ t.0 _ c.push.new.self.items c.clear.ensures.items t.1 c.in_ok-push.ensures.items in
    broken_line g.C.Caller waits line start _ _ r t.0 t.2 (sym c.may_tell.ensures ∙ c.if-not-may_tell.false) _ _ _ (c.as_slice.ensures.value ∙ is) c.in-Err.ensures.front
