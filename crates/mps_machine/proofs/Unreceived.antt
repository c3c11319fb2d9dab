-- What waits is what was sent but the first, as many as were received.
use Rattle.std.proofs.Common.{◌≡◌, ℕ, ◌<◌, true, false, List, [], ◌∷◌, ◌++◌, length, drop, Some, sym, ap, ◌∙◌, arith, append_assoc, append-nil}
use Rattle.std.specs.List.{filter}
use Rattle.std.proofs.lemmas.Bool.{cases_Bool}
use Rattle.mps_base.specs.declared.action.Message.{Message}
use Rattle.mps_base.specs.declared.action.Step.{Step}
use Rattle.mps_history.specs.Steps.{sends, receives, all_given}
use Rattle.mps_machine.specs.View.{View}
use Rattle.mps_machine.specs.Rule.{queue_after, replay}
use Rattle.mps_machine.proofs.Stepping.{rule_parts, replay_parts, a_send_gives, a_receipt_waits}

module _ (p q : ℕ) where
  -- the messages that wait at first, and then those that are sent, without as many as are received
  abbrev left : List Message → List Step → List Message
  left queue h = drop (length (filter (receives p q) h)) (queue ++ all_given (filter (sends p q) h))

  one_step : (v : View) (s : Step) (h : List Step) → (sends p q s ≡ true → receives p q s ≡ false) → (receives p q s ≡ true → 0 < length (v.queue p q)) → left (queue_after p q s (v.queue p q)) h ≡ left (v.queue p q) (s ∷ h)
  one_step v s h apart waits = grind (arith, append_assoc, cases_Bool)

  queue_left : (v w : View) (h : List Step) → replay v h ≡ Some w → w.queue p q ≡ left (v.queue p q) h
  queue_left v w [] e = ap (λ (u : View). u.queue p q) (let same : w ≡ v = cc in same) ∙ sym (append-nil (v.queue p q))
  queue_left v w (s ∷ h) e =
      let parts = replay_parts v w s h e in
      let here = rule_parts v parts.0 s parts.1 in
      queue_left parts.0 w h parts.2
      ∙ ap (λ (u : View). left (u.queue p q) h) (sym here.2)
      ∙ one_step v s h (λ t. (a_send_gives p q s.id s.role s.act t).0) (a_receipt_waits p q s.id s.role s.act v (v.participant s.role) here.0 here.1)

pub queue_is : (v w : View) (h : List Step) (p q : ℕ) → replay v h ≡ Some w → w.queue p q ≡ drop (length (filter (receives p q) h)) (v.queue p q ++ all_given (filter (sends p q) h))
queue_is v w h p q e = queue_left p q v w h e
