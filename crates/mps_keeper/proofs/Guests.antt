-- One caller behind another.
use Rattle.std.proofs.Common.{◌≡◌, ◌≢◌, ◌+◌, ℕ, Bool, List, Option, None, Some, sym, ap, subst, ◌∙◌}
use Rattle.mps_base.specs.declared.value.Value.TheVariants.{Text}
use Rattle.mps_command.specs.declared.answer.Answer.{Answer}
use Rattle.mps_command.specs.declared.answer.Answer.TheVariants as answers
use Rattle.mps_command.specs.declared.command.Command.{Command}
use Rattle.mps_command.specs.declared.command.Command.TheVariants.{Forward}
use Rattle.mps_command.specs.declared.command.Forward.TheVariants.{Send}
use Rattle.mps_line.specs.declared.write_replies.Reply.{Reply}
use Rattle.mps_room.specs.Numbers.{IsNumbered}
use Rattle.mps_room.specs.declared.caller.Caller.{Ghosts}
use Rattle.mps_room.specs.declared.numbers.Told.{Told}
use Rattle.mps_room.specs.declared.numbers.Told.TheVariants.{Fresh, Kept, Wrong, Refused}
use Rattle.mps_wire.specs.Conversations.{IsRequest, RepliesTo, IsToldAs, Unread, Called, Numbered, Starved}

-- a caller over another, whose calls are that one's too
module _ {R C : Type 0} (guest : Ghosts R) (inner : Ghosts C) (within : R → C) where
  pub record IsOver : Type 0 where
    pub names : (r : R) → guest.names r ≡ inner.names (within r)
    pub last : (r : R) → guest.last r ≡ inner.last (within r)
    pub kept : (r : R) → guest.kept r ≡ inner.kept (within r)
    pub calls : (r : R) (x : Command) (a : Answer) (s : R) → guest.calls r x a s → inner.calls (within r) x a (within s)

  module _ (over : IsOver) where
    same_last : (r s : R) → guest.last s ≡ guest.last r → inner.last (within s) ≡ inner.last (within r)
    same_last r s e = sym (over.last s) ∙ e ∙ over.last r

    same_kept : (r s : R) → guest.kept s ≡ guest.kept r → inner.kept (within s) ≡ inner.kept (within r)
    same_kept r s e = sym (over.kept s) ∙ e ∙ over.kept r

    numbered : (r : R) (number : ℕ) (command : Command) (s : R) (t : Told) → IsNumbered guest.calls guest.last guest.kept r number command s t → IsNumbered inner.calls inner.last inner.kept (within r) number command (within s) t
    numbered r number command s Fresh n = record {
      next = subst (λ (l : ℕ). number ≡ l + 1) (over.last r) n.next;
      answer = n.answer;
      call = over.calls r command n.answer s n.call;
      accepted = n.accepted;
      numbered = sym (over.last s) ∙ n.numbered;
      told = sym (over.kept s) ∙ n.told;
    }
    numbered r number command s Kept n = record { again = n.again ∙ over.last r; some = n.some; answer = n.answer; told = sym (over.kept r) ∙ n.told; unchanged = ap within n.unchanged }
    numbered r number command s Wrong n = record {
      not_next = subst (λ (l : ℕ). number ≢ l + 1) (over.last r) n.not_next;
      not_again = subst (λ (l : ℕ). number ≡ l → number ≡ 0) (over.last r) n.not_again;
      unchanged = ap within n.unchanged;
    }
    numbered r number command s (Refused refusal) n = record {
      next = subst (λ (l : ℕ). number ≡ l + 1) (over.last r) n.next;
      call = over.calls r command (answers.Refused refusal) s n.call;
      last_stays = same_last r s n.last_stays;
      kept_stays = same_kept r s n.kept_stays;
    }

    told_as : (s : R) (t : Told) (reply : Reply) → IsToldAs guest s t reply → IsToldAs inner (within s) t reply
    told_as s Fresh reply t = (t.0, sym (over.kept s) ∙ t.1, t.2)
    told_as s Kept reply t = (t.0, sym (over.kept s) ∙ t.1, t.2)
    told_as s Wrong reply t = t
    told_as s (Refused refusal) reply t = t

    -- what the one is replied, the other is
    pub replies_within : (waits : Bool) (line : List ℕ) (r : R) (reply : Reply) (s : R) → RepliesTo guest waits line r reply s → RepliesTo inner waits line (within r) reply (within s)
    replies_within waits line r reply s (Unread u) = Unread (record {
      unreadable = subst (λ (names : List (List ℕ)). (lead : Option ℕ) (command : Command) → IsRequest waits names line lead command → ⊥) (over.names r) u.unreadable;
      bad = u.bad;
      unchanged = ap within u.unchanged;
    })
    replies_within waits line r reply s (Called u) = Called (record {
      command = u.command;
      readable = subst (λ (names : List (List ℕ)). IsRequest waits names line None u.command) (over.names r) u.readable;
      answer = u.answer;
      call = over.calls r u.command u.answer s u.call;
      last_stays = same_last r s u.last_stays;
      kept_stays = same_kept r s u.kept_stays;
      told = u.told;
    })
    replies_within waits line r reply s (Numbered u) = Numbered (record {
      number = u.number;
      command = u.command;
      readable = subst (λ (names : List (List ℕ)). IsRequest waits names line (Some u.number) u.command) (over.names r) u.readable;
      came = u.came;
      numbered = numbered r u.number u.command s u.came u.numbered;
      told = told_as s u.came reply u.told;
    })
    replies_within waits line r reply s (Starved u) = Starved (record {
      lead = u.lead;
      to = u.to;
      value = u.value;
      readable = subst (λ (names : List (List ℕ)). IsRequest waits names line u.lead (Forward (Send u.to (Text u.value)))) (over.names r) u.readable;
      told = u.told;
      unchanged = ap within u.unchanged;
    })

-- what holds of a caller and itself, and over each call, holds over each reply
module _ {R : Type 0} (caller : Ghosts R) (P : R → R → Type 0) (stays : (c : R) → P c c) (leads : (c : R) (x : Command) (a : Answer) (d : R) → caller.calls c x a d → P c d) where
  unmoved : (c d : R) → d ≡ c → P c d
  unmoved c d same = subst (P c) (sym same) (stays c)

  came : (c : R) (number : ℕ) (command : Command) (d : R) (t : Told) → IsNumbered caller.calls caller.last caller.kept c number command d t → P c d
  came c number command d Fresh n = leads c command n.answer d n.call
  came c number command d (Refused refusal) n = leads c command (answers.Refused refusal) d n.call
  came c number command d Kept n = unmoved c d n.unchanged
  came c number command d Wrong n = unmoved c d n.unchanged

  pub by_calls : (waits : Bool) (line : List ℕ) (c : R) (reply : Reply) (d : R) → RepliesTo caller waits line c reply d → P c d
  by_calls waits line c reply d (Unread u) = unmoved c d u.unchanged
  by_calls waits line c reply d (Called s) = leads c s.command s.answer d s.call
  by_calls waits line c reply d (Numbered s) = came c s.number s.command d s.came s.numbered
  by_calls waits line c reply d (Starved s) = unmoved c d s.unchanged
