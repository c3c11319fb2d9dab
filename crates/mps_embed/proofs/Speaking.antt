-- A line of the role that speaks.
use Rattle.std.proofs.Common.{◌≡◌, ◌<◌, ◌∙◌, ℕ, Bool, true, false, List, slice_get, slice_set, length, Option, Some, refl, sym, ap, subst}
use Rattle.std.specs.Prelude.{if◌then◌else◌, option_and_then}
use Rattle.mps_keeper.specs.Books.{Sealed}
use Rattle.mps_keeper.specs.Trails.{RecordedOn}
use Rattle.mps_command.specs.declared.answer.Answer.{Answer}
use Rattle.mps_line.specs.declared.write_replies.Reply.{Reply}
use Rattle.mps_line.specs.declared.write_replies.Reply.TheVariants.{Unkept}
use Rattle.mps_room.specs.Callers.{entries_of}
use Rattle.mps_room.specs.Numbers.{last_of}
use Rattle.mps_room.specs.declared.entry.Entry.{Entry}
use Rattle.mps_room.specs.RoomState.{RoomState}
use Rattle.mps_room.specs.Solos.{made_of, names_of, same_role}
use Rattle.mps_room.specs.contracts.solo.SoloCaller.TheImpl.{ghosts}
use Rattle.mps_room.specs.declared.numbers.Numbered.{Numbered}
use Rattle.mps_room.specs.declared.numbers.Numbers.{Numbers}
use Rattle.mps_room.specs.declared.solo.Solo.{Solo}
use Rattle.mps_wire.proofs.Making.{reply_keeps}
use Rattle.mps_wire.specs.Conversations.{RepliesTo, reply_of}
use Rattle.mps_wire.specs.declared.reply.Outcome.{Outcome}
use Rattle.mps_wire.specs.declared.reply.Outcome.TheVariants.{Reply as Said}
use Rattle.mps_embed.specs.Embedded.{EmbeddedState, IsAnswered, newest_at}
use Rattle.mps_embed.proofs.Places.{get_set_same, get_set_other}

-- an outcome is told where nothing is lost
pub told_where_whole : (whole : Bool) (outcome stored : Outcome) (kept : Option Answer) → (whole ≡ true → stored ≡ outcome) → (whole ≡ false → stored ≡ Said Unkept) → reply_of stored kept ≡ (if whole then reply_of outcome kept else Unkept)
told_where_whole true outcome stored kept told lost = ap (λ (o : Outcome). reply_of o kept) (told refl)
told_where_whole false outcome stored kept told lost = ap (λ (o : Outcome). reply_of o kept) (lost refl)

-- The numbers stand in a list, but those of the role that spoke last beside it: first, then as the caller's, and then as they
-- are left.
module _ (before after : EmbeddedState) (role : ℕ) (line : List ℕ) (reply : Reply) (first caller left : Solo) (were are : List Numbers) where
  pub answered : before.room ≡ first.room → before.numbers ≡ slice_set were first.role first.numbers
      → caller.room ≡ first.room → caller.role ≡ role → role < length are
      → slice_get (slice_set were first.role first.numbers) role ≡ Some caller.numbers
      → slice_set are caller.role caller.numbers ≡ slice_set were first.role first.numbers
      → RepliesTo ghosts false line caller reply left → after.reply ≡ (if after.whole then reply else Unkept)
      → after.room ≡ left.room → after.numbers ≡ slice_set are left.role left.numbers
      → IsAnswered before role line after
  answered room_is numbers_are same_room turned within own same replies told left_room left_numbers =
      let spoke : left.role ≡ role = reply_keeps ghosts (λ (s : Solo). s.role) same_role false line caller reply left replies ∙ turned in
      let ends : slice_get after.numbers role ≡ Some left.numbers =
      ap (λ (l : List Numbers). slice_get l role) left_numbers
      ∙ subst (λ (r : ℕ). slice_get (slice_set are r left.numbers) role ≡ Some left.numbers) (sym spoke) (get_set_same are role left.numbers within) in
      record {
        caller = caller;
        begins = record { room = same_room ∙ sym room_is; role_is = turned; numbers = ap (λ (l : List Numbers). slice_get l role) numbers_are ∙ own };
        left = left;
        reply = reply;
        replies = replies;
        told = told;
        ends = record { room = sym left_room; role_is = spoke; numbers = ends };
        others = λ other is_other.
            ap (λ (l : List Numbers). slice_get l other) left_numbers
            ∙ get_set_other are left.role other left.numbers (λ e. is_other (e ∙ spoke))
            ∙ sym (get_set_other are caller.role other caller.numbers (λ e. is_other (e ∙ turned)))
            ∙ ap (λ (l : List Numbers). slice_get l other) (same ∙ sym numbers_are);
      }

  -- what is recorded of it, by what the caller's number was and is
  pub recorded_so : before.room ≡ first.room → before.numbers ≡ slice_set were first.role first.numbers
      → caller.room ≡ first.room → caller.role ≡ role → role < length are
      → slice_get (slice_set were first.role first.numbers) role ≡ Some caller.numbers
      → RepliesTo ghosts false line caller reply left
      → after.room ≡ left.room → after.numbers ≡ slice_set are left.role left.numbers
      → (taken : Option Sealed) → before.taken ≡ taken
      → RecordedOn (names_of caller) taken after.taken (last_of caller.numbers.newest) (last_of left.numbers.newest) (made_of caller) (made_of left)
      → RecordedOn before.room.names before.taken after.taken (last_of (newest_at before role)) (last_of (newest_at after role)) (entries_of role before.room.journal) (entries_of role after.room.journal)
  recorded_so room_is numbers_are same_room turned within own replies left_room left_numbers taken taken_is recorded =
      let spoke : left.role ≡ role = reply_keeps ghosts (λ (s : Solo). s.role) same_role false line caller reply left replies ∙ turned in
      let began : newest_at before role ≡ caller.numbers.newest = ap (λ (l : List Numbers). option_and_then (λ (n : Numbers). n.newest) (slice_get l role)) numbers_are ∙ ap (option_and_then (λ (n : Numbers). n.newest)) own in
      let ends : newest_at after role ≡ left.numbers.newest =
      ap (λ (l : List Numbers). option_and_then (λ (n : Numbers). n.newest) (slice_get l role)) left_numbers
      ∙ ap (option_and_then (λ (n : Numbers). n.newest)) (subst (λ (r : ℕ). slice_get (slice_set are r left.numbers) role ≡ Some left.numbers) (sym spoke) (get_set_same are role left.numbers within)) in
      let same : caller.room ≡ before.room = same_room ∙ sym room_is in
      let made : made_of caller ≡ entries_of role before.room.journal = ap (λ (r : ℕ). entries_of r caller.room.journal) turned ∙ ap (λ (r : RoomState). entries_of role r.journal) same in
      let made_then : made_of left ≡ entries_of role after.room.journal = ap (λ (r : ℕ). entries_of r left.room.journal) spoke ∙ ap (λ (r : RoomState). entries_of role r.journal) (sym left_room) in
      subst (λ (es : List Entry). RecordedOn before.room.names before.taken after.taken (last_of (newest_at before role)) (last_of (newest_at after role)) (entries_of role before.room.journal) es) made_then
      (subst (λ (es : List Entry). RecordedOn before.room.names before.taken after.taken (last_of (newest_at before role)) (last_of (newest_at after role)) es (made_of left)) made
      (subst (λ (r : RoomState). RecordedOn r.names before.taken after.taken (last_of (newest_at before role)) (last_of (newest_at after role)) (made_of caller) (made_of left)) same
      (subst (λ (k : Option Sealed). RecordedOn caller.room.names k after.taken (last_of (newest_at before role)) (last_of (newest_at after role)) (made_of caller) (made_of left)) (sym taken_is)
      (subst (λ (n : Option Numbered). RecordedOn caller.room.names taken after.taken (last_of n) (last_of (newest_at after role)) (made_of caller) (made_of left)) (sym began)
      (subst (λ (n : Option Numbered). RecordedOn caller.room.names taken after.taken (last_of caller.numbers.newest) (last_of n) (made_of caller) (made_of left)) (sym ends) recorded)))))
