-- What lines are answered in a room of one protocol.
use Rattle.std.proofs.Common.{◌≡◌, ◌≢◌, ◌∙◌, ℕ, Bool, true, false, List, Option, Some, None, get_or, ⊎_elim, sym, ap, subst}
use Rattle.std.specs.Prelude.{if◌then◌else◌, option_map, slice_get, All}
use Rattle.std.proofs.lemmas.Bool.Decides.{eqb_tells}
use Rattle.std.proofs.lemmas.List.Elements.{All-map}
use Rattle.std.proofs.lemmas.Option.{get_or_from_slice_get, same_Some, slice_get-get_or, slice_get-map, slice_get_within}
use Rattle.mps_command.specs.declared.answer.Answer.{Answer}
use Rattle.mps_fidelity.specs.Fidelity.{AreOfOneProtocol, mismatch}
use Rattle.mps_keeper.specs.Restored.{KeepsAccepted}
use Rattle.mps_keeper.proofs.Keeping.{lines_keep}
use Rattle.mps_line.specs.declared.write_replies.Reply.{Reply}
use Rattle.mps_line.specs.declared.write_replies.Reply.TheVariants.{Unkept}
use Rattle.mps_local.specs.declared.merging.Merging.{Merging}
use Rattle.mps_open.proofs.OneProtocol.{one_protocol}
use Rattle.mps_room.specs.Numbers.{kept_of, newest_of}
use Rattle.mps_room.specs.RoomState.{RoomState}
use Rattle.mps_room.specs.contracts.solo.SoloCaller.TheImpl.{ghosts}
use Rattle.mps_room.specs.declared.numbers.Numbered.{Numbered}
use Rattle.mps_room.specs.declared.numbers.Numbers.{Numbers}
use Rattle.mps_room.specs.declared.solo.Solo.{Solo}
use Rattle.mps_wire.specs.Fidelity as wire
use Rattle.mps_wire.proofs.Faithful.{mismatched, reply_free, solo_meets}
use Rattle.mps_embed.specs.Embedded.{EmbeddedState, IsAnswered, IsCallerOf, IsNewRoomOf, IsOnlyTold}
use Rattle.mps_embed.specs.Faithful.{HasNoMismatch, KeepsNoMismatch}
use Rattle.mps_embed.specs.Kept.{IsKeptRoomOf}

-- what holds of each holds of the one at a place, and the other way round
at_place : {X : Type 0} (P : X → Type 0) (xs : List X) (k : ℕ) (x : X) → All P xs → slice_get xs k ≡ Some x → P x
at_place P xs k x all at = subst P (get_or_from_slice_get xs k x x at) (all k x (slice_get_within xs k x at))

each_place : {X : Type 0} (P : X → Type 0) (xs : List X) → ((k : ℕ) (x : X) → slice_get xs k ≡ Some x → P x) → All P xs
each_place P xs each k d inside = each k (get_or xs k d) (slice_get-get_or xs k d inside)

-- ---- rooms to begin with

accepted_is_other : (newest : Option Numbered) → KeepsAccepted newest → (answer : Answer) → kept_of newest ≡ Some answer → answer ≢ mismatch
accepted_is_other None ok answer kept = cc
accepted_is_other (Some n) ok answer kept = λ m. cc

pub new_free : (merging : Merging) (text : List ℕ) (e : EmbeddedState) → IsNewRoomOf merging text e → HasNoMismatch e
new_free merging text e new = record {
  of_one_protocol = one_protocol merging text e.room.names e.room.types new.types;
  keep_none = λ k d inside. accepted_is_other (get_or e.numbers k d).newest (subst KeepsAccepted (sym (new.unnumbered k d inside)) tt);
}

pub kept_free : (merging : Merging) (text : List ℕ) (e : EmbeddedState) → IsKeptRoomOf merging text e → HasNoMismatch e
kept_free merging text e kept =
    let led = kept.led in
    let blank = All-map KeepsAccepted (λ (n : Numbers). n.newest) led.blank (λ k d inside. subst KeepsAccepted (sym (led.none k d inside)) tt) in
    let all = lines_keep kept.names kept.types _ led.lines _ blank led.restored in
    record {
      of_one_protocol = subst AreOfOneProtocol (sym led.types_are) (one_protocol merging text kept.names kept.types kept.of_text);
      keep_none = each_place KeepsNoMismatch e.numbers (λ k n at. accepted_is_other n.newest (at_place KeepsAccepted (newest_of e.numbers) k n.newest all (slice_get-map (λ (x : Numbers). x.newest) e.numbers k ∙ ap (option_map (λ (x : Numbers). x.newest)) at)));
    }

-- ---- lines

begins_free : (e : EmbeddedState) (role : ℕ) (caller : Solo) → HasNoMismatch e → IsCallerOf e role caller → wire.HasNoMismatch ghosts (λ s. s.room.types) caller
begins_free e role caller free c = record {
  of_one_protocol = subst (λ (r : RoomState). AreOfOneProtocol r.types) (sym c.room) free.of_one_protocol;
  keeps_none = at_place KeepsNoMismatch e.numbers role caller.numbers free.keep_none c.numbers;
}

told_is_other : (whole : Bool) (reply told : Reply) → told ≡ (if whole then reply else Unkept) → reply ≢ mismatched → told ≢ mismatched
told_is_other true reply told e other = λ m. other (sym e ∙ m)
told_is_other false reply told e other = λ m. cc

module _ (before : EmbeddedState) (role : ℕ) (line : List ℕ) (after : EmbeddedState) (free : HasNoMismatch before) (a : IsAnswered before role line after) where
  replied : (a.reply ≢ mismatched) × wire.HasNoMismatch ghosts (λ s. s.room.types) a.left
  replied = reply_free ghosts (λ s. s.room.types) solo_meets false line a.caller a.reply a.left (begins_free before role a.caller free a.begins) a.replies

  pub answered_other : after.reply ≢ mismatched
  answered_other = told_is_other after.whole a.reply after.reply a.told replied.0

  numbers_free : (k : ℕ) (n : Numbers) → slice_get after.numbers k ≡ Some n → KeepsNoMismatch n
  numbers_free k n at =
      ⊎_elim
      (λ same. subst KeepsNoMismatch (same_Some a.left.numbers n (sym (subst (λ (p : ℕ). slice_get after.numbers p ≡ Some a.left.numbers) (sym same.1) a.ends.numbers) ∙ at)) replied.1.keeps_none)
      (λ other. at_place KeepsNoMismatch before.numbers k n free.keep_none (sym (a.others k other.1) ∙ at))
      (eqb_tells k role)

  pub answered_free : HasNoMismatch after
  answered_free = record {
    of_one_protocol = subst (λ (r : RoomState). AreOfOneProtocol r.types) a.ends.room replied.1.of_one_protocol;
    keep_none = each_place KeepsNoMismatch after.numbers numbers_free;
  }

pub told_free : (reply : Reply) (before after : EmbeddedState) → HasNoMismatch before → IsOnlyTold reply before after → HasNoMismatch after
told_free reply before after free told = record {
  of_one_protocol = subst (λ (r : RoomState). AreOfOneProtocol r.types) (sym told.room) free.of_one_protocol;
  keep_none = subst (All KeepsNoMismatch) (sym told.numbers) free.keep_none;
}
