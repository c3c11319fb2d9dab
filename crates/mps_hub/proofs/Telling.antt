-- A caller of which nothing is recorded may always tell what it is answered.
use Rattle.std.proofs.Common.{◌≡◌, Bool, true, false, refl, sym, ap, ◌∙◌}
use Rattle.std.specs.Prelude.{if◌then◌else◌}
use Rattle.mps_wire.specs.declared.conversation.Ending.{Ending}
use Rattle.mps_wire.specs.declared.conversation.Ending.TheVariants.{Closed, ReadFault, WriteFault, Turns, Memory, Untold}
use Rattle.mps_hub.specs.Connections.{EndsForNoLoss}
use Rattle.mps_dev.specs.declared.traits.Sink.{Ghosts as SinkGhosts}
use Rattle.mps_line.specs.declared.write_replies.Reply.{Reply}
use Rattle.mps_hub.specs.Private.Connections.{IsAnsweredFirst}
use Rattle.mps_hub.specs.declared.attending.Attended.{Attended}
use Rattle.mps_hub.specs.declared.attending.Attended.TheVariants.{NoLine, TurnedAway, Conversed, Memory as OutOfMemory, Unrecorded}

module _ {K : Type 0} (records whole : K → Bool) where
  -- whether nothing was lost of what isn't recorded
  abbrev pub idle_whole : K → Bool
  idle_whole k = if records k then false else whole k

  used : (k : K) → records k ≡ true → idle_whole k ≡ false
  used k e = ap (λ (b : Bool). if b then false else whole k) e

  pub unused : (k : K) → records k ≡ false → idle_whole k ≡ whole k
  unused k e = ap (λ (b : Bool). if b then false else whole k) e

  stays_by : (k k' : K) (b : Bool) → records k ≡ b → records k' ≡ records k → (records k ≡ false → k' ≡ k) → idle_whole k' ≡ idle_whole k
  stays_by k k' true e same idle = used k' (same ∙ e) ∙ sym (used k e)
  stays_by k k' false e same idle = ap idle_whole (idle e)

  pub idle_stays : (k k' : K) → records k' ≡ records k → (records k ≡ false → k' ≡ k) → idle_whole k' ≡ idle_whole k
  idle_stays k k' same idle = stays_by k k' (records k) refl same idle

-- how a conversation ended of which all might be told
pub ends_told : (b : Bool) (ending : Ending) → (ending ≡ Untold → b ≡ false) → b ≡ true → EndsForNoLoss (Conversed ending)
ends_told b Closed h w = tt
ends_told b ReadFault h w = tt
ends_told b WriteFault h w = tt
ends_told b Turns h w = tt
ends_told b Memory h w = tt
ends_told b Untold h w = absurd (let bad : true ≡ false = sym w ∙ h refl in cc)

-- a connection that got no pass
pub refused_told : {W : Type 0} (sink : SinkGhosts W) (old new : W) (reply : Reply) (ended : Attended) → IsAnsweredFirst sink old new reply ended → EndsForNoLoss ended
refused_told sink old new reply NoLine h = tt
refused_told sink old new reply TurnedAway h = tt
refused_told sink old new reply (Conversed ending) h = absurd h
refused_told sink old new reply OutOfMemory h = tt
refused_told sink old new reply Unrecorded h = absurd h
