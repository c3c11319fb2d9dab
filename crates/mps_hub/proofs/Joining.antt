-- From what the parts of a connection do to what it does as a whole.
use Rattle.std.proofs.Common.{◌≡◌, ℕ, ◌-◌, inr, Bool, List, Option, Some, sym, subst}
use Rattle.std.specs.Prelude.{IfSome}
use Rattle.mps_cell.specs.Calls.{Known}
use Rattle.mps_dev.specs.declared.traits.Sink.{Ghosts as SinkGhosts}
use Rattle.mps_dev.specs.declared.traits.Source.{Ghosts as SourceGhosts}
use Rattle.mps_line.specs.declared.write_replies.Reply.{Reply}
use Rattle.mps_line.specs.declared.write_replies.Reply.TheVariants.{Answer as Answered, BadLine, Joined, NoSession, NoRole, Taken, Number as WrongNumber}
use Rattle.mps_line.specs.declared.write_replies.Reply.TheVariants.{Busy, Elsewhere, Unkept}
use Rattle.mps_lines.specs.Lines.{front}
use Rattle.mps_room.specs.declared.caller.Caller.{Ghosts}
use Rattle.mps_hub.specs.Connections.{HasAttended, RepliesToFirst, WasConversation}
use Rattle.mps_hub.specs.Private.Connections.{CameOfJoining, IsAnsweredFirst}
use Rattle.mps_hub.specs.First.{IsFirstLine, IsJoin}
use Rattle.mps_hub.specs.Places.{HasSuchRole, IsKeptBy, IsPassOf, Offer}
use Rattle.mps_hub.specs.Shares.{IsLeftOf}
use Rattle.mps_hub.specs.declared.attending.Attended.{Attended}
use Rattle.mps_hub.specs.declared.attending.Attended.TheVariants.{NoLine, TurnedAway, Conversed, Memory, Unrecorded}
use Rattle.mps_hub.proofs.Bytewise.{joins_whole, joins_front}

pub if_some : {A : Type 0} (found : Option A) (x : A) (P : A → Type 0) → found ≡ Some x → IfSome found P → P x
if_some found x P is h = subst (λ y. IfSome y P) is h

-- the reply to the front of a line is that to the line
replies_whole : {K : Type 0} (offer : Offer) (keepers : List (Option K)) (line kept : List ℕ) (reply : Reply) → kept ≡ front line → RepliesToFirst offer keepers kept reply → RepliesToFirst offer keepers line reply
replies_whole offer keepers line kept BadLine is h = λ session name j. h session name (joins_front line kept session name is j)
replies_whole offer keepers line kept NoSession is h = (h.0, h.1, joins_whole line kept h.0 h.1 is h.2, h.3)
replies_whole offer keepers line kept NoRole is h = (h.0, h.1, joins_whole line kept h.0 h.1 is h.2, h.3, h.4)
replies_whole offer keepers line kept Taken is h = (h.0, h.1, joins_whole line kept h.0 h.1 is h.2, h.3, h.4)
replies_whole offer keepers line kept (Joined session name) is h = (joins_whole line kept session name is h.0, h.1, h.2)
replies_whole offer keepers line kept WrongNumber is h = absurd h
replies_whole offer keepers line kept Busy is h = absurd h
replies_whole offer keepers line kept Unkept is h = absurd h
replies_whole offer keepers line kept Elsewhere is h = absurd h
replies_whole offer keepers line kept (Answered answer) is h = absurd h

offered : (offer : Offer) (session : ℕ) (name : List ℕ) (pass : Known) → IsPassOf offer session name pass → HasSuchRole offer session name
offered offer session name pass h = record { is_session = h.is_session; role = pass.role; named = h.of_role }

module _ {C K R W : Type 0} (caller : Ghosts C) (pass : C → Known) (keeper : C → Option K) (left : C → Option ℕ) (source : SourceGhosts R) (sink : SinkGhosts W) (offer : Offer) (keepers : List (Option K)) (reader mid : R) (writer : W) (kept : List ℕ) (first : IsFirstLine source reader mid kept) where
  -- a first line that got no pass, and its answer
  pub refused : (writer' : W) (reply : Reply) (ended : Attended) → RepliesToFirst offer keepers kept reply → IsAnsweredFirst sink writer writer' reply ended → HasAttended caller pass keeper left source sink offer keepers reader writer mid writer' ended
  refused writer' reply NoLine replies h = absurd h
  refused writer' reply TurnedAway replies h = record {
    kept = kept;
    first = first;
    reply = reply;
    replies = replies_whole offer keepers first.line kept reply first.front_kept replies;
    written = h;
  }
  refused writer' reply (Conversed ending) replies h = absurd h
  refused writer' reply Memory replies h = h
  refused writer' reply Unrecorded replies h = absurd h

  -- a first line that got its pass, and what followed
  pub joined : (session : ℕ) (name : List ℕ) (before after : C) (reader' : R) (writer' : W) (ended : Attended) → (waits : Bool) → waits ≡ offer.waits → CameOfJoining caller waits source sink (Joined session name) before mid writer after reader' writer' ended → IsJoin kept session name → IsPassOf offer session name (pass before) → IsKeptBy keepers (session - offer.first) (keeper before) → IsLeftOf offer.share (left before)
      → HasAttended caller pass keeper left source sink offer keepers reader writer reader' writer' ended
  joined session name before after reader' writer' NoLine waits may h joins taken by share = absurd h
  joined session name before after reader' writer' TurnedAway waits may h joins taken by share = let moved = subst (λ (r : R). IsFirstLine source reader r kept) (sym h.1) first in record {
    kept = kept;
    first = moved;
    reply = Joined session name;
    replies = (joins_whole moved.line kept session name moved.front_kept joins, (taken.is_session, (keeper before, by)), offered offer session name (pass before) taken);
    written = inr h.0;
  }
  joined session name before after reader' writer' (Conversed ending) waits may h joins taken by share = record {
    kept = kept;
    session = session;
    name = name;
    joined = mid;
    first = first;
    joins = joins_whole first.line kept session name first.front_kept joins;
    before = before;
    after = after;
    taken = taken;
    kept_by = by;
    shared = share;
    conversed = subst (λ (b : Bool). WasConversation caller b source sink (Joined session name) before mid writer after reader' writer' ending) may h;
  }
  joined session name before after reader' writer' Memory waits may h joins taken by share = h.0
  joined session name before after reader' writer' Unrecorded waits may h joins taken by share = h.0
