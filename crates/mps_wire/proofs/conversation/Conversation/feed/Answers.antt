-- `Conversation::feed` meets its clauses `err`, `short` and `ok` and keeps what holds in each turn of its loop, by the lemmas of Calling, Conversing and Taking.
use Rattle.std.proofs.Common.{◌≡◌, ℕ, ◌≤◌, Bool, List, [], ◌∷◌, ◌++◌, length, take, refl, sym, ap, ◌∙◌, subst, arith, length-take}
use Rattle.std.proofs.lemmas.Bool.{eqb-true}
use Rattle.mps_lines.specs.Lines.{front, most_kept}
use Rattle.mps_lines.proofs.Splitting.{front_short}
use Rattle.mps_wire.specs.Conversations.{RepliesInTime, ConversesLine, ConversesBrokenOff, reply_of}
use Rattle.mps_wire.proofs.Calling.{converses_by_front, broken_by_front, whole_is_broken, front_replies}
use Rattle.mps_wire.proofs.Conversing.{on_err_of}
use Rattle.mps_wire.proofs.Taking.{taking_begins, takes_on, taking_breaks, taking_ends, taking_stops}
use Rattle.mps_wire.proofs.conversation.Conversation.feed.Goals as goal
use Rattle.mps_wire.proofs.conversation.Conversation.feed.Goals.{After-tell, then-is_empty, else-is_empty+in_ok-keep}

front_short_enough : (line new : List ℕ) → new ≡ front line → length new ≤ most_kept
front_short_enough line new e = omega (arith, ap length e, length-take most_kept line)

pub loop-k-init : goal.loop-k-init
loop-k-init g c = record { writes = refl; short = c.requires.short; waits = refl; taking = taking_begins (ConversesLine g.C.Caller (g.V.Vigil.waits c.args.vigil.now)) (ConversesBrokenOff g.C.Caller (g.V.Vigil.waits c.args.vigil.now)) _ _ _ _ }

pub returns-in_err-keep-clause-err : goal.returns-in_err-keep-clause-err
returns-in_err-keep-clause-err g c =
    on_err_of _ _ (taking_stops (ConversesLine g.C.Caller (g.V.Vigil.waits c.args.vigil.now)) (ConversesBrokenOff g.C.Caller (g.V.Vigil.waits c.args.vigil.now)) _ _ _ _ c.loop-k.rest.now c.loop-k.self.line.items _ _ c.loop-k.invariant.taking (whole_is_broken g.C.Caller (g.V.Vigil.waits c.args.vigil.now)))

-- after nothing a piece is the whole line
none_before : (line piece : List ℕ) → length line ≡ 0 → front piece ≡ front (line ++ piece)
none_before [] piece e = refl
none_before (c ∷ line) piece e = absurd (omega (arith, e))

-- what is kept of a line has the same front
own_front : (line new : List ℕ) → new ≡ front line → front new ≡ front line
own_front line new e = front_short new (front_short_enough line new e) ∙ e

-- what was made of the line, wherever it stood, is what its front asks for
replied : (g : _) (c : After-tell g) → RepliesInTime g.C.Caller (g.V.Vigil.waits c.loop-k.vigil) (front (c.loop-k.self.line.items ++ take c.in-Some.k c.loop-k.rest.now)) c.loop-k.caller (reply_of c.if-is_empty.outcome (g.C.Caller.kept c.if-is_empty.caller)) c.if-is_empty.caller
replied g c = elim c.if-is_empty.branch [
  | then-is_empty w ↦
      let empty : length c.loop-k.self.line.items ≡ 0 = omega (arith, eqb-true _ 0 (sym w.if-is_empty.ensures), c.loop-k.self.line.ok.0) in
      rw (w.outcome-is, w.caller-is) (front_replies g.C.Caller (g.V.Vigil.waits c.loop-k.vigil) _ _ (none_before _ _ empty) _ _ _ w.take_line_waiting-outcome.ensures.replies)
  | else-is_empty+in_ok-keep w ↦
      rw (w.outcome-is, w.caller-is) (front_replies g.C.Caller (g.V.Vigil.waits c.loop-k.vigil) _ _ (own_front _ _ (w.as_slice.ensures.value ∙ w.in_ok-keep.ensures.ok)) _ _ _ w.take_line_waiting-outcome-else-is_empty.ensures.replies)
]

-- the same, where lines may wait as they might at first
replied_as_first : (g : _) (c : After-tell g) → g.V.Vigil.waits c.loop-k.vigil ≡ g.V.Vigil.waits c.args.vigil.now
    → RepliesInTime g.C.Caller (g.V.Vigil.waits c.args.vigil.now) (front (c.loop-k.self.line.items ++ take c.in-Some.k c.loop-k.rest.now)) c.loop-k.caller (reply_of c.if-is_empty.outcome (g.C.Caller.kept c.if-is_empty.caller)) c.if-is_empty.caller
replied_as_first g c same =
    subst (λ (b : Bool). RepliesInTime g.C.Caller b (front (c.loop-k.self.line.items ++ take c.in-Some.k c.loop-k.rest.now)) c.loop-k.caller (reply_of c.if-is_empty.outcome (g.C.Caller.kept c.if-is_empty.caller)) c.if-is_empty.caller) same (replied g c)

-- whether lines may wait stays as it was
same_waits : (g : _) (c : After-tell g) → g.V.Vigil.waits c.if-is_empty.vigil ≡ g.V.Vigil.waits c.loop-k.vigil
same_waits g c = elim c.if-is_empty.branch [
  | then-is_empty w ↦ rw w.vigil-is w.take_line_waiting-outcome.ensures.waits
  | else-is_empty+in_ok-keep w ↦ rw w.vigil-is w.take_line_waiting-outcome-else-is_empty.ensures.waits
]

pub returns-in_err-tell-clause-err : goal.returns-in_err-tell-clause-err
returns-in_err-tell-clause-err g c =
    let line = c.in_err-tell.ensures.err _ _ _ (replied_as_first g (goal.at.returns-in_err-tell-clause-err g c).After-tell c.loop-k.invariant.waits) in
    on_err_of _ _ (taking_breaks (ConversesLine g.C.Caller (g.V.Vigil.waits c.args.vigil.now)) (ConversesBrokenOff g.C.Caller (g.V.Vigil.waits c.args.vigil.now)) _ _ _ _ c.loop-k.rest.now c.loop-k.self.line.items (front (c.loop-k.self.line.items ++ take c.in-Some.k c.loop-k.rest.now)) _ _ c.in-Some.k c.loop-k.invariant.taking c.in-Some.ensures.within c.in-Some.ensures.end c.in-Some.ensures.before refl (broken_by_front g.C.Caller (g.V.Vigil.waits c.args.vigil.now)) _ _ line)

pub loop-k-preserved : goal.loop-k-preserved
loop-k-preserved g c =
    let line = c.in_ok-tell.ensures.ok _ _ _ (replied_as_first g (goal.at.loop-k-preserved g c).After-tell c.loop-k.invariant.waits) in
    record {
      writes = omega (arith, c.in_ok-tell.ensures.writes, c.loop-k.invariant.writes);
      short = omega (arith, ap length c.clear.ensures.items);
      waits = same_waits g (goal.at.loop-k-preserved g c).After-tell ∙ c.loop-k.invariant.waits;
      taking = takes_on (ConversesLine g.C.Caller (g.V.Vigil.waits c.args.vigil.now)) (ConversesBrokenOff g.C.Caller (g.V.Vigil.waits c.args.vigil.now)) _ _ _ _ c.loop-k.rest.now c.loop-k.self.line.items (front (c.loop-k.self.line.items ++ take c.in-Some.k c.loop-k.rest.now)) _ _ c.in-Some.k c.loop-k.invariant.taking c.in-Some.ensures.within c.in-Some.ensures.end c.in-Some.ensures.before refl (converses_by_front g.C.Caller (g.V.Vigil.waits c.args.vigil.now)) _ _ _ line c.clear.ensures.items;
    }

pub returns-in_err-keep-2-clause-err : goal.returns-in_err-keep-2-clause-err
returns-in_err-keep-2-clause-err g c =
    on_err_of _ _ (taking_stops (ConversesLine g.C.Caller (g.V.Vigil.waits c.args.vigil.now)) (ConversesBrokenOff g.C.Caller (g.V.Vigil.waits c.args.vigil.now)) _ _ _ _ c.loop-k.rest.now c.loop-k.self.line.items _ _ c.loop-k.invariant.taking (whole_is_broken g.C.Caller (g.V.Vigil.waits c.args.vigil.now)))

pub returns-clause-short : goal.returns-clause-short
returns-clause-short g c = front_short_enough _ _ c.in_ok-keep-2.ensures.ok

pub returns-clause-ok : goal.returns-clause-ok
returns-clause-ok g c =
    taking_ends (ConversesLine g.C.Caller (g.V.Vigil.waits c.args.vigil.now)) (ConversesBrokenOff g.C.Caller (g.V.Vigil.waits c.args.vigil.now)) _ _ _ _ c.loop-k.rest.now c.loop-k.self.line.items _ _ c.loop-k.invariant.taking _ c.in_default.ensures.none c.in_ok-keep-2.ensures.ok
