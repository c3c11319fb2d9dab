-- What a conversation was answered is recorded.
use Rattle.std.proofs.Common.{arith, ◌≡◌, ℕ, zero, suc, Bool, true, false, List, [], ◌∷◌, ◌++◌, refl, sym, ap, subst, ◌∙◌, append_assoc, append-nil}
use Rattle.std.specs.Prelude.{Option, if◌then◌else◌}
use Rattle.mps_command.specs.declared.answer.Answer.{Answer}
use Rattle.mps_command.specs.declared.command.Command.{Command}
use Rattle.mps_line.specs.declared.write_replies.Reply.{Reply}
use Rattle.mps_lines.specs.Lines.{ended}
use Rattle.mps_room.specs.Callers.{entry}
use Rattle.mps_room.specs.Journal.{is_accepted, grown}
use Rattle.mps_room.specs.declared.caller.Caller.{Ghosts}
use Rattle.mps_room.specs.declared.entry.Entry.{Entry}
use Rattle.mps_wire.specs.Answers.{AnswersBrokenOff, AnswersLines}
use Rattle.mps_wire.specs.Conversations.{RepliesTo, LooksInVain, RepliesInTime, AtOnce, Later, ConversesLine, ConversesBrokenOff}
use Rattle.mps_wire.proofs.Calling.{whole_is_broken}
use Rattle.mps_keeper.specs.Books.{Sealed, TookMore, bytes_of}
use Rattle.mps_keeper.specs.Recorded.{IsRecorded, IsSettled}
use Rattle.mps_keeper.specs.Trails.{SpellEntries, RecordedOn, WrittenIsRecorded}
use Rattle.mps_keeper.proofs.Counting.{counts_on}
use Rattle.mps_keeper.proofs.Guests.{by_calls}
use Rattle.mps_keeper.proofs.Sealed.{sealed_more, sealed_none}
use Rattle.mps_keeper.proofs.Taking.{more_trans, no_more}
use Rattle.mps_keeper.specs.declared.recorder.Recorder.{Ghosts as RecorderGhosts}

spell_all : (names : List (List ℕ)) (a : List (List ℕ)) (m : List (Option ℕ)) (d : List Entry) (b : List (List ℕ)) (n : List (Option ℕ)) (e : List Entry) → SpellEntries names a m d → SpellEntries names b n e → SpellEntries names (a ++ b) (m ++ n) (d ++ e)
spell_all names [] [] [] b n e h k = k
spell_all names (l ∷ a) (i ∷ m) (x ∷ d) b n e h k = (h.0, spell_all names a m d b n e h.1 k)
spell_all names other others further b n e h k = absurd h

-- Callers of whose calls it is known what they record.
module _ {R : Type 0} (caller : Ghosts R) (records whole : R → Bool) (taken : R → Option Sealed) where
  -- where c records lines so does d; what was made from c to d is recorded then, where d is whole
  pub record Leads (c d : R) : Type 0 where
    pub names : caller.names d ≡ caller.names c
    pub same : records d ≡ records c
    pub before : whole d ≡ true → whole c ≡ true
    pub goes : records c ≡ true → whole d ≡ true → RecordedOn (caller.names c) (taken c) (taken d) (caller.last c) (caller.last d) (caller.made c) (caller.made d)
    pub more : TookMore (bytes_of (taken c)) (bytes_of (taken d))

  nothing : (c : R) → RecordedOn (caller.names c) (taken c) (taken c) (caller.last c) (caller.last c) (caller.made c) (caller.made c)
  nothing c = record { lines = []; numbers = []; entries = []; grown = sym (append-nil (caller.made c)); counted = refl; spelled = tt; took = sealed_none (taken c) }

  nowhere : (c : R) → Leads c c
  nowhere c = record { names = refl; same = refl; before = λ w. w; goes = λ k w. nothing c; more = no_more (bytes_of (taken c)) }

  stays : (c d : R) → d ≡ c → Leads c d
  stays c d same = subst (Leads c) (sym same) (nowhere c)

  joined : (c m d : R) → caller.names m ≡ caller.names c → RecordedOn (caller.names c) (taken c) (taken m) (caller.last c) (caller.last m) (caller.made c) (caller.made m) → RecordedOn (caller.names m) (taken m) (taken d) (caller.last m) (caller.last d) (caller.made m) (caller.made d)
      → RecordedOn (caller.names c) (taken c) (taken d) (caller.last c) (caller.last d) (caller.made c) (caller.made d)
  joined c m d names first next = record {
    lines = first.lines ++ next.lines;
    numbers = first.numbers ++ next.numbers;
    entries = first.entries ++ next.entries;
    grown = next.grown ∙ ap (λ (l : List Entry). l ++ next.entries) first.grown ∙ append_assoc (caller.made c) first.entries next.entries;
    counted = counts_on (caller.last c) (caller.last m) (caller.last d) first.numbers next.numbers first.counted next.counted;
    spelled = spell_all (caller.names c) first.lines first.numbers first.entries next.lines next.numbers next.entries first.spelled (subst (λ (n : List (List ℕ)). SpellEntries n next.lines next.numbers next.entries) names next.spelled);
    took = sealed_more (taken c) (taken m) (taken d) first.lines next.lines first.took next.took;
  }

  further : (c m d : R) → Leads c m → Leads m d → Leads c d
  further c m d h k = record {
    names = k.names ∙ h.names;
    same = k.same ∙ h.same;
    before = λ w. h.before (k.before w);
    goes = λ s w. joined c m d h.names (h.goes s (k.before w)) (k.goes (h.same ∙ s) w);
    more = more_trans (bytes_of (taken c)) (bytes_of (taken m)) (bytes_of (taken d)) h.more k.more;
  }

  module _ (leads : (c : R) (x : Command) (a : Answer) (d : R) → caller.calls c x a d → Leads c d) where
    pub replied : (waits : Bool) (line : List ℕ) (c : R) (reply : Reply) (d : R) → RepliesTo caller waits line c reply d → Leads c d
    replied = by_calls caller Leads nowhere leads

    looked : (line : List ℕ) (n : ℕ) (c d : R) → LooksInVain caller line n c d → Leads c d
    looked line zero c d l = stays c d l
    looked line (suc n) c d l = further c l.0 d (looked line n c l.0 l.2) (replied true line l.0 l.1 d l.3)

    -- Lines that may wait, or may not.
    module _ (waits : Bool) where
      in_time : (line : List ℕ) (c : R) (reply : Reply) (d : R) → RepliesInTime caller waits line c reply d → Leads c d
      in_time line c reply d (AtOnce none r) = replied waits line c reply d r
      in_time line c reply d (Later w) = further c w.mid d (looked w.rest w.looks c w.mid w.in_vain) (replied true w.rest w.mid reply d w.replies)

      pub lines_lead : (lines : List (List ℕ)) (c : R) (out : List ℕ) (d : R) → AnswersLines (ConversesLine caller waits) lines c out d → Leads c d
      lines_lead [] c out d a = stays c d a.1
      lines_lead (l ∷ lines) c out d a = further c a.2 d (in_time l c a.4.line_is.reply a.2 a.4.line_is.replies) (lines_lead lines a.2 a.1 d a.5)

      pub broken_leads : (lines : List (List ℕ)) (c : R) (out : List ℕ) (d : R) → AnswersBrokenOff (ConversesLine caller waits) (ConversesBrokenOff caller waits) lines c out d → Leads c d
      broken_leads [] c out d a = stays c d a.1
      broken_leads (l ∷ []) c out d a = in_time l c a.reply d a.replies
      broken_leads (l ∷ m ∷ lines) c out d a = further c a.2 d (in_time l c a.4.line_is.reply a.2 a.4.line_is.replies) (broken_leads (m ∷ lines) a.2 a.1 d a.5)

      -- one line more in front of answers, the last of which breaks off
      longer : (l : List ℕ) (done : List (List ℕ)) (c m e : R) (out others : List ℕ) (text : List ℕ) → out ≡ ended text ++ others → ConversesLine caller waits l c text m → AnswersBrokenOff (ConversesLine caller waits) (ConversesBrokenOff caller waits) done m others e → AnswersBrokenOff (ConversesLine caller waits) (ConversesBrokenOff caller waits) (l ∷ done) c out e
      longer l done c m e out others text is line a = grind (arith, append-nil, whole_is_broken)

      at_last : (l : List ℕ) (c : R) (written : List ℕ) (d : R) → records c ≡ true → whole c ≡ true → ((r : R) → caller.may_tell r ≡ whole r) → (b : Bool) → whole d ≡ b → ConversesBrokenOff caller waits l c written d → WrittenIsRecorded caller waits taken (l ∷ []) c written d
      at_last l c written d s w tells true on a = record { asked = l ∷ []; others = []; first = refl; reached = d; answered = a; whole = tells d ∙ on; recorded = (in_time l c a.reply d a.replies).goes s on; since = no_more (bytes_of (taken d)) }
      at_last l c written d s w tells false off a = record { asked = []; others = l ∷ []; first = refl; reached = c; answered = (a.silent (tells d ∙ off), refl); whole = tells c ∙ w; recorded = nothing c; since = (in_time l c a.reply d a.replies).more }

      pub written_is_recorded : ((r : R) → caller.may_tell r ≡ whole r) → (lines : List (List ℕ)) (c : R) (written : List ℕ) (d : R) → records c ≡ true → whole c ≡ true → AnswersBrokenOff (ConversesLine caller waits) (ConversesBrokenOff caller waits) lines c written d → WrittenIsRecorded caller waits taken lines c written d
      written_is_recorded tells [] c written d s w a = record { asked = []; others = []; first = refl; reached = c; answered = (a.0, refl); whole = tells c ∙ w; recorded = nothing c; since = (stays c d a.1).more }
      written_is_recorded tells (l ∷ []) c written d s w a = at_last l c written d s w tells (whole d) refl a
      written_is_recorded tells (l ∷ m ∷ lines) c written d s w a =
          let mid : whole a.2 ≡ true = sym (tells a.2) ∙ a.4.aloud in
          let first = in_time l c a.4.line_is.reply a.2 a.4.line_is.replies in
          let more = written_is_recorded tells (m ∷ lines) a.2 a.1 d (first.same ∙ s) mid a.5 in
          record {
            asked = l ∷ more.asked;
            others = more.others;
            first = ap (λ (x : List (List ℕ)). l ∷ x) more.first;
            reached = more.reached;
            answered = longer l more.asked c a.2 more.reached written a.1 a.0 a.3 a.4 more.answered;
            whole = more.whole;
            recorded = joined c a.2 more.reached first.names (first.goes s mid) more.recorded;
            since = more.since;
          }

-- One call that is recorded.
module _ {K C : Type 0} (recorder : RecorderGhosts K) (caller : Ghosts C) where
  settled : (k : K) (c : C) (command : Command) (k' : K) (d : C) (a : Answer) (b : Bool) → IsSettled recorder caller k c command k' d b → caller.made d ≡ (if b then caller.made c ++ entry (caller.role c) command a ∷ [] else caller.made c) → RecordedOn (caller.names c) (recorder.taken k) (recorder.taken k') (caller.last c) (caller.last d) (caller.made c) (caller.made d)
  settled k c command k' d a true h grows = record {
    lines = h.line ∷ [];
    numbers = h.number ∷ [];
    entries = entry (caller.role c) command a ∷ [];
    grown = grows;
    counted = h.numbered;
    spelled = (h.spelled, tt);
    took = h.added;
  }
  settled k c command k' d a false h grows = record {
    lines = [];
    numbers = [];
    entries = [];
    grown = grows ∙ sym (append-nil (caller.made c));
    counted = h.last_stays;
    spelled = tt;
    took = h.nothing;
  }

  pub recorded : (k : K) (c : C) (command : Command) (k' : K) (d : C) (a : Answer) → IsRecorded recorder caller k c command k' d a → caller.made d ≡ grown (caller.made c) (caller.role c) command a → recorder.records k ≡ true → recorder.whole k' ≡ true → RecordedOn (caller.names c) (recorder.taken k) (recorder.taken k') (caller.last c) (caller.last d) (caller.made c) (caller.made d)
  recorded k c command k' d a h grows s w = settled k c command k' d a (is_accepted a) (h.settled s w) grows
