-- What lines answer a script or a conversation in a session of one protocol.
use Rattle.std.proofs.Common.{arith, ◌≡◌, ◌≢◌, ⊎_elim, ℕ, zero, suc, Bool, true, List, [], ◌∷◌, ◌++◌, refl, sym, ap, ◌∙◌, subst, append_assoc, append-nil}
use Rattle.std.specs.Prelude.{codes, ⊤}
use Rattle.std.specs.List.{AllByRecursion, flat_map}
use Rattle.std.proofs.lemmas.Option.{same_Some}
use Rattle.mps_line.specs.Replies.{SpellsReply}
use Rattle.mps_line.specs.declared.write_replies.Reply.{Reply}
use Rattle.mps_line.specs.declared.write_replies.Reply.TheVariants.{Answer as Answered}
use Rattle.mps_line.proofs.ShownLines.{no_line_feed}
use Rattle.mps_local.specs.Local.{LocalType}
use Rattle.mps_room.specs.declared.caller.Caller.{Ghosts}
use Rattle.mps_room.specs.contracts.solo.SoloCaller.TheImpl.{ghosts}
use Rattle.mps_room.specs.declared.entry.Entry.{Entry}
use Rattle.mps_room.proofs.Faithful.{answer_other}
use Rattle.mps_fidelity.specs.Fidelity.{AreOfOneProtocol}
use Rattle.mps_wire.specs.Answers.{Answering, AnswersBrokenOff, AnswersLines, BreaksOffAnywhere}
use Rattle.mps_wire.specs.Fidelity.{mismatch, MeetsNoMismatch, HasNoMismatch}
use Rattle.mps_wire.specs.Conversations.{ConversesLine, ConversesBrokenOff}
use Rattle.mps_wire.specs.Conversations as conversations
use Rattle.mps_lines.specs.Lines.{HasNoBreak, ended, IsSplit}
use Rattle.mps_wire.specs.Script.{RepliesInScript, AnswersLine}

-- a line ends at its first break
one_line : (x y a b : List ℕ) → HasNoBreak x → HasNoBreak y → x ++ 10 ∷ a ≡ y ++ 10 ∷ b → (x ≡ y) × (a ≡ b)
one_line [] [] a b n m e = (refl, let k : a ≡ b = cc in k)
one_line (c ∷ x) (d ∷ y) a b n m e =
    let k : c ≡ d = cc in
    let l : x ++ 10 ∷ a ≡ y ++ 10 ∷ b = cc in
    let r = one_line x y a b n.1 m.1 l in
    grind arith
one_line other others a b n m e = grind arith

line_and : (y a b : List ℕ) → (ended y ++ a) ++ b ≡ y ++ 10 ∷ (a ++ b)
line_and y a b = append_assoc (ended y) a b ∙ append_assoc y (10 ∷ []) (a ++ b)

-- what holds of each of some texts holds of the lines that their bytes begin with
each_line : (P : List ℕ → Type 0) (texts lines : List (List ℕ)) (more : List ℕ) → AllByRecursion HasNoBreak texts → AllByRecursion HasNoBreak lines → flat_map ended texts ≡ flat_map ended lines ++ more → AllByRecursion P texts → AllByRecursion P lines
each_line P texts [] more n m e a = tt
each_line P [] (y ∷ lines) more n m e a = absurd (nothing y (flat_map ended lines ++ more) (e ∙ line_and y (flat_map ended lines) more))
  where
    nothing : (y a : List ℕ) → [] ≡ y ++ 10 ∷ a → ⊥
    nothing [] a e = cc
    nothing (c ∷ y) a e = cc
each_line P (x ∷ texts) (y ∷ lines) more n m e a =
    let k = one_line x y (flat_map ended texts) (flat_map ended lines ++ more) n.0 m.0 (sym (append_assoc x (10 ∷ []) (flat_map ended texts)) ∙ e ∙ line_and y (flat_map ended lines) more) in
    (subst P k.0 a.0, each_line P texts lines more n.1 m.1 k.1 a.1)

abbrev pub mismatched : Reply
mismatched = Answered mismatch

-- the refusal's line
spelled : SpellsReply (codes "refused mismatch") mismatched
spelled = record { spellings = codes "refused" ∷ codes "mismatch" ∷ []; joined = refl; each = (refl, (refl, tt)) }

abbrev pub Fits : List ℕ → Type 0
Fits text = text ≢ codes "refused mismatch"

-- a text on one line that isn't the refusal's
abbrev IsFit : List ℕ → Type 0
IsFit text = HasNoBreak text × Fits text

-- Lines of which each is answered by such a text, as long as something holds of the state.
module _ {S : Type 0} (answers : Answering S) (Holds : S → Type 0) (each : (line : List ℕ) (st : S) (text : List ℕ) (after : S) → Holds st → answers line st text after → IsFit text × Holds after) where
  -- the texts that make up the answers
  texts_of : (lines : List (List ℕ)) (st after : S) (out : List ℕ) → Holds st → AnswersLines answers lines st out after → (texts : List (List ℕ)) × (out ≡ flat_map ended texts) × AllByRecursion HasNoBreak texts × AllByRecursion Fits texts
  texts_of [] st after out h a = ([], a.0, tt, tt)
  texts_of (line ∷ lines) st after out h (text, others, mid, whole, here, there) =
      let e = each line st text mid h here in
      let t = texts_of lines mid after others e.1 there in
      (text ∷ t.0, whole ∙ ap (λ (l : List ℕ). ended text ++ l) t.1, (e.0.0, t.2), (e.0.1, t.3))

  -- the lines of what was written, where more may follow
  pub written_fits : (asked lines : List (List ℕ)) (st after : S) (out written unwritten rest : List ℕ) → Holds st → AnswersLines answers asked st out after → out ≡ written ++ unwritten → IsSplit written lines rest → AllByRecursion Fits lines
  written_fits asked lines st after out written unwritten rest h a e split = grind (arith, texts_of, each_line, append_assoc)

-- a room's caller is refused none
pub solo_meets : MeetsNoMismatch ghosts (λ s. s.room.types)
solo_meets = record {
  same_types = λ s command answer t call. call.types;
  other = λ s command answer t own call. answer_other s.room.names s.room.types own s.room.journal s.role command answer call.answer;
}

module _ {C : Type 0} (caller : Ghosts C) (types : C → List LocalType) (none : MeetsNoMismatch caller types) where
  pub reply_free : (waits : Bool) (line : List ℕ) (c : C) (r : Reply) (d : C) → HasNoMismatch caller types c → conversations.RepliesTo caller waits line c r d → (r ≢ mismatched) × HasNoMismatch caller types d
  reply_free waits line c r d free others = grind (arith, same_Some)

  looks_free : (line : List ℕ) (n : ℕ) (c d : C) → HasNoMismatch caller types c → conversations.LooksInVain caller line n c d → HasNoMismatch caller types d
  looks_free line zero c d free l = subst (HasNoMismatch caller types) (sym l) free
  looks_free line (suc n) c d free l = (reply_free true line l.0 l.1 d (looks_free line n c l.0 free l.2) l.3).1

-- ---- scripts

module _ (one_reply : (a : List ℕ) (r s : Reply) → SpellsReply a r → SpellsReply a s → r ≡ s) where
  -- the text of another reply
  text_fits : (text : List ℕ) (reply : Reply) → SpellsReply text reply → reply ≢ mismatched → IsFit text
  text_fits text reply says other =
      (no_line_feed text reply says, λ e. other (one_reply (codes "refused mismatch") reply mismatched (subst (λ (b : List ℕ). SpellsReply b reply) e says) spelled))

  module _ (names : List (List ℕ)) (types : List LocalType) (own : AreOfOneProtocol types) where
    reply_fits : (line : List ℕ) (j after : List Entry) (r : Reply) → RepliesInScript names types line j r after → r ≢ mismatched
    reply_fits line j after r other = grind (arith, answer_other)

    pub script_line : (line : List ℕ) (j : List Entry) (text : List ℕ) (after : List Entry) → ⊤ → AnswersLine names types line j text after → IsFit text × ⊤
    script_line line j text after h a = (text_fits text a.reply a.spelled (reply_fits line j after a.reply a.replies), tt)

    pub script_fits : (asked lines : List (List ℕ)) (out written unwritten rest : List ℕ) (after : List Entry) → AnswersLines (AnswersLine names types) asked [] out after → out ≡ written ++ unwritten → IsSplit written lines rest → AllByRecursion Fits lines
    script_fits asked lines out written unwritten rest after a e split =
        written_fits (AnswersLine names types) (λ j. ⊤) script_line asked lines [] after out written unwritten rest tt a e split

    -- the same of answers up to some place in them
    pub broken_fits : (asked lines : List (List ℕ)) (written rest : List ℕ) → BreaksOffAnywhere (AnswersLine names types) [] asked written → IsSplit written lines rest → AllByRecursion Fits lines
    broken_fits asked lines written rest a split = script_fits a.answered lines a.out written a.unwritten rest a.after a.answers_lines a.broken split

  -- ---- conversations

  module _ {C : Type 0} (caller : Ghosts C) (types : C → List LocalType) (none : MeetsNoMismatch caller types) where
    -- Lines that may wait, or may not.
    module _ (waits : Bool) where
      in_time_free : (line : List ℕ) (c : C) (r : Reply) (d : C) → HasNoMismatch caller types c → conversations.RepliesInTime caller waits line c r d → (r ≢ mismatched) × HasNoMismatch caller types d
      in_time_free line c r d free (conversations.AtOnce unlike at_once) = reply_free caller types none waits line c r d free at_once
      in_time_free line c r d free (conversations.Later w) = reply_free caller types none true w.rest w.mid r d (looks_free caller types none w.rest w.looks c w.mid free w.in_vain) w.replies

      conversed_line : (line : List ℕ) (c : C) (text : List ℕ) (d : C) → HasNoMismatch caller types c → conversations.RepliesInText caller waits line c text d → IsFit text × HasNoMismatch caller types d
      conversed_line line c text d free a =
          let r = in_time_free line c a.reply d free a.replies in
          (text_fits text a.reply a.spelled r.0, r.1)

      -- the same lines, whether they may be told or not
      abbrev said : Answering C
      said line c text d = conversations.RepliesInText caller waits line c text d

      lines_said : (lines : List (List ℕ)) (c : C) (out : List ℕ) (d : C) → AnswersLines (ConversesLine caller waits) lines c out d → AnswersLines said lines c out d
      lines_said [] c out d a = a
      lines_said (l ∷ lines) c out d a = (a.0, a.1, a.2, a.3, a.4.line_is, lines_said lines a.2 a.1 d a.5)

      said_fits : (asked lines : List (List ℕ)) (c d : C) (out written unwritten rest : List ℕ) → HasNoMismatch caller types c → AnswersLines said asked c out d → out ≡ written ++ unwritten → IsSplit written lines rest → AllByRecursion Fits lines
      said_fits asked lines c d out written unwritten rest free a e split =
          written_fits said (HasNoMismatch caller types) conversed_line asked lines c d out written unwritten rest free a e split

      pub conversation_fits : (asked lines : List (List ℕ)) (c d : C) (out written unwritten rest : List ℕ) → HasNoMismatch caller types c → AnswersLines (ConversesLine caller waits) asked c out d → out ≡ written ++ unwritten → IsSplit written lines rest → AllByRecursion Fits lines
      conversation_fits asked lines c d out written unwritten rest free a e split = said_fits asked lines c d out written unwritten rest free (lines_said asked c out d a) e split

      -- of answers of which the last breaks off, those of which something is written, whole
      completed : (lines : List (List ℕ)) (c : C) (written : List ℕ) (d : C) → AnswersBrokenOff (ConversesLine caller waits) (ConversesBrokenOff caller waits) lines c written d
          → (told : List (List ℕ)) × (unwritten : List ℕ) × (e : C) × AnswersLines said told c (written ++ unwritten) e
      completed [] c written d a = ([], [], d, (ap (λ (l : List ℕ). l ++ []) a.0, a.1))
      completed (l ∷ []) c written d a =
          ⊎_elim
          (λ (none : written ≡ []). ([], [], c, (ap (λ (w : List ℕ). w ++ []) none, refl)))
          (λ (f : (text : List ℕ) × (unwritten : List ℕ) × SpellsReply text a.reply × (ended text ≡ written ++ unwritten)).
          (l ∷ [], f.1, d, (f.0, [], d, sym f.3 ∙ sym (append-nil (ended f.0)), record { reply = a.reply; replies = a.replies; spelled = f.2 }, (refl, refl))))
          a.begun
      completed (l ∷ m ∷ lines) c written d a =
          let more = completed (m ∷ lines) a.2 a.1 d a.5 in
          (l ∷ more.0, more.1, more.2, (a.0, a.1 ++ more.1, a.2, ap (λ (x : List ℕ). x ++ more.1) a.3 ∙ append_assoc (ended a.0) a.1 more.1, a.4.line_is, more.3))

      pub conversation_broken_fits : (asked lines : List (List ℕ)) (c d : C) (written rest : List ℕ) → HasNoMismatch caller types c → AnswersBrokenOff (ConversesLine caller waits) (ConversesBrokenOff caller waits) asked c written d → IsSplit written lines rest → AllByRecursion Fits lines
      conversation_broken_fits asked lines c d written rest free a split =
          let w = completed asked c written d a in
          said_fits w.0 lines c w.2 (written ++ w.1) written w.1 rest free w.3 refl split
