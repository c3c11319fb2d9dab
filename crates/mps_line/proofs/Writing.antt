-- What is written in several steps.
use Rattle.std.proofs.Common.{arith, ◌≡◌, ℕ, ◌+◌, List, [], ◌∷◌, ◌++◌, get_or, append_assoc, append-nil, refl, sym, ap, ◌∙◌}
use Rattle.std.proofs.Math.Seq.{take-append_seam}
use Rattle.std.proofs.lemmas.List.{take-append-drop, take_more, map-append}
use Rattle.std.specs.Io.{StartsWith}
use Rattle.std.specs.Prelude.{◌<◌, ⊤, Result, Ok, Err, is_ok, if◌then◌else◌, Option, OnOk, OnErr, length, take, drop, map, codes}
use Rattle.mps_base.specs.Appends.{AppendsSuch}
use Rattle.mps_base.specs.declared.action.Message.{Message}
use Rattle.mps_command.specs.Shown.{IsShownText}
use Rattle.mps_command.specs.declared.answer.Answer.TheVariants.{Refused}
use Rattle.mps_command.specs.declared.answer.Refusal.TheVariants.{Violation as Violates, NoStep, NotYours, NoMark, Full, Memory}
use Rattle.mps_command.specs.declared.answer.Violation.{Violation}
use Rattle.mps_line.specs.declared.write_replies.Reply.TheVariants.{Answer as Answered, BadLine, NoSession, NoRole, Taken, Number as WrongNumber}
use Rattle.mps_line.specs.declared.write_replies.Reply.TheVariants.{Busy, Elsewhere, Unkept}
use Rattle.mps_line.specs.Replies.{word_of, done_tokens, news_tokens, SpellsReply}
use Rattle.mps_line.specs.Tokens.{Token, Word, Number, Show, SpellsNumber, SpellsToken, SpellsLine}
use Rattle.mps_line.proofs.Splitting.{after_token, joined, alone, line_of_one}

-- what is written after what was written
pub written_more : {T E : Type 0} (P Q : List ℕ → Type 0) (r : Result T E) (old pushed new front : List ℕ) → pushed ≡ old ++ front → ((text : List ℕ) → P text → Q (front ++ text)) → OnOk r (AppendsSuch P pushed new) → OnOk r (AppendsSuch Q old new)
written_more P Q r old pushed new front f g a = grind (arith, append_assoc)

-- a token and a space in front of a line
pub token_before : {T E : Type 0} (names : List (List ℕ)) (r : Result T E) (old pushed new bytes : List ℕ) (t u : Token) (ts : List Token) → SpellsToken names bytes t → pushed ≡ old ++ (bytes ++ 32 ∷ []) → OnOk r (AppendsSuch (λ text. SpellsLine names text (u ∷ ts)) pushed new) → OnOk r (AppendsSuch (λ text. SpellsLine names text (t ∷ u ∷ ts)) old new)
token_before names r old pushed new bytes t u ts h e = search (written_more, joined, append_assoc, arith)

-- a token that was written, and a space after it
pub token_written : {T E : Type 0} (names : List (List ℕ)) (r : Result T E) (old mid pushed new : List ℕ) (t u : Token) (ts : List Token) → AppendsSuch (λ text. SpellsToken names text t) old mid → pushed ≡ mid ++ 32 ∷ [] → OnOk r (AppendsSuch (λ text. SpellsLine names text (u ∷ ts)) pushed new) → OnOk r (AppendsSuch (λ text. SpellsLine names text (t ∷ u ∷ ts)) old new)
token_written names r old mid pushed new t u ts a p b = grind (arith, token_before, append_assoc)

-- a word and a space in front of some tokens
pub word_before : {T E : Type 0} (names : List (List ℕ)) (r : Result T E) (old pushed new letters : List ℕ) (ts : List Token) → 0 < length ts → pushed ≡ old ++ (letters ++ 32 ∷ []) → OnOk r (AppendsSuch (λ text. SpellsLine names text ts) pushed new) → OnOk r (AppendsSuch (λ text. SpellsLine names text (Word letters ∷ ts)) old new)
word_before names r old pushed new letters [] some e b = absurd (omega (arith, some))
word_before names r old pushed new letters (u ∷ ts) some e b = token_before names r old pushed new letters (Word letters) u ts refl e b

-- a word that was written, and a space after it
pub word_written : {T E : Type 0} (names : List (List ℕ)) (r : Result T E) (old mid pushed new letters : List ℕ) (ts : List Token) → 0 < length ts → mid ≡ old ++ letters → pushed ≡ mid ++ 32 ∷ [] → OnOk r (AppendsSuch (λ text. SpellsLine names text ts) pushed new) → OnOk r (AppendsSuch (λ text. SpellsLine names text (Word letters ∷ ts)) old new)
word_written names r old mid pushed new letters ts some a p b = grind (arith, word_before, append_assoc)

some_done : (id : ℕ) (got : Option Message) → 0 < length (done_tokens id got)
some_done id got = grind arith

pub done_before : {T E : Type 0} (r : Result T E) (old pushed new : List ℕ) (id : ℕ) (got : Option Message) → pushed ≡ old ++ codes "done " → OnOk r (AppendsSuch (λ text. SpellsLine [] text (done_tokens id got)) pushed new) → OnOk r (AppendsSuch (λ text. SpellsLine [] text (Word (codes "done") ∷ done_tokens id got)) old new)
done_before r old pushed new id got e b = word_before [] r old pushed new (codes "done") (done_tokens id got) (some_done id got) e b

-- the length of the journal after its word
pub news_before : (old pushed new : List ℕ) (n : ℕ) → pushed ≡ old ++ codes "news " → AppendsSuch (λ text. SpellsNumber text n) pushed new → AppendsSuch (λ text. SpellsLine [] text (news_tokens n [])) old new
news_before old pushed new n e a = grind (arith, append_assoc old (codes "news ") a.0, joined [] (codes "news " ++ a.0) (Word (codes "news")) (Number n) [] a.0 (record { front = codes "news"; parts = refl; spelled = refl }) (line_of_one [] a.0 (Number n) a.2))

-- a shown session alone
pub show_written : {T E : Type 0} (r : Result T E) (old new bytes text : List ℕ) → new ≡ (if is_ok r then old ++ bytes else old) → bytes ≡ text → IsShownText text → OnOk r (AppendsSuch (λ t. SpellsLine [] t (Show text ∷ [])) old new)
show_written r old new bytes text h is shown = grind (arith, line_of_one)

-- one token alone
pub token_alone : {T E : Type 0} (names : List (List ℕ)) (r : Result T E) (old new : List ℕ) (t : Token) → OnOk r (AppendsSuch (λ text. SpellsToken names text t) old new) → OnOk r (AppendsSuch (λ text. SpellsLine names text (t ∷ [])) old new)
token_alone names r old new t a = grind (arith, line_of_one)

-- the step that stands in the way, after its words
pub step_before : {T E : Type 0} (r : Result T E) (old pushed new letters : List ℕ) (by : ℕ) → pushed ≡ old ++ (codes "refused " ++ (letters ++ 32 ∷ [])) → OnOk r (AppendsSuch (λ text. SpellsNumber text by) pushed new) → OnOk r (AppendsSuch (λ text. SpellsLine [] text (Word (codes "refused") ∷ Word letters ∷ Number by ∷ [])) old new)
step_before r old pushed new letters by e b = grind (arith, word_before [] r old (old ++ codes "refused ") new (codes "refused") (Word letters ∷ Number by ∷ []) (omega arith) refl (word_before [] r (old ++ codes "refused ") pushed new letters (Number by ∷ []) (omega arith) (e ∙ sym (append_assoc old (codes "refused ") (letters ++ 32 ∷ []))) (token_alone [] r pushed new (Number by) b)))

-- a refusal that names no step
pub no_step : SpellsReply (codes "refused nostep") (Answered (Refused NoStep))
no_step = record { spellings = codes "refused" ∷ codes "nostep" ∷ []; joined = refl; each = (refl, (refl, tt)) }

pub not_yours : SpellsReply (codes "refused notyours") (Answered (Refused NotYours))
not_yours = record { spellings = codes "refused" ∷ codes "notyours" ∷ []; joined = refl; each = (refl, (refl, tt)) }

pub no_mark : SpellsReply (codes "refused nomark") (Answered (Refused NoMark))
no_mark = record { spellings = codes "refused" ∷ codes "nomark" ∷ []; joined = refl; each = (refl, (refl, tt)) }

pub full : SpellsReply (codes "refused full") (Answered (Refused Full))
full = record { spellings = codes "refused" ∷ codes "full" ∷ []; joined = refl; each = (refl, (refl, tt)) }

pub memory : SpellsReply (codes "refused memory") (Answered (Refused Memory))
memory = record { spellings = codes "refused" ∷ codes "memory" ∷ []; joined = refl; each = (refl, (refl, tt)) }

-- what a role's type doesn't allow
pub violation_line : (v : Violation) → SpellsReply (codes "refused " ++ word_of (Violates v)) (Answered (Refused (Violates v)))
violation_line v = record { spellings = codes "refused" ∷ word_of (Violates v) ∷ []; joined = refl; each = (refl, (refl, tt)) }

pub bad_line : SpellsReply (codes "refused line") BadLine
bad_line = record { spellings = codes "refused" ∷ codes "line" ∷ []; joined = refl; each = (refl, (refl, tt)) }

pub no_session : SpellsReply (codes "refused nosession") NoSession
no_session = record { spellings = codes "refused" ∷ codes "nosession" ∷ []; joined = refl; each = (refl, (refl, tt)) }

pub no_role : SpellsReply (codes "refused norole") NoRole
no_role = record { spellings = codes "refused" ∷ codes "norole" ∷ []; joined = refl; each = (refl, (refl, tt)) }

pub taken : SpellsReply (codes "refused taken") Taken
taken = record { spellings = codes "refused" ∷ codes "taken" ∷ []; joined = refl; each = (refl, (refl, tt)) }

pub wrong_number : SpellsReply (codes "refused number") WrongNumber
wrong_number = record { spellings = codes "refused" ∷ codes "number" ∷ []; joined = refl; each = (refl, (refl, tt)) }

pub busy : SpellsReply (codes "refused busy") Busy
busy = record { spellings = codes "refused" ∷ codes "busy" ∷ []; joined = refl; each = (refl, (refl, tt)) }

pub unkept : SpellsReply (codes "refused journal") Unkept
unkept = record { spellings = codes "refused" ∷ codes "journal" ∷ []; joined = refl; each = (refl, (refl, tt)) }

pub elsewhere : SpellsReply (codes "refused elsewhere") Elsewhere
elsewhere = record { spellings = codes "refused" ∷ codes "elsewhere" ∷ []; joined = refl; each = (refl, (refl, tt)) }

-- a token after a line
token_after : (names : List (List ℕ)) (a b : List ℕ) (t : Token) (ts : List Token) (u : Token) → SpellsLine names a (t ∷ ts) → SpellsToken names b u → SpellsLine names (a ++ 32 ∷ b) (t ∷ (ts ++ u ∷ []))
token_after names a b t [] u h k = grind (arith, joined names (a ++ 32 ∷ b) t u [] b (record { front = a; parts = refl; spelled = alone names a t h }) (line_of_one names b u k))
token_after names a b t (v ∷ ts) u h k =
    let s = after_token names a t v ts h in
    joined names (a ++ 32 ∷ b) t v (ts ++ u ∷ []) (s.0 ++ 32 ∷ b)
    (record { front = s.1.front; parts = ap (λ l. l ++ 32 ∷ b) s.1.parts ∙ append_assoc s.1.front (32 ∷ s.0) (32 ∷ b); spelled = s.1.spelled })
    (token_after names s.0 b v ts u s.2 k)

-- one more number after the tokens and the numbers that were written
pub number_written : (t : Token) (ts : List Token) (ids : List ℕ) (k d : ℕ) (old before pushed new : List ℕ) → k < length ids → AppendsSuch (λ text. SpellsLine [] text (t ∷ (ts ++ map Number (take k ids)))) old before → pushed ≡ before ++ 32 ∷ [] → AppendsSuch (λ text. SpellsNumber text (get_or ids k d)) pushed new → AppendsSuch (λ text. SpellsLine [] text (t ∷ (ts ++ map Number (take (k + 1) ids)))) old new
number_written t ts ids k d old before pushed new less a p b = grind (arith, take_more ids k d less, map-append Number (take k ids) (get_or ids k d ∷ []), append_assoc ts (map Number (take k ids)) (Number (get_or ids k d) ∷ []), append_assoc (old ++ a.0) (32 ∷ []) b.0, append_assoc old a.0 (32 ∷ b.0), token_after [] a.0 b.0 t (ts ++ map Number (take k ids)) (Number (get_or ids k d)) a.2 b.2)

-- a line that doesn't go on yet
pub none_written : (t : Token) (ts : List Token) (old new : List ℕ) → AppendsSuch (λ text. SpellsLine [] text (t ∷ ts)) old new → AppendsSuch (λ text. SpellsLine [] text (t ∷ (ts ++ map Number (take 0 [])))) old new
none_written t ts old new a = grind (arith, append-nil)

-- a line that goes on with numbers
pub numbers_after : {E : Type 0} (r : Result ⊤ E) (ids : List ℕ) (t : Token) (ts : List Token) (old before new : List ℕ) → OnOk r ((start : List ℕ) (first : Token) (others : List Token) → AppendsSuch (λ text. SpellsLine [] text (first ∷ others)) start before → AppendsSuch (λ text. SpellsLine [] text (first ∷ (others ++ map Number ids))) start new) → AppendsSuch (λ text. SpellsLine [] text (t ∷ ts)) old before → OnOk r (AppendsSuch (λ text. SpellsLine [] text (t ∷ (ts ++ map Number ids))) old new)
numbers_after r ids t ts old before new goes a = grind arith

-- a text after what was written
pub text_written : (P : List ℕ → Type 0) (old before pushed new : List ℕ) → AppendsSuch (λ text. ⊤) old before → pushed ≡ before ++ 32 ∷ [] → AppendsSuch P pushed new → AppendsSuch (λ text. ⊤) old new
text_written P old before pushed new a p b = grind (arith, append_assoc)

-- what was there before stays in front
pub still_in_front : {T E : Type 0} (r : Result T E) (old mid pushed new text end : List ℕ) → mid ≡ old ++ text → pushed ≡ mid ++ end → OnErr r (StartsWith new pushed) → OnErr r (StartsWith new old)
still_in_front (Ok x) old mid pushed new text end a p b = tt
still_in_front (Err e) old mid pushed new text end a p b =
    let whole : pushed ≡ old ++ (text ++ end) = p ∙ ap (λ m. m ++ end) a ∙ append_assoc old text end in
    front_of old (text ++ end) pushed new whole b
  where
    front_of : (old more whole new : List ℕ) → whole ≡ old ++ more → take (length whole) new ≡ whole → take (length old) new ≡ old
    front_of old more whole new e b = cc (take-append-drop (length whole) new, append_assoc old more (drop (length whole) new), take-append_seam old (more ++ drop (length whole) new))
