-- What replies are read from.
use Rattle.std.proofs.Common.{rules, arith, ◌≡◌, ◌≢◌, ℕ, ◌<◌, ⊎_elim, List, [], ◌∷◌, ◌++◌, length, Some, get_or, append_assoc, refl, sym, ap, subst, ◌∙◌}
use Rattle.std.specs.Prelude.{Option, None, IfSome, IfNone, map, codes}
use Rattle.mps_base.specs.Names.{IsNoneOf}
use Rattle.mps_base.specs.Spaced.{spaced}
use Rattle.mps_base.specs.declared.action.Message.{Message}
use Rattle.mps_command.specs.Shown.{IsShownText}
use Rattle.mps_command.specs.declared.answer.Done.{Done}
use Rattle.mps_command.specs.declared.answer.Answer.TheVariants.{Done as Accepted, Undone, News, Shown, Refused}
use Rattle.mps_command.specs.declared.answer.Violation.{Violation}
use Rattle.mps_command.specs.declared.answer.Refusal.{Refusal}
use Rattle.mps_command.specs.declared.answer.Refusal.TheVariants.{Violation as Violates, NoStep, NotYours, Final, Needed, NoMark, Full, Memory}
use Rattle.mps_line.specs.declared.write_replies.Reply.{Reply}
use Rattle.mps_line.specs.declared.write_replies.Reply.TheVariants.{Answer as Answered, BadLine, Joined, NoSession, NoRole, Taken, Number as WrongNumber}
use Rattle.mps_line.specs.declared.write_replies.Reply.TheVariants.{Busy, Elsewhere, Unkept}
use Rattle.mps_line.specs.Tokens.{Token, Word, Number, Show, SpellsNumber, SpellsToken, SpellsLine}
use Rattle.mps_line.specs.Private.Tokens.{HasNoSpace}
use Rattle.mps_line.specs.Replies.{word_of, message_token, done_tokens, refusal_tokens, SpellsReply}
use Rattle.mps_line.specs.Private.Replies.{lone_words, own_word, SpellsSteps}
use Rattle.mps_line.proofs.Splitting.{one_split, never_split, digits_have_no_space, after_token, joined, alone, line_of_one}
use Rattle.mps_line.proofs.CommandLines.{after_word}
use Rattle.mps_line.proofs.ShownLines.{some_reply}
use Rattle.mps_line.proofs.Writing.{bad_line, no_session, no_role, taken, wrong_number, busy, unkept, elsewhere}
use Rattle.mps_line.proofs.OneReply.{letter, begins, alone_or_step, word_has_no_space}

-- ---- a word in front

pub word_in_front : (bytes letters rest : List ℕ) (ts : List Token) → 0 < length ts → bytes ≡ spaced (letters ∷ rest ∷ []) → SpellsLine [] rest ts → SpellsLine [] bytes (Word letters ∷ ts)
word_in_front bytes letters rest [] some e h = absurd (omega (arith, some))
word_in_front bytes letters rest (u ∷ ts) some e h = joined [] bytes (Word letters) u ts rest (record { front = letters; parts = e; spelled = refl }) h

pub rest_of_word : (bytes letters rest : List ℕ) (ts : List Token) → 0 < length ts → HasNoSpace letters → bytes ≡ spaced (letters ∷ rest ∷ []) → SpellsLine [] bytes (Word letters ∷ ts) → SpellsLine [] rest ts
rest_of_word bytes letters rest [] some p e h = absurd (omega (arith, some))
rest_of_word bytes letters rest (u ∷ ts) some p e h = grind (arith, after_word, one_split)

pub no_word_in_front : (bytes letters : List ℕ) (ts : List Token) → 0 < length ts → ((rest : List ℕ) → bytes ≢ spaced (letters ∷ rest ∷ [])) → SpellsLine [] bytes (Word letters ∷ ts) → ⊥
no_word_in_front bytes letters [] some none h = absurd (omega (arith, some))
no_word_in_front bytes letters (u ∷ ts) some none h = let b = after_word [] bytes letters u ts h in none b.0 b.1

-- ---- a number in front

pub number_in_front : (bytes front rest : List ℕ) (n : ℕ) (u : Token) (us : List Token) → bytes ≡ spaced (front ∷ rest ∷ []) → SpellsNumber front n → SpellsLine [] rest (u ∷ us) → SpellsLine [] bytes (Number n ∷ u ∷ us)
number_in_front bytes front rest n u us e h k = joined [] bytes (Number n) u us rest (record { front = front; parts = e; spelled = h }) k

-- what stands round the first space
pub record Split (front rest : List ℕ) (n : ℕ) (u : Token) (us : List Token) : Type 0 where
  pub number : SpellsNumber front n
  pub others : SpellsLine [] rest (u ∷ us)

pub split_number : (bytes front rest : List ℕ) (n : ℕ) (u : Token) (us : List Token) → bytes ≡ spaced (front ∷ rest ∷ []) → HasNoSpace front → SpellsLine [] bytes (Number n ∷ u ∷ us) → Split front rest n u us
split_number bytes front rest n u us e p h =
    let b = after_token [] bytes (Number n) u us h in
    grind (arith, one_split, digits_have_no_space)

pub never_parted : (bytes : List ℕ) (t u : Token) (us : List Token) → ((first rest : List ℕ) → bytes ≢ spaced (first ∷ rest ∷ [])) → SpellsLine [] bytes (t ∷ u ∷ us) → ⊥
never_parted bytes t u us none h = let b = after_token [] bytes t u us h in none b.1.front b.0 b.1.parts

pub never_alone : (bytes front rest : List ℕ) (n : ℕ) → bytes ≡ spaced (front ∷ rest ∷ []) → SpellsLine [] bytes (Number n ∷ []) → ⊥
never_alone bytes front rest n e h = grind (arith, never_split bytes front rest (digits_have_no_space bytes (alone [] bytes (Number n) h).number.digits) e)

-- ---- the steps of a list

-- the steps so far are in front of those that the rest spells, and of no others
pub record Reads (bytes : List ℕ) (ids rest : List ℕ) : Type 0 where
  pub more : (ns : List ℕ) → SpellsSteps rest ns → SpellsSteps bytes (ids ++ ns)
  pub others : (ms : List ℕ) → SpellsSteps bytes ms → (ns : List ℕ) × SpellsSteps rest ns

pub reads_none : (bytes : List ℕ) → Reads bytes [] bytes
reads_none bytes = record { more = λ ns h. h; others = λ ms h. (ms, h) }

-- a number in front of some steps
step_in_front : (bytes front rest : List ℕ) (n : ℕ) (ns : List ℕ) → bytes ≡ spaced (front ∷ rest ∷ []) → SpellsNumber front n → SpellsSteps rest ns → SpellsSteps bytes (n ∷ ns)
step_in_front bytes front rest n [] e h k = let some = k.some in absurd (omega (arith, some))
step_in_front bytes front rest n (m ∷ ns) e h k = grind (arith, number_in_front)

-- the steps after the first
steps_after : (bytes front rest : List ℕ) (ns : List ℕ) → bytes ≡ spaced (front ∷ rest ∷ []) → HasNoSpace front → SpellsSteps bytes ns → (n : ℕ) × (others : List ℕ) × SpellsNumber front n × SpellsSteps rest others
steps_after bytes front rest [] e p k = let some = k.some in absurd (omega (arith, some))
steps_after bytes front rest (n ∷ []) e p k = absurd (never_alone bytes front rest n e k.line)
steps_after bytes front rest (n ∷ m ∷ ns) e p k =
    let s = split_number bytes front rest n (Number m) (map Number ns) e p k.line in
    (n, m ∷ ns, s.number, record { some = omega arith; line = s.others })

pub reads_more : (bytes ids rest front others : List ℕ) (n : ℕ) (ids' : List ℕ) → Reads bytes ids rest → rest ≡ spaced (front ∷ others ∷ []) → HasNoSpace front → SpellsNumber front n → ids' ≡ ids ++ n ∷ [] → Reads bytes ids' others
reads_more bytes ids rest front others n ids' r e p h is = record {
  more = λ ns k. subst (SpellsSteps bytes) (sym (ap (λ (l : List ℕ). l ++ ns) is ∙ append_assoc ids (n ∷ []) ns)) (r.more (n ∷ ns) (step_in_front rest front others n ns e h k));
  others = grind (arith, steps_after);
}

-- what stands before the next space is no number
pub no_next_step : (bytes ids rest front others : List ℕ) → Reads bytes ids rest → rest ≡ spaced (front ∷ others ∷ []) → HasNoSpace front → ((n : ℕ) → SpellsNumber front n → ⊥) → (ms : List ℕ) → SpellsSteps bytes ms → ⊥
no_next_step bytes ids rest front others r e p none ms k =
    let old = r.others ms k in
    let s = steps_after rest front others old.0 e p old.1 in
    none s.0 s.2

last_step : (rest : List ℕ) (ns : List ℕ) → ((first others : List ℕ) → rest ≢ spaced (first ∷ others ∷ [])) → SpellsSteps rest ns → (n : ℕ) × SpellsNumber rest n
last_step rest [] none k = absurd (omega arith)
last_step rest (n ∷ []) none k = (n, alone [] rest (Number n) k.line)
last_step rest (n ∷ m ∷ ns) none k = absurd (never_parted rest (Number n) (Number m) (map Number ns) none k.line)

-- the last is no number
pub no_last_step : (bytes ids rest : List ℕ) → Reads bytes ids rest → ((first others : List ℕ) → rest ≢ spaced (first ∷ others ∷ [])) → ((n : ℕ) → SpellsNumber rest n → ⊥) → (ms : List ℕ) → SpellsSteps bytes ms → ⊥
no_last_step bytes ids rest r whole none ms k =
    let old = r.others ms k in
    let s = last_step rest old.0 whole old.1 in
    none s.0 s.1

pub reads_last : (bytes ids rest : List ℕ) (n : ℕ) (ids' : List ℕ) → Reads bytes ids rest → SpellsNumber rest n → ids' ≡ ids ++ n ∷ [] → SpellsSteps bytes ids'
reads_last bytes ids rest n ids' r h is = grind (arith, line_of_one)

-- the rest gets shorter
pub shorter : (front others : List ℕ) → length others < length (spaced (front ∷ others ∷ []))
shorter [] others = omega arith
shorter (c ∷ front) others = let k = shorter front others in omega (arith, k)

-- ---- done

pub some_done : (done : Done) → 0 < length (done_tokens done.id done.got)
some_done done = by_got done.got
  where
    by_got : (got : Option Message) → 0 < length (done_tokens done.id got)
    by_got None = omega arith
    by_got (Some message) = omega arith

-- one number, with nothing after it
pub no_done_alone : (bytes : List ℕ) → ((first rest : List ℕ) → bytes ≢ spaced (first ∷ rest ∷ [])) → ((n : ℕ) → SpellsNumber bytes n → ⊥) → (done : Done) → SpellsLine [] bytes (done_tokens done.id done.got) → ⊥
no_done_alone bytes whole none done h = by_got done.got h
  where
    by_got : (got : Option Message) → SpellsLine [] bytes (done_tokens done.id got) → ⊥
    by_got None k = none done.id (alone [] bytes (Number done.id) k)
    by_got (Some message) k = never_parted bytes (Number done.id) (message_token message) [] whole k

-- a number and a message
pub parted_done : (bytes front rest : List ℕ) (done : Done) → bytes ≡ spaced (front ∷ rest ∷ []) → HasNoSpace front → SpellsLine [] bytes (done_tokens done.id done.got) → (message : Message) × SpellsNumber front done.id × SpellsToken [] rest (message_token message)
parted_done bytes front rest done e p h = by_got done.got h
  where
    by_got : (got : Option Message) → SpellsLine [] bytes (done_tokens done.id got) → (message : Message) × SpellsNumber front done.id × SpellsToken [] rest (message_token message)
    by_got None k = absurd (never_alone bytes front rest done.id e k)
    by_got (Some message) k =
        let s = split_number bytes front rest done.id (message_token message) [] e p k in
        (message, s.number, alone [] rest (message_token message) s.others)

-- ---- undone and news

-- `undone` alone
pub undone_none : (bytes : List ℕ) → bytes ≡ codes "undone" → SpellsReply bytes (Answered (Undone []))
undone_none bytes e = line_of_one [] bytes (Word (codes "undone")) e

pub undone_some : (bytes rest ids : List ℕ) → bytes ≡ spaced (codes "undone" ∷ rest ∷ []) → SpellsSteps rest ids → SpellsReply bytes (Answered (Undone ids))
undone_some bytes rest [] e k = absurd (omega arith)
undone_some bytes rest (i ∷ ids) e k = word_in_front bytes (codes "undone") rest (map Number (i ∷ ids)) (omega arith) e k.line

-- another line has steps after the word
pub undone_steps : (bytes ids : List ℕ) → bytes ≢ codes "undone" → SpellsReply bytes (Answered (Undone ids)) → (rest : List ℕ) × (bytes ≡ spaced (codes "undone" ∷ rest ∷ [])) × SpellsSteps rest ids
undone_steps bytes [] other h = absurd (other (alone [] bytes (Word (codes "undone")) h))
undone_steps bytes (i ∷ ids) other h = grind (arith, after_word [] bytes (codes "undone") (Number i) (map Number ids) h)

pub steps_of_undone : (bytes rest ids : List ℕ) → bytes ≢ codes "undone" → bytes ≡ spaced (codes "undone" ∷ rest ∷ []) → SpellsReply bytes (Answered (Undone ids)) → SpellsSteps rest ids
steps_of_undone bytes rest ids other e h = grind (arith, undone_steps bytes ids other h)

-- news of no steps
pub news_none : (bytes rest : List ℕ) (n : ℕ) → bytes ≡ spaced (codes "news" ∷ rest ∷ []) → SpellsNumber rest n → SpellsReply bytes (Answered (News n []))
news_none bytes rest n e h = word_in_front bytes (codes "news") rest (Number n ∷ []) (omega arith) e (line_of_one [] rest (Number n) h)

pub news_some : (bytes rest front others : List ℕ) (n : ℕ) (ids : List ℕ) → bytes ≡ spaced (codes "news" ∷ rest ∷ []) → rest ≡ spaced (front ∷ others ∷ []) → SpellsNumber front n → SpellsSteps others ids → SpellsReply bytes (Answered (News n ids))
news_some bytes rest front others n [] e f h k = absurd (omega arith)
news_some bytes rest front others n (i ∷ ids) e f h k =
    word_in_front bytes (codes "news") rest (Number n ∷ map Number (i ∷ ids)) (omega arith) e (number_in_front rest front others n (Number i) (map Number ids) f h k.line)

-- what stands after the word is the length alone
pub no_news_alone : (rest : List ℕ) (n : ℕ) (ids : List ℕ) → ((first others : List ℕ) → rest ≢ spaced (first ∷ others ∷ [])) → ((m : ℕ) → SpellsNumber rest m → ⊥) → SpellsLine [] rest (Number n ∷ map Number ids) → ⊥
no_news_alone rest n [] whole none h = none n (alone [] rest (Number n) h)
no_news_alone rest n (i ∷ ids) whole none h = never_parted rest (Number n) (Number i) (map Number ids) whole h

-- or the length and steps
pub parted_news : (rest front others : List ℕ) (n : ℕ) (ids : List ℕ) → rest ≡ spaced (front ∷ others ∷ []) → HasNoSpace front → SpellsLine [] rest (Number n ∷ map Number ids) → SpellsNumber front n × SpellsSteps others ids
parted_news rest front others n [] e p h = absurd (never_alone rest front others n e h)
parted_news rest front others n (i ∷ ids) e p h = grind (arith, split_number rest front others n (Number i) (map Number ids) e p h)

-- ---- refusals

pub some_refusal : (r : Refusal) → 0 < length (refusal_tokens r)
some_refusal r = grind arith

pub violation_read : (bytes : List ℕ) (v : Violation) → bytes ≡ word_of (Violates v) → SpellsLine [] bytes (refusal_tokens (Violates v))
violation_read bytes v e = line_of_one [] bytes (Word (word_of (Violates v))) e

-- a word with no number after it
pub no_step_after : (bytes letters rest : List ℕ) (r : Refusal) → HasNoSpace letters → bytes ≡ spaced (letters ∷ rest ∷ []) → ((n : ℕ) → SpellsNumber rest n → ⊥) → SpellsLine [] bytes (refusal_tokens r) → ⊥
no_step_after bytes letters rest r p e none h =
    ⊎_elim
    (λ (f : refusal_tokens r ≡ Word (word_of r) ∷ []).
    never_split (word_of r) letters rest (word_has_no_space r) (sym (alone [] bytes (Word (word_of r)) (rw f at h)) ∙ e))
    (λ (n : (by : ℕ) × (refusal_tokens r ≡ Word (word_of r) ∷ Number by ∷ [])).
    let b = after_word [] bytes (word_of r) (Number n.0) [] (rw n.1 at h) in
    let same = one_split letters (word_of r) rest b.0 p (word_has_no_space r) (sym e ∙ b.1) in
    none n.0 (alone [] rest (Number n.0) (rw (sym same.1) at b.2)))
    (alone_or_step r)

-- none of the refusals' words
pub no_refusal : (bytes : List ℕ) (found : Option Refusal) → ((rest : List ℕ) → bytes ≢ spaced (codes "needed" ∷ rest ∷ [])) → ((rest : List ℕ) → bytes ≢ spaced (codes "final" ∷ rest ∷ [])) → ((v : Violation) → bytes ≢ word_of (Violates v)) → IfNone found (IsNoneOf lone_words bytes) → IfNone found ((r : Refusal) → SpellsLine [] bytes (refusal_tokens r) → ⊥)
no_refusal bytes (Some r) needed final violation none = tt
no_refusal bytes None needed final violation none = by_refusal
  where
    by_refusal : (r : Refusal) → SpellsLine [] bytes (refusal_tokens r) → ⊥
    by_refusal (Needed by) h = no_word_in_front bytes (codes "needed") (Number by ∷ []) (omega arith) needed h
    by_refusal (Final by) h = no_word_in_front bytes (codes "final") (Number by ∷ []) (omega arith) final h
    by_refusal (Violates v) h = violation v (alone [] bytes (Word (word_of (Violates v))) h)
    by_refusal NoStep h = none.0 (alone [] bytes (Word (codes "nostep")) h)
    by_refusal NotYours h = none.1.0 (alone [] bytes (Word (codes "notyours")) h)
    by_refusal NoMark h = none.1.1.0 (alone [] bytes (Word (codes "nomark")) h)
    by_refusal Full h = none.1.1.1.0 (alone [] bytes (Word (codes "full")) h)
    by_refusal Memory h = none.1.1.1.1.0 (alone [] bytes (Word (codes "memory")) h)

-- a word after `refused`
pub no_own_word : (bytes rest word : List ℕ) → bytes ≡ spaced (codes "refused" ∷ rest ∷ []) → rest ≢ word → SpellsLine [] bytes (Word (codes "refused") ∷ Word word ∷ []) → ⊥
no_own_word bytes rest word e other h = grind (arith, alone [] rest (Word word) (rest_of_word bytes (codes "refused") rest (Word word ∷ []) (omega arith) (search rules) e h))

-- ---- by the first byte

-- a reply has a byte
pub no_reply_of_none : (bytes : List ℕ) → length bytes < 1 → (r : Reply) → SpellsReply bytes r → ⊥
no_reply_of_none bytes short r h = let some = some_reply bytes r h in absurd (omega (arith, short, some))

-- no reply begins with this byte
pub no_reply : (bytes : List ℕ) → (get_or bytes 0 0 ≢ 100) → (get_or bytes 0 0 ≢ 117) → (get_or bytes 0 0 ≢ 110) → (get_or bytes 0 0 ≢ 123) → (get_or bytes 0 0 ≢ 106) → (get_or bytes 0 0 ≢ 114) → (r : Reply) → SpellsReply bytes r → ⊥
no_reply bytes d u n s j f (Answered (Accepted done)) h = d (begins bytes (Answered (Accepted done)) h)
no_reply bytes d u n s j f (Answered (Undone ids)) h = u (begins bytes (Answered (Undone ids)) h)
no_reply bytes d u n s j f (Answered (News m ids)) h = n (begins bytes (Answered (News m ids)) h)
no_reply bytes d u n s j f (Answered (Shown text)) h = s (begins bytes (Answered (Shown text)) h)
no_reply bytes d u n s j f (Answered (Refused r)) h = f (begins bytes (Answered (Refused r)) h)
no_reply bytes d u n s j f BadLine h = f (begins bytes BadLine h)
no_reply bytes d u n s j f (Joined session name) h = j (begins bytes (Joined session name) h)
no_reply bytes d u n s j f NoSession h = f (begins bytes NoSession h)
no_reply bytes d u n s j f NoRole h = f (begins bytes NoRole h)
no_reply bytes d u n s j f Taken h = f (begins bytes Taken h)
no_reply bytes d u n s j f WrongNumber h = f (begins bytes WrongNumber h)
no_reply bytes d u n s j f Busy h = f (begins bytes Busy h)
no_reply bytes d u n s j f Unkept h = f (begins bytes Unkept h)
no_reply bytes d u n s j f Elsewhere h = f (begins bytes Elsewhere h)

-- the reply that the first byte leaves is not spelled
told : (bytes : List ℕ) (r : Reply) (c : ℕ) → get_or bytes 0 0 ≡ c → SpellsReply bytes r → c ≡ letter r
told bytes r c e h = sym e ∙ begins bytes r h

pub no_other_done : (bytes : List ℕ) → get_or bytes 0 0 ≡ 100 → ((done : Done) → SpellsReply bytes (Answered (Accepted done)) → ⊥) → (r : Reply) → SpellsReply bytes r → ⊥
no_other_done bytes e none (Answered (Accepted done)) h = none done h
no_other_done bytes e none r h = let t = told bytes r 100 e h in absurd (omega (arith, t))

pub no_other_undone : (bytes : List ℕ) → get_or bytes 0 0 ≡ 117 → ((ids : List ℕ) → SpellsReply bytes (Answered (Undone ids)) → ⊥) → (r : Reply) → SpellsReply bytes r → ⊥
no_other_undone bytes e none (Answered (Undone ids)) h = none ids h
no_other_undone bytes e none r h = let t = told bytes r 117 e h in absurd (omega (arith, t))

pub no_other_news : (bytes : List ℕ) → get_or bytes 0 0 ≡ 110 → ((n : ℕ) (ids : List ℕ) → SpellsReply bytes (Answered (News n ids)) → ⊥) → (r : Reply) → SpellsReply bytes r → ⊥
no_other_news bytes e none (Answered (News n ids)) h = none n ids h
no_other_news bytes e none r h = let t = told bytes r 110 e h in absurd (omega (arith, t))

pub no_other_shown : (bytes : List ℕ) → get_or bytes 0 0 ≡ 123 → ((text : List ℕ) → SpellsReply bytes (Answered (Shown text)) → ⊥) → (r : Reply) → SpellsReply bytes r → ⊥
no_other_shown bytes e none (Answered (Shown text)) h = none text h
no_other_shown bytes e none r h = let t = told bytes r 123 e h in absurd (omega (arith, t))

pub no_other_joined : (bytes : List ℕ) → get_or bytes 0 0 ≡ 106 → ((session : ℕ) (name : List ℕ) → SpellsReply bytes (Joined session name) → ⊥) → (r : Reply) → SpellsReply bytes r → ⊥
no_other_joined bytes e none (Joined session name) h = none session name h
no_other_joined bytes e none (Answered (Shown text)) h = let t = told bytes (Answered (Shown text)) 106 e h in absurd (omega (arith, t))
no_other_joined bytes e none r h = let t = told bytes r 106 e h in absurd (omega (arith, t))

pub no_other_refused : (bytes : List ℕ) → get_or bytes 0 0 ≡ 114 → ((refusal : Refusal) → SpellsReply bytes (Answered (Refused refusal)) → ⊥) → (SpellsReply bytes BadLine → ⊥) → (SpellsReply bytes NoSession → ⊥) → (SpellsReply bytes NoRole → ⊥) → (SpellsReply bytes Taken → ⊥) → (SpellsReply bytes WrongNumber → ⊥) → (SpellsReply bytes Busy → ⊥) → (SpellsReply bytes Unkept → ⊥) → (SpellsReply bytes Elsewhere → ⊥) → (r : Reply) → SpellsReply bytes r → ⊥
no_other_refused bytes e refusal line session role pass number busy journal elsewhere (Answered (Refused r)) h = refusal r h
no_other_refused bytes e refusal line session role pass number busy journal elsewhere BadLine h = line h
no_other_refused bytes e refusal line session role pass number busy journal elsewhere NoSession h = session h
no_other_refused bytes e refusal line session role pass number busy journal elsewhere NoRole h = role h
no_other_refused bytes e refusal line session role pass number busy journal elsewhere Taken h = pass h
no_other_refused bytes e refusal line session role pass number busy journal elsewhere WrongNumber h = number h
no_other_refused bytes e refusal line session role pass number busy journal elsewhere Busy h = busy h
no_other_refused bytes e refusal line session role pass number busy journal elsewhere Unkept h = journal h
no_other_refused bytes e refusal line session role pass number busy journal elsewhere Elsewhere h = elsewhere h
no_other_refused bytes e refusal line session role pass number busy journal elsewhere r h = let t = told bytes r 114 e h in absurd (omega (arith, t))

pub shown_read : (bytes text : List ℕ) → text ≡ bytes → IsShownText bytes → SpellsReply bytes (Answered (Shown text))
shown_read bytes text e h = line_of_one [] bytes (Show text) (record { is = sym e; allowed = h })

-- the word of a refusal that names no step
pub lone_read : (bytes : List ℕ) (found : Option Refusal) → IfSome found (λ r. bytes ≡ word_of r) → IfSome found (λ r. refusal_tokens r ≡ Word (word_of r) ∷ []) → IfSome found (λ r. SpellsLine [] bytes (refusal_tokens r))
lone_read bytes found e f = grind (arith, line_of_one)

-- a word of a reply's own after `refused`
pub own_line : (bytes rest : List ℕ) (reply : Reply) → bytes ≡ spaced (codes "refused" ∷ rest ∷ []) → rest ≡ own_word reply → 0 < length (own_word reply) → SpellsReply bytes reply
own_line bytes rest reply e is some = grind (arith, bad_line, no_session, no_role, taken, wrong_number, busy, unkept, elsewhere)
