-- What a reply's text means is unique.
use Rattle.std.proofs.Common.{arith, rules, ◌≡◌, ◌≢◌, ℕ, ◌⊎◌, ⊎_elim, inl, inr, List, [], ◌∷◌, Some, get_or, refl, sym, ap, subst, ◌∙◌}
use Rattle.std.specs.Prelude.{◌<◌, ◌==◌, ◌↔◌, IsTrue, Option, None, length, map, codes}
use Rattle.std.proofs.lemmas.Bool.{eq-eqb, eqb-true}
use Rattle.std.proofs.lemmas.Option.{same_Some}
use Rattle.mps_base.specs.Names.{IsName}
use Rattle.mps_base.specs.Spaced.{spaced}
use Rattle.mps_base.specs.Values.{SpellsValue}
use Rattle.mps_base.specs.declared.value.Value.{Value}
use Rattle.mps_base.specs.declared.action.Message.{Message}
use Rattle.mps_command.specs.declared.answer.Done.{Done}
use Rattle.mps_command.specs.declared.answer.Answer.TheVariants.{Done as Accepted, Undone, News, Shown, Refused}
use Rattle.mps_command.specs.declared.answer.Refusal.{Refusal}
use Rattle.mps_command.specs.declared.answer.Refusal.TheVariants.{Final, Needed}
use Rattle.mps_line.specs.declared.write_replies.Reply.{Reply}
use Rattle.mps_line.specs.declared.write_replies.Reply.TheVariants.{Answer as Answered, BadLine, Joined, NoSession, NoRole, Taken, Number as WrongNumber}
use Rattle.mps_line.specs.declared.write_replies.Reply.TheVariants.{Busy, Elsewhere, Unkept}
use Rattle.mps_line.specs.Tokens.{Token, Word, Called, Number, Show, SpellsShow, SpellsToken, SpellsLine}
use Rattle.mps_line.specs.Codes.{code_of, is_refusal, refusal_code}
use Rattle.mps_line.specs.Private.Tokens.{HasNoSpace}
use Rattle.mps_line.specs.Replies.{word_of, message_token, done_tokens, undone_tokens, news_tokens, refusal_tokens, SpellsReply}
use Rattle.mps_line.proofs.Splitting.{one_split, never_split, digits_have_no_space, first_word, after_token, alone}
use Rattle.mps_line.proofs.CommandLines.{after_word}
use Rattle.mps_line.proofs.OneSpelling.{one_number}

-- why a line is refused: by the machine's reason, or by one that no command has
data Cause : Type 0 where
  Because : (r : Refusal) → Cause
  Unread : Cause
  Nowhere : Cause
  Nobody : Cause
  Used : Cause
  Misnumbered : Cause
  Crowded : Cause
  Fileless : Cause
  Outside : Cause

-- the reply that says so
abbrev reply_of : Cause → Reply
reply_of (Because r) = Answered (Refused r)
reply_of Unread = BadLine
reply_of Nowhere = NoSession
reply_of Nobody = NoRole
reply_of Used = Taken
reply_of Misnumbered = WrongNumber
reply_of Crowded = Busy
reply_of Fileless = Unkept
reply_of Outside = Elsewhere

-- its word, and the tokens after `refused`
abbrev cause_word : Cause → List ℕ
cause_word (Because r) = word_of r
cause_word Unread = codes "line"
cause_word Nowhere = codes "nosession"
cause_word Nobody = codes "norole"
cause_word Used = codes "taken"
cause_word Misnumbered = codes "number"
cause_word Crowded = codes "busy"
cause_word Fileless = codes "journal"
cause_word Outside = codes "elsewhere"

abbrev cause_tokens : Cause → List Token
cause_tokens (Because r) = refusal_tokens r
cause_tokens cause = Word (cause_word cause) ∷ []

-- the cause without its step
abbrev plain : Cause → Cause
plain (Because (Final by)) = Because (Final 0)
plain (Because (Needed by)) = Because (Needed 0)
plain c = c

one_word : (c d : Cause) → cause_word c ≡ cause_word d → plain c ≡ plain d
one_word c d e = grind (arith, same_Some)

pub word_has_no_space : (r : Refusal) → HasNoSpace (word_of r)
word_has_no_space r = grind arith

cause_has_no_space : (c : Cause) → HasNoSpace (cause_word c)
cause_has_no_space c = grind (arith, word_has_no_space)

-- two lines that begin with this word
one_word_first : (a letters : List ℕ) (t : Token) (ts : List Token) (u : Token) (us : List Token) → HasNoSpace letters → SpellsLine [] a (Word letters ∷ t ∷ ts) → SpellsLine [] a (Word letters ∷ u ∷ us) → (rest : List ℕ) × SpellsLine [] rest (t ∷ ts) × SpellsLine [] rest (u ∷ us)
one_word_first a letters t ts u us p h k =
    let b = after_word [] a letters t ts h in
    grind (arith, after_word, one_split)

-- no line is one word and two tokens
never_both : (a letters : List ℕ) (t u : Token) (us : List Token) → HasNoSpace letters → SpellsLine [] a (Word letters ∷ []) → SpellsLine [] a (t ∷ u ∷ us) → ⊥
never_both a letters t u us p h k =
    let b = after_token [] a t u us k in
    never_split letters b.1.front b.0 p (sym (alone [] a (Word letters) h) ∙ b.1.parts)

-- a refusal has its word alone, or a step after it
pub alone_or_step : (r : Refusal) → (refusal_tokens r ≡ Word (word_of r) ∷ []) ⊎ ((by : ℕ) × (refusal_tokens r ≡ Word (word_of r) ∷ Number by ∷ []))
alone_or_step r = grind arith

-- the cause with this step, if it names one
abbrev with_step : Cause → ℕ → Cause
with_step (Because (Final by)) n = Because (Final n)
with_step (Because (Needed by)) n = Because (Needed n)
with_step c n = c

-- a cause that names no step
record Alone (c : Cause) : Type 0 where
  tokens : cause_tokens c ≡ Word (cause_word c) ∷ []
  is : plain c ≡ c

-- and one that names this step
record Names (c : Cause) (by : ℕ) : Type 0 where
  tokens : cause_tokens c ≡ Word (cause_word c) ∷ Number by ∷ []
  is : with_step (plain c) by ≡ c

names_or_not : (c : Cause) → Alone c ⊎ ((by : ℕ) × Names c by)
names_or_not c = grind arith

-- no line is a word alone and a word with a step
never_names : (a : List ℕ) (c d : Cause) (by : ℕ) → Alone c → Names d by → SpellsLine [] a (cause_tokens c) → SpellsLine [] a (cause_tokens d) → ⊥
never_names a c d by e f h k = grind (arith, never_both a (cause_word c) (Word (cause_word d)) (Number by) [] (cause_has_no_space c) (rw e.tokens at h) (rw f.tokens at k))

-- a word and a step are one cause's
one_named : (a : List ℕ) (c d : Cause) (m n : ℕ) → Names c m → Names d n → SpellsLine [] a (cause_tokens c) → SpellsLine [] a (cause_tokens d) → c ≡ d
one_named a c d m n e f h k =
    let b = after_word [] a (cause_word c) (Number m) [] (rw e.tokens at h) in
    let g = after_word [] a (cause_word d) (Number n) [] (rw f.tokens at k) in
    let same = one_split (cause_word c) (cause_word d) b.0 g.0 (cause_has_no_space c) (cause_has_no_space d) (sym b.1 ∙ g.1) in
    cc (one_number b.0 m n (alone [] b.0 (Number m) b.2) (alone [] b.0 (Number n) (rw (sym same.1) at g.2)), one_word c d same.0)

one_cause : (a : List ℕ) (c d : Cause) → SpellsLine [] a (cause_tokens c) → SpellsLine [] a (cause_tokens d) → c ≡ d
one_cause a c d h k =
    ⊎_elim
    (λ (e : Alone c).
    ⊎_elim
    (λ (f : Alone d).
    sym e.is ∙ one_word c d (sym (alone [] a (Word (cause_word c)) (rw e.tokens at h)) ∙ alone [] a (Word (cause_word d)) (rw f.tokens at k)) ∙ f.is)
    (λ (n : (by : ℕ) × Names d by). absurd (never_names a c d n.0 e n.1 h k))
    (names_or_not d))
    (λ (m : (by : ℕ) × Names c by).
    ⊎_elim
    (λ (f : Alone d). absurd (never_names a d c m.0 f m.1 k h))
    (λ (n : (by : ℕ) × Names d by). one_named a c d m.0 n.0 m.1 n.1 h k)
    (names_or_not d))
    (names_or_not c)

-- what stands after a number
record SameNumber (m n : ℕ) (t : Token) (ts : List Token) (u : Token) (us : List Token) : Type 0 where
  number : m ≡ n
  rest : List ℕ
  one : SpellsLine [] rest (t ∷ ts)
  other : SpellsLine [] rest (u ∷ us)

same_number : (a : List ℕ) (m n : ℕ) (t : Token) (ts : List Token) (u : Token) (us : List Token) → SpellsLine [] a (Number m ∷ t ∷ ts) → SpellsLine [] a (Number n ∷ u ∷ us) → SameNumber m n t ts u us
same_number a m n t ts u us h k =
    let b = after_token [] a (Number m) t ts h in
    let d = after_token [] a (Number n) u us k in
    grind (arith, one_split, digits_have_no_space, one_number)

-- no line is one number and two tokens
number_or_two : (a : List ℕ) (m n : ℕ) (u : Token) (us : List Token) → SpellsLine [] a (Number m ∷ []) → SpellsLine [] a (Number n ∷ u ∷ us) → ⊥
number_or_two a m n u us h k =
    let b = after_token [] a (Number n) u us k in
    never_split a b.1.front b.0 (digits_have_no_space a (alone [] a (Number m) h).number.digits) b.1.parts

-- numbers have one line
one_list : (a : List ℕ) (m n : ℕ) (ms ns : List ℕ) → SpellsLine [] a (map Number (m ∷ ms)) → SpellsLine [] a (map Number (n ∷ ns)) → (m ∷ ms) ≡ (n ∷ ns)
one_list a m n [] [] h k = ap (λ (id : ℕ). id ∷ []) (one_number a m n (alone [] a (Number m) h) (alone [] a (Number n) k))
one_list a m n [] (j ∷ ns) h k = absurd (number_or_two a m n (Number j) (map Number ns) h k)
one_list a m n (i ∷ ms) [] h k = absurd (number_or_two a n m (Number i) (map Number ms) k h)
one_list a m n (i ∷ ms) (j ∷ ns) h k =
    let s = same_number a m n (Number i) (map Number ms) (Number j) (map Number ns) h k in
    cc (one_list s.rest i j ms ns s.one s.other)

-- and so have the steps that were taken back
one_undone : (a : List ℕ) (ms ns : List ℕ) → SpellsLine [] a (undone_tokens ms) → SpellsLine [] a (undone_tokens ns) → ms ≡ ns
one_undone a [] [] h k = refl
one_undone a [] (n ∷ ns) h k = absurd (never_both a (codes "undone") _ (Number n) (map Number ns) (search rules) h k)
one_undone a (m ∷ ms) [] h k = absurd (never_both a (codes "undone") _ (Number m) (map Number ms) (search rules) k h)
one_undone a (m ∷ ms) (n ∷ ns) h k =
    let b = one_word_first a (codes "undone") (Number m) (map Number ms) (Number n) (map Number ns) (search rules) h k in
    one_list b.0 m n ms ns b.1 b.2

-- and so has the news
one_news : (a : List ℕ) (m n : ℕ) (ms ns : List ℕ) → SpellsLine [] a (news_tokens m ms) → SpellsLine [] a (news_tokens n ns) → (m ≡ n) × (ms ≡ ns)
one_news a m n ms ns h k =
    let b = one_word_first a (codes "news") (Number m) (map Number ms) (Number n) (map Number ns) (search rules) h k in
    grind (arith, one_list b.0 m n ms ns b.1 b.2)

-- what stands after the first word of a reply
after_done : (a letters : List ℕ) (id : ℕ) (got : Option Message) → SpellsLine [] a (Word letters ∷ done_tokens id got) → (rest : List ℕ) × (a ≡ spaced (letters ∷ rest ∷ [])) × SpellsLine [] rest (done_tokens id got)
after_done a letters id None h = after_word [] a letters _ _ h
after_done a letters id (Some message) h = after_word [] a letters _ _ h

after_cause : (a : List ℕ) (c : Cause) → SpellsReply a (reply_of c) → (rest : List ℕ) × (a ≡ spaced (codes "refused" ∷ rest ∷ [])) × SpellsLine [] rest (cause_tokens c)
after_cause a (Because (Final by)) h = after_word [] a (codes "refused") _ _ h
after_cause a other h = after_word [] a (codes "refused") _ _ h

-- a line has one cause
same_cause : (a : List ℕ) (c d : Cause) → SpellsReply a (reply_of c) → SpellsReply a (reply_of d) → reply_of c ≡ reply_of d
same_cause a c d h k =
    let b = after_cause a c h in
    let f = after_cause a d k in
    let same = one_split (codes "refused") (codes "refused") b.0 f.0 (search rules) (search rules) (sym b.1 ∙ f.1) in
    ap reply_of (one_cause b.0 c d b.2 (rw (sym same.1) at f.2))

-- a line begins with the first byte of its first word
first_byte : (a letters : List ℕ) (ts : List Token) → 0 < length letters → SpellsLine [] a (Word letters ∷ ts) → get_or a 0 0 ≡ get_or letters 0 0
first_byte a letters ts some h =
    let w = first_word [] a letters ts h in
    ap (λ (l : List ℕ). get_or l 0 0) w.1 ∙ front letters w.0 some
  where
    front : (xs : List ℕ) (ss : List (List ℕ)) → 0 < length xs → get_or (spaced (xs ∷ ss)) 0 0 ≡ get_or xs 0 0
    front [] ss k = absurd (omega (arith, k))
    front (x ∷ xs) [] k = refl
    front (x ∷ xs) (s ∷ ss) k = refl

-- replies of different kinds are told apart by it
abbrev pub letter : Reply → ℕ
letter (Answered (Accepted done)) = 100
letter (Answered (Undone ids)) = 117
letter (Answered (News n ids)) = 110
letter (Answered (Shown text)) = 123
letter (Joined session name) = 106
letter reply = 114

show_letter : (a text : List ℕ) → SpellsShow a text → get_or a 0 0 ≡ 123
show_letter [] text h = absurd (cc)
show_letter (c ∷ a) text h = same_Some c 123 h.allowed.brace

pub begins : (a : List ℕ) (r : Reply) → SpellsReply a r → get_or a 0 0 ≡ letter r
begins a (Answered (Accepted done)) h = first_byte a (codes "done") _ (omega arith) h
begins a (Answered (Undone ids)) h = first_byte a (codes "undone") _ (omega arith) h
begins a (Answered (News n ids)) h = first_byte a (codes "news") _ (omega arith) h
begins a (Answered (Shown text)) h = show_letter a text (alone [] a (Show text) h)
begins a (Joined session name) h = first_byte a (codes "joined") _ (omega arith) h
begins a other h = first_byte a (codes "refused") _ (omega arith) h

one_letter : (a : List ℕ) (r s : Reply) → SpellsReply a r → SpellsReply a s → letter r ≡ letter s
one_letter a r s h k = sym (begins a r h) ∙ begins a s k

-- a reply says why a line is refused, or it begins with another letter
refused_or_not : (r : Reply) → ((c : Cause) × (r ≡ reply_of c)) ⊎ (letter r ≢ 114)
refused_or_not (Answered (Refused r)) = inl (Because r, refl)
refused_or_not BadLine = inl (Unread, refl)
refused_or_not NoSession = inl (Nowhere, refl)
refused_or_not NoRole = inl (Nobody, refl)
refused_or_not Taken = inl (Used, refl)
refused_or_not WrongNumber = inl (Misnumbered, refl)
refused_or_not Busy = inl (Crowded, refl)
refused_or_not Unkept = inl (Fileless, refl)
refused_or_not Elsewhere = inl (Outside, refl)
refused_or_not other = inr (λ e. absurd (omega (arith, e)))

cause_letter : (c : Cause) → letter (reply_of c) ≡ 114
cause_letter c = grind arith

-- a refusal has a code
refusal_coded : (r : Refusal) → 0 < refusal_code r
refusal_coded r = grind arith

-- a reply has a code where its letter is an r
coded : (r : Reply) → letter r ≡ 114 → code_of r ≢ 0
coded (Answered (Refused r)) e = λ none. absurd (omega (arith, none, refusal_coded r))
coded BadLine e = λ none. absurd (omega (arith, none))
coded NoSession e = λ none. absurd (omega (arith, none))
coded NoRole e = λ none. absurd (omega (arith, none))
coded Taken e = λ none. absurd (omega (arith, none))
coded WrongNumber e = λ none. absurd (omega (arith, none))
coded Busy e = λ none. absurd (omega (arith, none))
coded Unkept e = λ none. absurd (omega (arith, none))
coded Elsewhere e = λ none. absurd (omega (arith, none))
coded r e = absurd (omega (arith, e))

-- and nowhere else
lettered : (r : Reply) → code_of r ≢ 0 → letter r ≡ 114
lettered (Answered (Refused r)) some = refl
lettered BadLine some = refl
lettered NoSession some = refl
lettered NoRole some = refl
lettered Taken some = refl
lettered WrongNumber some = refl
lettered Busy some = refl
lettered Unkept some = refl
lettered Elsewhere some = refl
lettered r some = absurd (some refl)

refusal_at : (line : List ℕ) → is_refusal line ≡ (get_or line 0 0 == 114)
refusal_at [] = refl
refusal_at (c ∷ line) = refl

-- so its text tells it by the first byte
pub told_by_letter : (a : List ℕ) (r : Reply) → SpellsReply a r → IsTrue (is_refusal a) ↔ code_of r ≢ 0
told_by_letter a r h = (
  (λ is. coded r (sym (begins a r h) ∙ eqb-true (get_or a 0 0) 114 (sym (refusal_at a) ∙ is))),
  (λ some. refusal_at a ∙ eq-eqb (get_or a 0 0) 114 (begins a r h ∙ lettered r some)),
)

-- and so has the line that a role is joined to a connection
one_pass : (a : List ℕ) (m n : ℕ) (x y : List ℕ) → SpellsReply a (Joined m x) → SpellsReply a (Joined n y) → (m ≡ n) × (x ≡ y)
one_pass a m n x y h k =
    let b = one_word_first a (codes "joined") (Number m) (Called x ∷ []) (Number n) (Called y ∷ []) (search rules) h k in
    let s = same_number b.0 m n (Called x) [] (Called y) [] b.1 b.2 in
    (s.number, sym (alone [] s.rest (Called x) s.one).is ∙ (alone [] s.rest (Called y) s.other).is)

-- a text spells one value, and a value no name
module _ (one_value : (a : List ℕ) (v w : Value) → SpellsValue a v → SpellsValue a w → v ≡ w) (no_name : (a : List ℕ) (v : Value) → SpellsValue a v → IsName a → ⊥) where
  one_message : (a : List ℕ) (m n : Message) → SpellsToken [] a (message_token m) → SpellsToken [] a (message_token n) → m ≡ n
  one_message a m n h k = grind arith

  one_done : (a : List ℕ) (m n : ℕ) (x y : Option Message) → SpellsLine [] a (done_tokens m x) → SpellsLine [] a (done_tokens n y) → (m ≡ n) × (x ≡ y)
  one_done a m n None None h k = (one_number a m n (alone [] a (Number m) h) (alone [] a (Number n) k), refl)
  one_done a m n None (Some y) h k = absurd (number_or_two a m n (message_token y) [] h k)
  one_done a m n (Some x) None h k = absurd (number_or_two a n m (message_token x) [] k h)
  one_done a m n (Some x) (Some y) h k =
      let s = same_number a m n (message_token x) [] (message_token y) [] h k in
      (s.number, ap Some (one_message s.rest x y (alone [] s.rest (message_token x) s.one) (alone [] s.rest (message_token y) s.other)))

  same_done : (d e : Done) → (d.id ≡ e.id) × (d.got ≡ e.got) → d ≡ e
  same_done d e h = grind arith

  -- replies that refuse nothing
  one_other : (a : List ℕ) (r s : Reply) → letter r ≡ letter s → letter r ≢ 114 → SpellsReply a r → SpellsReply a s → r ≡ s
  one_other a (Answered (Accepted d)) (Answered (Accepted e)) l other h k =
      let b = after_done a (codes "done") d.id d.got h in
      let f = after_done a (codes "done") e.id e.got k in
      let same = one_split (codes "done") (codes "done") b.0 f.0 (search rules) (search rules) (sym b.1 ∙ f.1) in
      ap (λ (done : Done). Answered (Accepted done)) (same_done d e (one_done b.0 d.id e.id d.got e.got b.2 (rw (sym same.1) at f.2)))
  one_other a (Answered (Undone ms)) (Answered (Undone ns)) l other h k = ap (λ (ids : List ℕ). Answered (Undone ids)) (one_undone a ms ns h k)
  one_other a (Answered (News m ms)) (Answered (News n ns)) l other h k = grind (arith, one_news a m n ms ns h k)
  one_other a (Answered (Shown x)) (Answered (Shown y)) l other h k = ap (λ (text : List ℕ). Answered (Shown text)) (sym (alone [] a (Show x) h).is ∙ (alone [] a (Show y) k).is)
  one_other a (Joined m x) (Joined n y) l other h k = grind (arith, one_pass a m n x y h k)
  one_other a (Answered (Refused r)) s l other h k = absurd (other refl)
  one_other a BadLine s l other h k = absurd (other refl)
  one_other a NoSession s l other h k = absurd (other refl)
  one_other a NoRole s l other h k = absurd (other refl)
  one_other a Taken s l other h k = absurd (other refl)
  one_other a WrongNumber s l other h k = absurd (other refl)
  one_other a Busy s l other h k = absurd (other refl)
  one_other a Unkept s l other h k = absurd (other refl)
  one_other a Elsewhere s l other h k = absurd (other refl)
  one_other a (Joined m x) (Answered (Shown y)) l other h k = absurd (omega (arith, l))
  one_other a r s l other h k = absurd (omega (arith, l))

  pub one_reply : (a : List ℕ) (r s : Reply) → SpellsReply a r → SpellsReply a s → r ≡ s
  one_reply a r s h k =
      let l = one_letter a r s h k in
      ⊎_elim
      (λ (c : (c : Cause) × (r ≡ reply_of c)).
      ⊎_elim
      (λ (d : (d : Cause) × (s ≡ reply_of d)). c.1 ∙ same_cause a c.0 d.0 (subst (SpellsReply a) c.1 h) (subst (SpellsReply a) d.1 k) ∙ sym d.1)
      (λ (other : letter s ≢ 114). absurd (other (sym l ∙ ap letter c.1 ∙ cause_letter c.0)))
      (refused_or_not s))
      (λ (other : letter r ≢ 114). one_other a r s l other h k)
      (refused_or_not r)
