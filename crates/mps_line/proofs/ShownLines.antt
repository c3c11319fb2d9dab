-- What is spelled stands on one line.
use Rattle.std.proofs.Common.{arith, ◌≡◌, ◌≢◌, ℕ, ◌<◌, List, [], ◌∷◌, length, Some}
use Rattle.std.specs.Prelude.{Option, None, IsTrue, ⊤, map, codes}
use Rattle.std.specs.List.{AllByRecursion}
use Rattle.std.specs.Str.Parse.{AllDigits}
use Rattle.std.proofs.lemmas.Bool.Decides.{nat_tests}
use Rattle.std.proofs.lemmas.Str.Parse.{digit_from_value}
use Rattle.mps_base.specs.Names.{is_name_byte}
use Rattle.mps_base.specs.Spaced.{spaced}
use Rattle.mps_base.specs.Values.{IsShown}
use Rattle.mps_base.proofs.Values.{shown}
use Rattle.mps_command.specs.declared.answer.Answer.TheVariants.{Done, Undone, News, Shown}
use Rattle.mps_command.specs.declared.command.Command.{Command}
use Rattle.mps_line.specs.declared.write_replies.Reply.{Reply}
use Rattle.mps_line.specs.declared.write_replies.Reply.TheVariants.{Answer as Answered, Joined}
use Rattle.mps_line.specs.Tokens.{Token, Word, Number, Show, SpellsShow, SpellsToken, SpellEach, SpellsLine}
use Rattle.mps_line.proofs.Splitting.{alone}
use Rattle.mps_line.specs.Commands.{command_tokens, SpellsCommand, SpellsScriptLine, SpellsNumbered}
use Rattle.mps_line.specs.Replies.{reply_tokens, SpellsReply}

abbrev AreShown : List ℕ → Type 0
AreShown bytes = AllByRecursion IsShown bytes

shown_digits : (ds : List ℕ) → AllDigits 10 ds → AreShown ds
shown_digits [] h = tt
shown_digits (d ∷ ds) h = grind (arith, digit_from_value d h.0, shown_digits ds h.1)

shown_name : (bytes : List ℕ) → AllByRecursion (λ c. IsTrue (is_name_byte c)) bytes → AreShown bytes
shown_name [] h = tt
shown_name (c ∷ bytes) h = grind (arith, nat_tests, shown_name bytes h.1)

-- a word has only such bytes
abbrev IsPlain : Token → Type 0
IsPlain (Word letters) = AreShown letters
IsPlain token = ⊤

shown_token : (names : List (List ℕ)) (a : List ℕ) (t : Token) → IsPlain t → SpellsToken names a t → AreShown a
shown_token names a t p h = grind (arith, shown_name, shown_digits, shown)

-- a token in front of others
shown_more : (xs : List ℕ) (ss : List (List ℕ)) → AreShown xs → AreShown (spaced ss) → AreShown (spaced (xs ∷ ss))
shown_more xs [] p q = p
shown_more [] (s ∷ ss) p q = (record { low = omega arith; high = omega arith }, q)
shown_more (x ∷ xs) (s ∷ ss) p q = (p.0, shown_more xs (s ∷ ss) p.1 q)

shown_each : (names : List (List ℕ)) (ss : List (List ℕ)) (ts : List Token) → AllByRecursion IsPlain ts → SpellEach names ss ts → AreShown (spaced ss)
shown_each names [] [] p h = tt
shown_each names (s ∷ ss) (t ∷ ts) p h = shown_more s ss (shown_token names s t p.0 h.0) (shown_each names ss ts p.1 h.1)
shown_each names other others p h = absurd h

shown_tokens : (names : List (List ℕ)) (a : List ℕ) (ts : List Token) → AllByRecursion IsPlain ts → SpellsLine names a ts → AreShown a
shown_tokens names a ts p h = rw h.joined (shown_each names h.spellings ts p h.each)

-- ---- commands

plain_command : (c : Command) → AllByRecursion IsPlain (command_tokens c)
plain_command c = grind arith

pub shown_command : (names : List (List ℕ)) (a : List ℕ) (c : Command) → SpellsCommand names a c → AreShown a
shown_command names a c h = shown_tokens names a _ (plain_command c) h

pub shown_line : (names : List (List ℕ)) (a : List ℕ) (p : ℕ) (c : Command) → SpellsScriptLine names a p c → AreShown a
shown_line names a p c h = shown_tokens names a _ (tt, plain_command c) h

pub shown_numbered : (names : List (List ℕ)) (a : List ℕ) (number : Option ℕ) (c : Command) → SpellsNumbered names a number c → AreShown a
shown_numbered names a None c h = shown_command names a c h.line
shown_numbered names a (Some n) c h = shown_tokens names a _ (tt, plain_command c) h.line

-- ---- replies

plain_numbers : (ids : List ℕ) → AllByRecursion IsPlain (map Number ids)
plain_numbers [] = tt
plain_numbers (id ∷ ids) = (tt, plain_numbers ids)

plain_reply : (r : Reply) → AllByRecursion IsPlain (reply_tokens r)
plain_reply r = grind (arith, plain_numbers)

pub shown_reply : (a : List ℕ) (r : Reply) → SpellsReply a r → AreShown a
shown_reply a r h = shown_tokens [] a (reply_tokens r) (plain_reply r) h

no_feed : (a : List ℕ) → AreShown a → AllByRecursion (λ c. c ≢ 10) a
no_feed [] h = tt
no_feed (c ∷ a) h = ((λ e. absurd (omega (arith, h.0.low, e))), no_feed a h.1)

pub no_line_feed : (a : List ℕ) (r : Reply) → SpellsReply a r → AllByRecursion (λ c. c ≢ 10) a
no_line_feed a r h = no_feed a (shown_reply a r h)

-- ---- a byte at least

-- a line that begins with a word isn't empty
some_word : (a : List ℕ) (letters : List ℕ) (ts : List Token) → 0 < length letters → SpellsLine [] a (Word letters ∷ ts) → 0 < length a
some_word a letters ts some h = by_spellings h.spellings h.joined h.each
  where
    longer : (xs : List ℕ) (ss : List (List ℕ)) → 0 < length xs → 0 < length (spaced (xs ∷ ss))
    longer [] ss k = absurd (omega (arith, k))
    longer (x ∷ xs) [] k = omega arith
    longer (x ∷ xs) (s ∷ ss) k = omega arith

    by_spellings : (ss : List (List ℕ)) → a ≡ spaced ss → SpellEach [] ss (Word letters ∷ ts) → 0 < length a
    by_spellings [] e k = absurd k
    by_spellings (s ∷ ss) e k = rw e (longer s ss (rw k.0 some))

-- nor is a shown session
some_show : (a text : List ℕ) → SpellsShow a text → 0 < length a
some_show [] text h = absurd (cc)
some_show (c ∷ a) text h = omega arith

pub some_reply : (a : List ℕ) (r : Reply) → SpellsReply a r → 0 < length a
some_reply a (Answered (Done done)) h = some_word a (codes "done") _ (omega arith) h
some_reply a (Answered (Undone ids)) h = some_word a (codes "undone") _ (omega arith) h
some_reply a (Answered (News n ids)) h = some_word a (codes "news") _ (omega arith) h
some_reply a (Answered (Shown text)) h = some_show a text (alone [] a (Show text) h)
some_reply a (Joined session name) h = some_word a (codes "joined") _ (omega arith) h
some_reply a other h = some_word a (codes "refused") _ (omega arith) h
