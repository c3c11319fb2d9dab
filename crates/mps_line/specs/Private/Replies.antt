-- Replies of one word, and how numbers follow a word.
use Rattle.std.specs.Prelude.{ℕ, ◌<◌, List, [], ◌∷◌, length, map, codes}
use Rattle.mps_line.specs.declared.write_replies.Reply.{Reply}
use Rattle.mps_line.specs.declared.write_replies.Reply.TheVariants.{BadLine, NoSession, NoRole, Taken}
use Rattle.mps_line.specs.declared.write_replies.Reply.TheVariants.{Busy, Elsewhere, Number as WrongNumber, Unkept}
use Rattle.mps_line.specs.Tokens.{Number, SpellsLine}

-- the words of refusals that are neither violations nor name a step
abbrev pub lone_words : List (List ℕ)
lone_words = codes "nostep" ∷ codes "notyours" ∷ codes "nomark" ∷ codes "full" ∷ codes "memory" ∷ []

-- the word after `refused` of a reply that answers no command; any other has none
abbrev pub own_word : Reply → List ℕ
own_word BadLine = codes "line"
own_word NoSession = codes "nosession"
own_word NoRole = codes "norole"
own_word Taken = codes "taken"
own_word WrongNumber = codes "number"
own_word Busy = codes "busy"
own_word Unkept = codes "journal"
own_word Elsewhere = codes "elsewhere"
own_word reply = []

-- these words, but for those that say why a session isn't opened
abbrev pub own_words : List (List ℕ)
own_words = codes "line" ∷ codes "nosession" ∷ codes "norole" ∷ codes "taken" ∷ codes "number" ∷ []

-- those
abbrev pub opening_words : List (List ℕ)
opening_words = codes "busy" ∷ codes "journal" ∷ codes "elsewhere" ∷ []

-- the numbers of some steps, one at least, with one space between two
pub record SpellsSteps (bytes : List ℕ) (ids : List ℕ) : Type 0 where
  pub some : 0 < length ids
  pub line : SpellsLine [] bytes (map Number ids)
