-- The choices of a protocol, in the order in which a fault of projection counts them.
use Rattle.std.specs.Prelude.{◌≡◌, ℕ, List, [], ◌∷◌, ◌++◌, Option, None, Some, slice_get}
use Rattle.mps_base.specs.Spaced.{spaced}
use Rattle.mps_global.specs.Global.{GlobalType, End, Var, Rec, Message, Choice, Branches, NoMore, More}
use Rattle.mps_open.specs.Texts.{IsProtocolText}

-- the labels of branches
abbrev pub labels : Branches → List (List ℕ)
labels NoMore = []
labels (More label next others) = label ∷ labels others

abbrev mutual
  -- of each choice of the tree, in preorder, who chooses, who is told, and the labels
  pub choices : GlobalType → List (List (List ℕ))
  choices End = []
  choices (Var name) = []
  choices (Rec name body) = choices body
  choices (Message sender receiver sort next) = choices next
  choices (Choice sender receiver branches) = (sender ∷ receiver ∷ labels branches) ∷ choices_in branches

  -- the same of what follows labels
  pub choices_in : Branches → List (List (List ℕ))
  choices_in NoMore = []
  choices_in (More label next others) = choices next ++ choices_in others

-- the words of the choice of that number, counted from 0, if there are so many
abbrev pub choice_at : GlobalType → ℕ → Option (List (List ℕ))
choice_at tree number = slice_get (choices tree) number

-- the words with a space between two; nothing where there is no such choice
abbrev pub told_of : Option (List (List ℕ)) → List ℕ
told_of None = []
told_of (Some words) = spaced words

-- it is of the protocol that the text spells
pub record IsChoiceText (text : List ℕ) (number : ℕ) (words : List ℕ) : Type 0 where
  pub roles : List (List ℕ)
  pub tree : GlobalType
  pub spelled : IsProtocolText text roles tree
  pub is : words ≡ told_of (choice_at tree number)
