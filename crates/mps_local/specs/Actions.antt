-- What a local type allows first, and what comes then.
use Rattle.std.specs.Prelude.{◌≡◌, ℕ, if◌then◌else◌, List, [], ◌∷◌, Option, None, Some, slice_get}
use Rattle.std.specs.Str.{bytes_eq}
use Rattle.mps_base.specs.declared.value.Sort.{Sort}
use Rattle.mps_local.specs.Local.{LocalType, Branches, End, Send, Recv, Select, Branch, NoMore, More}
use Rattle.mps_local.specs.Unfolding.{unfolded}

-- what follows the label
abbrev pub branch_at : List ℕ → Branches → Option LocalType
branch_at label NoMore = None
branch_at label (More l t others) = if bytes_eq l label then Some t else branch_at label others

-- the labels of branches, in their order
abbrev pub labels : Branches → List (List ℕ)
labels NoMore = []
labels (More label next others) = label ∷ labels others

-- the types after the labels, in the same order
abbrev pub nexts : Branches → List LocalType
nexts NoMore = []
nexts (More label next others) = next ∷ nexts others

-- what a role does first: an output or an input of a value, a choice that it makes or takes, or nothing any more
pub data Head : Type 0 where
  Ends : Head
  Sends : (peer : ℕ) (sort : Sort) → Head
  Receives : (peer : ℕ) (sort : Sort) → Head
  Chooses : (peer : ℕ) (labels : List (List ℕ)) → Head
  Picks : (peer : ℕ) (labels : List (List ℕ)) → Head

-- the action that a type begins with, if it does with one
abbrev pub first_action : LocalType → Head
first_action (Send peer sort next) = Sends peer sort
first_action (Recv peer sort next) = Receives peer sort
first_action (Select peer branches) = Chooses peer (labels branches)
first_action (Branch peer branches) = Picks peer (labels branches)
first_action t = Ends

-- what follows that action: after a value one type, after a choice the type after the label of that place
abbrev pub continuation : LocalType → Option ℕ → Option LocalType
continuation (Send peer sort next) None = Some next
continuation (Recv peer sort next) None = Some next
continuation (Select peer branches) (Some place) = slice_get (nexts branches) place
continuation (Branch peer branches) (Some place) = slice_get (nexts branches) place
continuation t choice = None

-- what the type allows first, each `rec` in front of it opened
abbrev pub head : LocalType → Head
head t = first_action (unfolded t)

-- the type that is left when it was done, with the place of the label that was chosen, if it is a choice
abbrev pub type_left : LocalType → Option ℕ → Option LocalType
type_left t choice = continuation (unfolded t) choice

-- the type begins so: it is the end, or an action of that kind with that peer, and with that sort or those labels
abbrev pub Begins : Head → LocalType → Type 0
Begins Ends t = t ≡ End
Begins (Sends peer sort) t = (next : LocalType) × (t ≡ Send peer sort next)
Begins (Receives peer sort) t = (next : LocalType) × (t ≡ Recv peer sort next)
Begins (Chooses peer names) t = (branches : Branches) × (t ≡ Select peer branches) × (names ≡ labels branches)
Begins (Picks peer names) t = (branches : Branches) × (t ≡ Branch peer branches) × (names ≡ labels branches)
