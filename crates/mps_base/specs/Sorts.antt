-- Sorts: how they are spelled, when two are the same, and which values are of which.
use Rattle.std.specs.Prelude.{ℕ, Bool, true, false, List, codes}
use Rattle.mps_base.specs.declared.value.Sort.{Sort}
use Rattle.mps_base.specs.declared.value.Sort.TheVariants.{Int, Bool as Truth, Text}
use Rattle.mps_base.specs.declared.value.Value.{Value}
use Rattle.mps_base.specs.declared.value.Value.TheVariants as values

-- the word for a sort
abbrev pub sort_word : Sort → List ℕ
sort_word Int = codes "int"
sort_word Truth = codes "bool"
sort_word Text = codes "text"

-- whether two sorts are the same
abbrev pub same_sort : Sort → Sort → Bool
same_sort Int Int = true
same_sort Truth Truth = true
same_sort Text Text = true
same_sort sort other = false

-- the sort of a value
abbrev pub sort_of : Value → Sort
sort_of (values.Int n) = Int
sort_of (values.Bool b) = Truth
sort_of (values.Text t) = Text

-- whether the value is of that sort
abbrev pub fits : Value → Sort → Bool
fits value sort = same_sort (sort_of value) sort
