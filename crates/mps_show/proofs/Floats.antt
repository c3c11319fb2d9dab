-- No float is shown.
use Rattle.std.proofs.Common.{arith, ◌≡◌, ℕ, false, List, [], ◌∷◌, map, Option, refl}
use Rattle.std.specs.List.{AllByRecursion, flat_map}
use Rattle.mps_base.specs.declared.action.Message.{Message}
use Rattle.mps_base.specs.declared.action.Step.{Step}
use Rattle.mps_base.specs.declared.value.Value.{Value}
use Rattle.mps_local.specs.Local.{LocalType}
use Rattle.mps_machine.specs.View.{Participant}
use Rattle.mps_show.specs.Shown.{value_shown, step_shown, queue_shown, role_shown, shown}
use Rattle.mps_show.proofs.Rows.{all-append}
use Rattle.serde_json.specs.Data.{Data}
use Rattle.serde_json.specs.View.{items_of}
use Rattle.serde_json.specs.Written.{has_float, items_have_float}

abbrev HasNone : Data → Type 0
HasNone d = has_float d ≡ false

in_row : (ds : List Data) → AllByRecursion HasNone ds → items_have_float (items_of ds) ≡ false
in_row [] h = refl
in_row (d ∷ ds) h = rw h.0 (in_row ds h.1)

each : {A : Type 0} (f : A → Data) (xs : List A) → ((x : A) → HasNone (f x)) → AllByRecursion HasNone (map f xs)
each f [] h = tt
each f (x ∷ xs) h = (h x, each f xs h)

all_rows : {A : Type 0} (f : A → List Data) (xs : List A) → ((x : A) → AllByRecursion HasNone (f x)) → AllByRecursion HasNone (flat_map f xs)
all_rows f [] h = tt
all_rows f (x ∷ xs) h = all-append HasNone (f x) (flat_map f xs) (h x) (all_rows f xs h)

in_value : (v : Value) → HasNone (value_shown v)
in_value v = grind arith

in_step : (names : List (List ℕ)) (m : Step × Option Message) → HasNone (step_shown names m)
in_step names m = grind (arith, in_row, in_value)

in_queue : (names : List (List ℕ)) (p q : ℕ) (queue : List Message) → AllByRecursion HasNone (queue_shown names p q queue)
in_queue names p q queue = grind (arith, in_row, each, in_value)

in_role : (names : List (List ℕ)) (past : List ℕ) (p : ℕ) (c : Participant) → HasNone (role_shown names past p c)
in_role names past p c = grind (arith, in_row, each, in_value)

-- so the text of what is shown is that of the data
pub no_float : (names : List (List ℕ)) (types : List LocalType) (h : List Step) → has_float (shown names types h) ≡ false
no_float names types h = grind (arith, all_rows, in_queue, each, in_role, in_row, in_step)
