-- What holds of each item also does where one more may have come.
use Rattle.std.proofs.Common.{◌++◌, ◌∷◌, [], List, Bool, true, false}
use Rattle.std.specs.Prelude.{if◌then◌else◌}
use Rattle.std.specs.List.{AllByRecursion}
use Rattle.mps_session.proofs.HoldsAfterAct.{all_push}

pub all_or_one_more : {A : Type 0} (P : A → Type 0) (b : Bool) (xs : List A) (x : A) → AllByRecursion P xs → P x → AllByRecursion P (if b then xs ++ x ∷ [] else xs)
all_or_one_more P true xs x a p = all_push P xs x a p
all_or_one_more P false xs x a p = a
