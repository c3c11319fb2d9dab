-- Lists of requests and their answers.
use Rattle.std.specs.Prelude.{◌≡◌, List, [], ◌∷◌}
use Rattle.mps_command.specs.declared.answer.Answer.{Answer}
use Rattle.mps_local.specs.Local.{LocalType}
use Rattle.mps_machine.specs.Machine.{State, Request}
use Rattle.mps_machine.specs.Answering.{IsChanged, result_of}

-- as many answers as requests: each is served as the machine serves it, in the state that the one before it left
abbrev pub AreServed : List LocalType → List Request → List Answer → (old new : State) → Type 0
AreServed types [] [] old new = new ≡ old
AreServed types (r ∷ requests) (a ∷ answers) old new =
    (next : State) × IsChanged types r.0 r.1 (result_of a) old next × AreServed types requests answers next new
AreServed types requests answers old new = ⊥
