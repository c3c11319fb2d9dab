-- What an act has to do with other roles.
use Rattle.std.specs.Prelude.{ℕ, List, Option}
use Rattle.mps_base.specs.declared.action.Act.{Act}
use Rattle.mps_base.specs.declared.action.Act.TheVariants.{Out, In, Mark, Commit}
use Rattle.mps_base.specs.declared.action.Message.{Message}

-- it gives a role a message, it takes one that came from a role, or it has to do with the own role alone
pub data Effect : Type 0 where
  Gives : ℕ → Message → Effect
  Takes : ℕ → Option (List ℕ) → Effect
  Idle : Effect

-- the effect of an act: definitions that ask no more of an act go by this
abbrev pub effect : Act → Effect
effect (Out to message) = Gives to message
effect (In from slot) = Takes from slot
effect (Mark name) = Idle
effect Commit = Idle
