-- What a clause reads of a hold.
use Rattle.std.specs.Prelude.{Bool, Option}
use Rattle.std.specs.Option.{is_some, option_map}
use Rattle.mps_dev.specs.declared.traits.Sink.{Ghosts}
use Rattle.mps_keeper.specs.declared.keeper.Hold.{Hold}
use Rattle.mps_keeper.specs.declared.keeper.Keeper.{Keeper}

-- the keeper that it is one of, if there is one
abbrev pub keeper_of : {R W D : Type 0} {sink : Ghosts W} → Hold R W D sink → Option (Keeper W D sink)
keeper_of h = option_map (λ k. k.now) h.keeper

-- whether it is one of a keeper
abbrev pub records_of : {R W D : Type 0} {sink : Ghosts W} → Hold R W D sink → Bool
records_of h = is_some h.keeper

-- whether nothing was lost that came through it
abbrev pub whole_of : {R W D : Type 0} {sink : Ghosts W} → Hold R W D sink → Bool
whole_of h = h.whole
