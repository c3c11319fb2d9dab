-- What a clause reads of a book.
use Rattle.std.specs.Prelude.{ℕ, Bool, List, Option}
use Rattle.std.specs.Option.{option_map}
use Rattle.mps_dev.specs.declared.traits.Sink.{Ghosts}
use Rattle.mps_keeper.specs.Books.{Sealed}
use Rattle.mps_keeper.specs.declared.book.Book.{Book}

-- the sink that it writes to
abbrev pub sink_of : {W : Type 0} {sink : Ghosts W} → Book W sink → W
sink_of b = b.sink

-- how many lines it has
abbrev pub lines_of : {W : Type 0} {sink : Ghosts W} → Book W sink → ℕ
lines_of b = b.lines

-- the seal of the newest
abbrev pub seal_of : {W : Type 0} {sink : Ghosts W} → Book W sink → List ℕ
seal_of b = b.seal

-- what its sink took, where that is known, and the seal of the newest
abbrev pub taken_of : {W : Type 0} {sink : Ghosts W} → Book W sink → Option Sealed
taken_of {W} {sink} b = option_map (λ bytes. record { bytes = bytes; seal = b.seal }) (sink.taken b.sink)

-- whether each line that came is there
abbrev pub whole_of : {W : Type 0} {sink : Ghosts W} → Book W sink → Bool
whole_of b = b.whole
