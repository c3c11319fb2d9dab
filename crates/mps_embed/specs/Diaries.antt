-- What a clause reads of a diary.
use Rattle.std.specs.Prelude.{Bool, true, ◌&&◌, Option, None, Some}
use Rattle.std.specs.Option.{is_some}
use Rattle.mps_dev.specs.declared.traits.Sink.{Ghosts}
use Rattle.mps_keeper.specs.BookParts as book
use Rattle.mps_keeper.specs.Books.{Sealed}
use Rattle.mps_keeper.specs.declared.book.Book.{Book}
use Rattle.mps_embed.specs.declared.diary.Diary.{Diary}

-- its book, if there is one
abbrev pub book_of : {W : Type 0} {sink : Ghosts W} → Diary W sink → Option (Book W sink)
book_of d = d.book

-- whether no line was given up
abbrev pub intact_of : {W : Type 0} {sink : Ghosts W} → Diary W sink → Bool
intact_of d = d.whole

-- whether it has a book
abbrev pub records_of : {W : Type 0} {sink : Ghosts W} → Diary W sink → Bool
records_of d = is_some d.book

-- what its book took, where that is known
abbrev pub taken_in : {W : Type 0} {sink : Ghosts W} → Option (Book W sink) → Option Sealed
taken_in None = None
taken_in (Some b) = book.taken_of b

abbrev pub taken_of : {W : Type 0} {sink : Ghosts W} → Diary W sink → Option Sealed
taken_of d = taken_in d.book

-- whether each line that came is there
abbrev pub whole_in : {W : Type 0} {sink : Ghosts W} → Option (Book W sink) → Bool
whole_in None = true
whole_in (Some b) = book.whole_of b

abbrev pub whole_of : {W : Type 0} {sink : Ghosts W} → Diary W sink → Bool
whole_of d = d.whole && whole_in d.book
