-- What the table of a cell is told when it is made.
use Rattle.mps_cell.specs.Openings.{Opening, opening_of}
use Rattle.mps_cell.specs.declared.origin.Origin.{Origin}

-- the opening of the cell
abbrev pub opening_in : Origin → Opening
opening_in origin = opening_of origin.room.value origin.numbers.value.items origin.session
