-- A room that may have a file, as a type.
use denote.RattleType.{RattleType}
use Rattle.mps_dev.specs.contracts.standard.OverWrite as over_write
use Rattle.mps_dev.specs.contracts.standard.OverWriteSink.TheImpl as sink
use Rattle.mps_embed.specs.contracts.embedded.Embedded as embedded
use Rattle.mps_file.specs.contracts.journal_file.JournalFile as journal_file
use Rattle.mps_file.specs.contracts.journal_file.JournalFileWrite.TheImpl as writes

-- what such a room writes to
abbrev pub file_sink : RattleType
file_sink = over_write.the_row journal_file.the_row

abbrev pub file_room : RattleType
file_room = embedded.the_row file_sink (sink.ghosts journal_file.the_row writes.ghosts writes.dict)
