use Rattle.dw_section.specs.SectionLaws.{written_is_read, read_is_written}
use Rattle.dw_section.proofs.laws.round_trip.Goals as goal

pub returns-clause-written_is_read : goal.returns-clause-written_is_read
returns-clause-written_is_read c = written_is_read

pub returns-clause-read_is_written : goal.returns-clause-read_is_written
returns-clause-read_is_written c = read_is_written
