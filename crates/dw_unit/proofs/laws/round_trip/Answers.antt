use Rattle.dw_header.specs.declared.versions.Versions.TheVariants.{Five}
use Rattle.dw_unit.specs.UnitLaws.{written_is_read, written_is_read_under, read_is_written}
use Rattle.dw_unit.proofs.laws.round_trip.Goals as goal

pub returns-clause-written_is_read : goal.returns-clause-written_is_read
returns-clause-written_is_read c = written_is_read

pub returns-clause-read_is_written : goal.returns-clause-read_is_written
returns-clause-read_is_written c = read_is_written Five

pub returns-clause-written_is_read_under : goal.returns-clause-written_is_read_under
returns-clause-written_is_read_under c = written_is_read_under

pub returns-clause-read_is_written_under : goal.returns-clause-read_is_written_under
returns-clause-read_is_written_under c = read_is_written
