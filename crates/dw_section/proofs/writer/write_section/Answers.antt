use Rattle.std.proofs.Common.{subst}
use Rattle.dw_section.specs.Section.{SectionFits}
use Rattle.dw_section.specs.SectionLaws.{written_is_read}
use Rattle.dw_section.proofs.writer.write_section.Goals as goal

pub returns-clause-read_back : goal.returns-clause-read_back
returns-clause-read_back g c abbreviations tables = written_is_read abbreviations c.args.section.now (subst SectionFits c.section.view_is c.section.invariant.fits) tables
