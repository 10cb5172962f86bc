use Rattle.std.proofs.Common.{sym}
use Rattle.dw_strings.specs.TextView.{sections_of}
use Rattle.dw_ctype.proofs.Appending.{puts_text}
use Rattle.dw_ctype.proofs.SameNames.{said_same}
use Rattle.dw_ctype.proofs.text.append.Goals as goal

pub returns : goal.returns
returns c = puts_text (sym (said_same c.args.section.now.items (sections_of c.args.strings.now) (sections_of c.trimmed-texts.result) c.trimmed-texts.ensures 64 c.args.typed c.args.name.now)) c.say.ensures
