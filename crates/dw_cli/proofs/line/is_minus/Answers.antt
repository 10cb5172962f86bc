use Rattle.std.proofs.Common.{◌∙◌, ap, codes}
use Rattle.clap.specs.Words.{found_of}
use Rattle.clap.proofs.WalkLemmas.{first_value-rows}
use Rattle.dw_cli.specs.Line.{is_set}
use Rattle.dw_cli.proofs.line.is_minus.Goals as goal

pub returns : goal.returns
returns c = c.is_given.ensures ∙ ap is_set (c.get_str.ensures ∙ first_value-rows (found_of c.args.options.now) (codes "minus"))
