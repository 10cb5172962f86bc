use Rattle.std.proofs.Common.{◌∙◌, is_some, sym, ap, true≢false}
use Rattle.clap.specs.Words.{found_of}
use Rattle.clap.proofs.WalkLemmas.{first_value-rows}
use Rattle.dw_cli.proofs.line.word_told.Goals as goal

pub returns : goal.returns
returns c = sym (c.in-Some.ensures ∙ first_value-rows (found_of c.args.options.now) c.args.name.now)

pub unreachable-requires : goal.unreachable-requires
unreachable-requires c =
    let none = c.in-None.ensures ∙ first_value-rows (found_of c.args.options.now) c.args.name.now in
    true≢false (sym c.requires ∙ sym (ap is_some none))
