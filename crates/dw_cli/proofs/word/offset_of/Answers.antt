use Rattle.std.proofs.Common.{◌∙◌, ◌^◌}
use Rattle.dw_cli.specs.Words.{number_of}
use Rattle.dw_cli.proofs.Numbers.{narrowed}
use Rattle.dw_cli.proofs.word.offset_of.Goals as goal

pub returns : goal.returns
returns c =
    let n = c.in_ok-number.field-0 in
    record {
      exact = c.ok.ensures.value ∙ narrowed (2 ^ 64) (2 ^ 128) n (number_of c.args.word.now) c.try_from.result c.in_ok-number.ensures c.try_from.ensures;
    }
