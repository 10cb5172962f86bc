use Rattle.std.proofs.Common.{◌∙◌, ℕ, ◌<◌, ◌^◌, List, sym, subst, true≢false, arith}
use Rattle.std.specs.Str.Parse.{IsNumeral, digits_value}
use Rattle.std.specs.Result.{OkIff}
use Rattle.std.proofs.lemmas.Str.Pattern.{starts_char}
use Rattle.dw_cli.proofs.Numbers.{kept, parsed}
use Rattle.dw_cli.proofs.word.number_by.Goals as goal

pub returns : goal.returns
returns c =
    let starts = starts_char 43 c.args.digits.now c.starts_with.result c.starts_with.ensures.cases (omega arith) (omega arith) in
    let same = kept c.args.digits.now (λ plus. true≢false (sym (starts.1 plus) ∙ c.if-starts_with.false)) in
    let parses : (ds : List ℕ) → Type 0 =
    λ ds. OkIff c.from_str_radix.result (IsNumeral c.args.base ds × (digits_value c.args.base ds < 2 ^ 128)) (digits_value c.args.base ds) in
    c.ok.ensures.value ∙ parsed c.args.base (2 ^ 128) c.args.digits.now c.from_str_radix.result (subst parses same c.from_str_radix.ensures.value)
