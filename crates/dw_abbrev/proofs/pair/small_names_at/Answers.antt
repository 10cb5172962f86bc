use Rattle.std.proofs.Common.{◌≡◌, None, sym, ◌∙◌, rules}
use Rattle.dw_leb.specs.View.{uleb_of}
use Rattle.dw_abbrev.specs.Table.{refused_pair}
use Rattle.dw_abbrev.proofs.PairLemmas.{names_pass}
use Rattle.dw_abbrev.proofs.pair.small_names_at.Goals as goal

pub returns-in-None-clause-there : goal.returns-in-None-clause-there
returns-in-None-clause-there c =
    names_pass c.args.abbreviations.now c.args.at c.args.before (uleb_of c.in_ok-name.name) (uleb_of c.in_ok-form.form) c.in_ok-name.form_at c.in_ok-form.next c.in_ok-name.ensures.there c.in_ok-form.ensures.there (sym c.refusal.ensures ∙ c.in-None.is)

pub returns-then-before-lt-MOST_PAIRS-clause-there : goal.returns-then-before-lt-MOST_PAIRS-clause-there
returns-then-before-lt-MOST_PAIRS-clause-there c =
    let passes : refused_pair c.args.before (uleb_of c.in_ok-name.name, uleb_of c.in_ok-form.form) ≡ None = search rules in
    names_pass c.args.abbreviations.now c.args.at c.args.before (uleb_of c.in_ok-name.name) (uleb_of c.in_ok-form.form) c.in_ok-name.form_at c.in_ok-form.next c.in_ok-name.ensures.there c.in_ok-form.ensures.there passes
