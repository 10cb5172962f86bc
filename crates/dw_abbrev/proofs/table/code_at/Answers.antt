use Rattle.dw_leb.specs.View.{uleb_of}
use Rattle.std.proofs.Common.{◌∙◌, sym}
use Rattle.dw_abbrev.proofs.TableLemmas.{code_repeats, code_passes, no_value}
use Rattle.dw_abbrev.proofs.table.code_at.Goals as goal

pub returns-then-has-clause-err : goal.returns-then-has-clause-err
returns-then-has-clause-err c =
    rw c.fault.ensures (code_repeats c.args.abbreviations.now c.args.at c.args.decls.now (uleb_of c.in_ok-code.code) c.in_ok-code.next c.in_ok-code.ensures.ok (sym c.if-has.true ∙ c.has.ensures))

pub returns-clause-ok : goal.returns-clause-ok
returns-clause-ok c =
    code_passes c.args.abbreviations.now c.args.at c.args.decls.now (uleb_of c.in_ok-code.code) c.in_ok-code.next c.in_ok-code.ensures.ok (sym c.if-has.false ∙ c.has.ensures)

pub returns-clause-fresh : goal.returns-clause-fresh
returns-clause-fresh c = no_value _ (sym c.if-has.false ∙ c.has.ensures)
