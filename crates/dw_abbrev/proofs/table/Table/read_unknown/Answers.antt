use Rattle.std.proofs.Common.{arith}
use Rattle.std.specs.Prelude.{IfSome}
use Rattle.std.proofs.lemmas.Result.{IfOk-weaker, IfErr-weaker}
use Rattle.dw_leb.specs.Field.{are_bytes}
use Rattle.dw_abbrev.specs.Table.{TableAt}
use Rattle.dw_abbrev.specs.TableErrors.{IsScan, IsTableError}
use Rattle.dw_abbrev.specs.Place.{IsErrorAt}
use Rattle.dw_abbrev.specs.ReadTable.{read_table}
use Rattle.dw_abbrev.proofs.TableLemmas.{some_there, table_tells, only_that_one}
use Rattle.dw_abbrev.proofs.table.Table.read_unknown.Goals as goal

pub returns-clause-found : goal.returns-clause-found
returns-clause-found c =
    IfOk-weaker c.scan.result (λ o. IfSome o (λ t. IsScan c.args.abbreviations.now c.args.offset t)) (λ o. IfSome o (λ t. TableAt c.args.abbreviations.now c.args.offset t))
    (λ o h. some_there c.args.abbreviations.now c.args.offset (are_bytes c.args.abbreviations.now (λ k. omega (arith, c.type_inv.abbreviations k))) c.if-offset-abbreviations.false o h) c.scan.ensures.ok

pub returns-clause-broken : goal.returns-clause-broken
returns-clause-broken c =
    IfErr-weaker c.scan.result (λ e. IsErrorAt read_table c.args.abbreviations.now c.args.offset e) (λ e. IsTableError c.args.abbreviations.now c.args.offset e)
    (λ e h. table_tells c.args.abbreviations.now c.args.offset (are_bytes c.args.abbreviations.now (λ k. omega (arith, c.type_inv.abbreviations k))) c.if-offset-abbreviations.false e h) c.scan.ensures.err

pub returns-clause-only : goal.returns-clause-only
returns-clause-only c =
    let fit = are_bytes c.args.abbreviations.now (λ k. omega (arith, c.type_inv.abbreviations k)) in
    only_that_one c.args.abbreviations.now c.args.offset c.scan.result
    (IfOk-weaker c.scan.result (λ o. IfSome o (λ t. IsScan c.args.abbreviations.now c.args.offset t)) (λ o. IfSome o (λ t. TableAt c.args.abbreviations.now c.args.offset t))
    (λ o h. some_there c.args.abbreviations.now c.args.offset fit c.if-offset-abbreviations.false o h) c.scan.ensures.ok)
    (IfErr-weaker c.scan.result (λ e. IsErrorAt read_table c.args.abbreviations.now c.args.offset e) (λ e. IsTableError c.args.abbreviations.now c.args.offset e)
    (λ e h. table_tells c.args.abbreviations.now c.args.offset fit c.if-offset-abbreviations.false e h) c.scan.ensures.err)
