use Rattle.std.proofs.Common.{◌≡◌, ◌-◌, ℕ, List, length, take, drop, sym, subst, arith, inl, length-drop}
use Rattle.std.proofs.lemmas.List.{take_all}
use Rattle.std.proofs.lemmas.Result.{err_from_is_err_and}
use Rattle.dw_leb.specs.declared.errors.Fault.{Fault}
use Rattle.dw_leb.specs.declared.errors.SectionId.{SectionId}
use Rattle.dw_abbrev.specs.Table.{Table, TableAt}
use Rattle.dw_abbrev.specs.TableErrors.{IsTableError}
use Rattle.dw_header.specs.Header.{Header}
use Rattle.dw_unit.specs.Unit.{FailsUnder}
use Rattle.dw_unit.specs.UnitLaws.{one_unit}
use Rattle.dw_feed.specs.BodyFeed.{started, SaysDone}
use Rattle.dw_feed.specs.FedUnit.{IsFedError, fed_found, fed_broken, fault_within, only_memory, table_broken}
use Rattle.dw_feed.proofs.unit.read_unit_as.Goals as goal

-- all of the bytes behind a place
rest_of : (b : List ℕ) (at : ℕ) → take (length b - at) (drop at b) ≡ drop at b
rest_of b at = take_all (length b - at) (drop at b) (omega (arith, length-drop at b))

pub returns-in_err-header-clause-broken : goal.returns-in_err-header-clause-broken
returns-in_err-header-clause-broken c =
    let e = c.in_err-header.ensures.broken in
    let fault : Fault = c.in_err-header.field-0.0 in
    let p = err_from_is_err_and c.from_residual.result c.from_residual.ensures.1 in
    rw (p.1, p.2) (subst (λ (s : SectionId). FailsUnder c.args.versions c.args.order c.args.tables.now c.args.b.now s fault.offset fault.reason) (sym e.0) (inl e.1))

pub returns-in_err-header-clause-only : goal.returns-in_err-header-clause-only
returns-in_err-header-clause-only c u size stands =
    let p = err_from_is_err_and c.from_residual.result c.from_residual.ensures.1 in
    let e = rw (p.1, p.2) at (returns-in_err-header-clause-broken c) in
    rw (p.1, p.2) (tt, only_memory c.args.versions c.args.tables.now c.args.order c.args.b.now u size stands _ e)

pub returns-in_err-table-clause-broken : goal.returns-in_err-table-clause-broken
returns-in_err-table-clause-broken c =
    let p = err_from_is_err_and c.from_residual-in_err-table.result c.from_residual-in_err-table.ensures.1 in
    let e = subst (λ (offset : ℕ). IsTableError c.args.tables.now offset c.in_err-table.field-0.0) c.abbrev_offset.ensures c.in_err-table.ensures.broken in
    rw (p.1, p.2) (table_broken c.args.versions c.args.tables.now c.args.order c.args.b.now c.in_ok-header.header c.in_ok-header.unit_length c.in_ok-header.ensures.found c.in_err-table.field-0.0 e)

pub returns-in_err-table-clause-near : goal.returns-in_err-table-clause-near
returns-in_err-table-clause-near c =
    let p = err_from_is_err_and c.from_residual-in_err-table.result c.from_residual-in_err-table.ensures.1 in
    let e = rw (p.1, p.2) at (returns-in_err-table-clause-broken c) in
    rw (p.1, p.2) (fault_within c.args.versions c.args.tables.now c.args.order c.args.b.now _ e)

pub returns-in_err-table-clause-only : goal.returns-in_err-table-clause-only
returns-in_err-table-clause-only c u size stands =
    let p = err_from_is_err_and c.from_residual-in_err-table.result c.from_residual-in_err-table.ensures.1 in
    let e = rw (p.1, p.2) at (returns-in_err-table-clause-broken c) in
    rw (p.1, p.2) (tt, only_memory c.args.versions c.args.tables.now c.args.order c.args.b.now u size stands _ e)

pub returns-in-Ok-clause-found : goal.returns-in-Ok-clause-found
returns-in-Ok-clause-found c =
    let h : Header = c.in_ok-header.header in
    let n = c.in_ok-header.unit_length in
    let t : Table = c.in_ok-table.table.value in
    let at = c.size-at.result in
    let stands : TableAt c.args.tables.now h.abbrev_offset t = subst (λ (offset : ℕ). TableAt c.args.tables.now offset t) c.abbrev_offset.ensures c.in_ok-table.ensures.found in
    let says : SaysDone (started h n t) (drop at c.args.b.now) c.in-Ok.more c.in-Ok.unit = subst (λ (b : List ℕ). SaysDone (started h n t) b c.in-Ok.more c.in-Ok.unit) (rest_of c.args.b.now at) c.in-Ok.ensures.found in
    fed_found c.args.versions c.args.tables.now c.args.order c.args.b.now h n c.in_ok-header.ensures.found t at c.size-at.ensures.size stands c.in-Ok.unit c.in-Ok.more says

pub returns-in-Ok-clause-only : goal.returns-in-Ok-clause-only
returns-in-Ok-clause-only c u size stands = (one_unit c.args.versions c.args.tables.now c.args.order c.args.b.now _ u _ size (returns-in-Ok-clause-found c) stands, tt)

pub returns-in-Err-clause-broken : goal.returns-in-Err-clause-broken
returns-in-Err-clause-broken c =
    let h : Header = c.in_ok-header.header in
    let n = c.in_ok-header.unit_length in
    let t : Table = c.in_ok-table.table.value in
    let at = c.size-at.result in
    let stands : TableAt c.args.tables.now h.abbrev_offset t = subst (λ (offset : ℕ). TableAt c.args.tables.now offset t) c.abbrev_offset.ensures c.in_ok-table.ensures.found in
    let e : IsFedError (started h n t) (drop at c.args.b.now) c.in-Err.e = subst (λ (b : List ℕ). IsFedError (started h n t) b c.in-Err.e) (rest_of c.args.b.now at) c.in-Err.ensures.broken in
    fed_broken c.args.versions c.args.tables.now c.args.order c.args.b.now h n c.in_ok-header.ensures.found t at c.size-at.ensures.size stands c.in-Err.e e

pub returns-in-Err-clause-near : goal.returns-in-Err-clause-near
returns-in-Err-clause-near c = fault_within c.args.versions c.args.tables.now c.args.order c.args.b.now c.in-Err.e (returns-in-Err-clause-broken c)

pub returns-in-Err-clause-only : goal.returns-in-Err-clause-only
returns-in-Err-clause-only c u size stands = (tt, only_memory c.args.versions c.args.tables.now c.args.order c.args.b.now u size stands _ (returns-in-Err-clause-broken c))
