use Rattle.std.proofs.Common.{ℕ, ◌^◌, [], subst}
use Rattle.std.proofs.lemmas.Result.{err_from_is_err_and, IfOk-weaker, IfErr-weaker}
use Rattle.dw_abbrev.specs.Table.{Table, TableAt}
use Rattle.dw_abbrev.specs.TableErrors.{IsTableError}
use Rattle.dw_header.specs.Header.{Header}
use Rattle.dw_unit.specs.Unit.{WholeUnit}
use Rattle.dw_feed.proofs.UnitReads.{with_none, header_error, table_error, table_memory, table_near, body_found, body_error, body_memory, unit_near, unit_starts}
use Rattle.dw_feed.specs.HeadFeed.{taken_of}
use Rattle.dw_feed.proofs.reader.read_unit_behind.Goals as goal

pub returns-in_err-header-clause-broken : goal.returns-in_err-header-clause-broken
returns-in_err-header-clause-broken g c =
    let p = err_from_is_err_and c.from_residual.result c.from_residual.ensures.1 in
    rw (p.1, p.2) (header_error c.args.feed.versions c.args.tables.now c.args.feed.order (taken_of c.args.feed.state) _ _ c.in_err-header.field-0.0 c.in_err-header.ensures.broken)

pub returns-in_err-table-clause-broken : goal.returns-in_err-table-clause-broken
returns-in_err-table-clause-broken g c =
    let p = err_from_is_err_and c.from_residual-in_err-table.result c.from_residual-in_err-table.ensures.1 in
    let e = subst (λ (offset : ℕ). IsTableError c.args.tables.now offset c.in_err-table.field-0.0) c.abbrev_offset.ensures c.in_err-table.ensures.broken in
    rw (p.1, p.2) (table_error c.args.feed.versions c.args.tables.now c.args.feed.order (taken_of c.args.feed.state) _ _ [] c.in_ok-header.header c.in_ok-header.unit_length (with_none c.args.feed.versions c.args.feed.order (taken_of c.args.feed.state) _ _ (c.in_ok-header.header, c.in_ok-header.unit_length) c.in_ok-header.ensures.found) c.in_err-table.field-0.0 e)

pub returns-clause-found : goal.returns-clause-found
returns-clause-found g c =
    let h : Header = c.in_ok-header.header in
    let t : Table = c.in_ok-table.table.value in
    let place : TableAt c.args.tables.now h.abbrev_offset t = subst (λ (offset : ℕ). TableAt c.args.tables.now offset t) c.abbrev_offset.ensures c.in_ok-table.ensures.found in
    IfOk-weaker c.body_from.result _ _ (body_found c.args.feed.versions c.args.tables.now c.args.feed.order (taken_of c.args.feed.state) _ _ [] h c.in_ok-header.unit_length (with_none c.args.feed.versions c.args.feed.order (taken_of c.args.feed.state) _ _ (h, c.in_ok-header.unit_length) c.in_ok-header.ensures.found) t place _) c.body_from.ensures.found

pub returns-clause-broken : goal.returns-clause-broken
returns-clause-broken g c =
    let h : Header = c.in_ok-header.header in
    let t : Table = c.in_ok-table.table.value in
    let place : TableAt c.args.tables.now h.abbrev_offset t = subst (λ (offset : ℕ). TableAt c.args.tables.now offset t) c.abbrev_offset.ensures c.in_ok-table.ensures.found in
    IfErr-weaker c.body_from.result _ _ (body_error c.args.feed.versions c.args.tables.now c.args.feed.order (taken_of c.args.feed.state) _ _ [] h c.in_ok-header.unit_length (with_none c.args.feed.versions c.args.feed.order (taken_of c.args.feed.state) _ _ (h, c.in_ok-header.unit_length) c.in_ok-header.ensures.found) t place _) c.body_from.ensures.broken

pub returns-clause-memory : goal.returns-clause-memory
returns-clause-memory g c =
    let h : Header = c.in_ok-header.header in
    let t : Table = c.in_ok-table.table.value in
    let place : TableAt c.args.tables.now h.abbrev_offset t = subst (λ (offset : ℕ). TableAt c.args.tables.now offset t) c.abbrev_offset.ensures c.in_ok-table.ensures.found in
    body_memory c.args.feed.versions c.args.tables.now c.args.feed.order (taken_of c.args.feed.state) _ _ [] h c.in_ok-header.unit_length (with_none c.args.feed.versions c.args.feed.order (taken_of c.args.feed.state) _ _ (h, c.in_ok-header.unit_length) c.in_ok-header.ensures.found) t place _ c.body_from.result c.body_from.ensures.broken

pub returns-in_err-header-clause-near : goal.returns-in_err-header-clause-near
returns-in_err-header-clause-near g c =
    let p = err_from_is_err_and c.from_residual.result c.from_residual.ensures.1 in
    rw (p.1, p.2) c.in_err-header.ensures.near

pub returns-in_err-table-clause-near : goal.returns-in_err-table-clause-near
returns-in_err-table-clause-near g c =
    let p = err_from_is_err_and c.from_residual-in_err-table.result c.from_residual-in_err-table.ensures.1 in
    rw (p.1, p.2) (table_near c.args.tables.now _ (2 ^ 63) c.in_err-table.field-0.0 c.in_err-table.ensures.broken)

pub returns-clause-near : goal.returns-clause-near
returns-clause-near g c =
    let h : Header = c.in_ok-header.header in
    let t : Table = c.in_ok-table.table.value in
    let place : TableAt c.args.tables.now h.abbrev_offset t = subst (λ (offset : ℕ). TableAt c.args.tables.now offset t) c.abbrev_offset.ensures c.in_ok-table.ensures.found in
    unit_near c.args.feed.versions c.args.tables.now c.args.feed.order (taken_of c.args.feed.state) _ _ [] h c.in_ok-header.unit_length (with_none c.args.feed.versions c.args.feed.order (taken_of c.args.feed.state) _ _ (h, c.in_ok-header.unit_length) c.in_ok-header.ensures.found) t place _ c.body_from.result c.body_from.ensures.broken

pub returns-in_err-table-clause-memory : goal.returns-in_err-table-clause-memory
returns-in_err-table-clause-memory g c =
    let p = err_from_is_err_and c.from_residual-in_err-table.result c.from_residual-in_err-table.ensures.1 in
    rw (p.1, p.2) (table_memory c.args.feed.versions c.args.tables.now c.args.feed.order (taken_of c.args.feed.state) _ _ [] c.in_ok-header.header c.in_ok-header.unit_length (with_none c.args.feed.versions c.args.feed.order (taken_of c.args.feed.state) _ _ (c.in_ok-header.header, c.in_ok-header.unit_length) c.in_ok-header.ensures.found) WholeUnit c.in_err-table.field-0.0)

pub returns-clause-front : goal.returns-clause-front
returns-clause-front g c =
    let h : Header = c.in_ok-header.header in
    let t : Table = c.in_ok-table.table.value in
    let place : TableAt c.args.tables.now h.abbrev_offset t = subst (λ (offset : ℕ). TableAt c.args.tables.now offset t) c.abbrev_offset.ensures c.in_ok-table.ensures.found in
    IfOk-weaker c.body_from.result _ _ (unit_starts c.args.feed.versions c.args.tables.now c.args.feed.order (taken_of c.args.feed.state) _ _ [] h c.in_ok-header.unit_length (with_none c.args.feed.versions c.args.feed.order (taken_of c.args.feed.state) _ _ (h, c.in_ok-header.unit_length) c.in_ok-header.ensures.found) t place _) c.body_from.ensures.found
