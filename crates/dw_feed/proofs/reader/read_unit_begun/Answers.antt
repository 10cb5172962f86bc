use Rattle.std.proofs.Common.{◌≡◌, ℕ, List, length, drop, sym, subst}
use Rattle.std.proofs.lemmas.Result.{err_from_is_err_and, IfOk-weaker, IfErr-weaker}
use Rattle.dw_leb.specs.Watch.{inner_of}
use Rattle.dw_abbrev.specs.Table.{Table, TableAt}
use Rattle.dw_abbrev.specs.TableErrors.{IsTableError}
use Rattle.dw_header.specs.Header.{Header}
use Rattle.dw_unit.specs.Unit.{bytes_of}
use Rattle.dw_feed.specs.Feed.{InUnit, StartsWith}
use Rattle.dw_feed.specs.HeadFeed.{HeadFeed, taken_of}
use Rattle.dw_feed.specs.FeedReads.{TakesHeaderWith}
use Rattle.dw_feed.proofs.UnitReads.{table_error, body_found, body_error, body_memory, unit_near, unit_starts, first_inside}
use Rattle.dw_feed.proofs.BegunReads.{begun_inside, begun_more, begun_near, begun_fault, begun_done}
use Rattle.dw_feed.proofs.reader.read_unit_begun.Goals as goal

pub read_unit_behind-requires-clause-inside : goal.read_unit_behind-requires-clause-inside
read_unit_behind-requires-clause-inside g c =
    let e = begun_more c.args.versions c.args.order c.args.taken.now c.requires.begun c.new_as-feed.result c.feed-count.new.self c.feed-count.result.0 c.feed-count.result.1 c.new_as-feed.ensures c.in-More.is c.feed-count.ensures.feeds in
    subst (λ (f : HeadFeed). InUnit f.order (taken_of f.state) (length (taken_of f.state))) (sym e) (begun_inside c.args.versions c.args.order c.args.taken.now c.requires.begun)

pub returns-in-More-clause-front : goal.returns-in-More-clause-front
returns-in-More-clause-front g c =
    let e = begun_more c.args.versions c.args.order c.args.taken.now c.requires.begun c.new_as-feed.result c.feed-count.new.self c.feed-count.result.0 c.feed-count.result.1 c.new_as-feed.ensures c.in-More.is c.feed-count.ensures.feeds in
    IfOk-weaker c.read_unit_behind.result _ _ (λ u. subst (λ (f : HeadFeed). StartsWith (taken_of f.state) (bytes_of u)) e) c.read_unit_behind.ensures.front

pub body_from-requires-clause-inside : goal.body_from-requires-clause-inside
body_from-requires-clause-inside g c =
    let k : ℕ = c.feed-count.result.0 in
    let h : Header = c.in-Done.head.0 in
    let is : c.rest_of.result.now ≡ drop k c.args.taken.now = c.rest_of.ensures in
    let head0 = begun_done c.args.versions c.args.order c.args.taken.now c.requires.begun c.new_as-feed.result c.feed-count.new.self k c.feed-count.result.1 c.in-Done.head c.new_as-feed.ensures c.in-Done.is c.feed-count.ensures.feeds (g.R.Read.remaining (inner_of c.args.reader.now)) in
    let head = subst (λ (b : List ℕ). TakesHeaderWith c.args.versions c.args.order c.args.taken.now b (g.R.Read.remaining (inner_of c.args.reader.now)) (g.R.Read.remaining (inner_of c.args.reader.now)) c.in-Done.head) (sym is) head0 in
    first_inside c.args.versions c.args.tables.now c.args.order c.args.taken.now (g.R.Read.remaining (inner_of c.args.reader.now)) (g.R.Read.remaining (inner_of c.args.reader.now)) c.rest_of.result.now h c.in-Done.head.1 head

pub returns-in_err-declared-in-Done-clause-broken : goal.returns-in_err-declared-in-Done-clause-broken
returns-in_err-declared-in-Done-clause-broken g c =
    let p = err_from_is_err_and c.from_residual.result c.from_residual.ensures.1 in
    let k : ℕ = c.feed-count.result.0 in
    let h : Header = c.in-Done.head.0 in
    let head = begun_done c.args.versions c.args.order c.args.taken.now c.requires.begun c.new_as-feed.result c.feed-count.new.self k c.feed-count.result.1 c.in-Done.head c.new_as-feed.ensures c.in-Done.is c.feed-count.ensures.feeds (g.R.Read.remaining (inner_of c.args.reader.now)) in
    let e = subst (λ (offset : ℕ). IsTableError c.args.tables.now offset c.in_err-declared-in-Done.field-0.0) c.abbrev_offset.ensures c.in_err-declared-in-Done.ensures.broken in
    rw (p.1, p.2) (table_error c.args.versions c.args.tables.now c.args.order c.args.taken.now _ _ (drop k c.args.taken.now) h c.in-Done.head.1 head c.in_err-declared-in-Done.field-0.0 e)

pub returns-in_ok-declared-in-Done-clause-found : goal.returns-in_ok-declared-in-Done-clause-found
returns-in_ok-declared-in-Done-clause-found g c =
    let k : ℕ = c.feed-count.result.0 in
    let h : Header = c.in-Done.head.0 in
    let is : c.rest_of.result.now ≡ drop k c.args.taken.now = c.rest_of.ensures in
    let head0 = begun_done c.args.versions c.args.order c.args.taken.now c.requires.begun c.new_as-feed.result c.feed-count.new.self k c.feed-count.result.1 c.in-Done.head c.new_as-feed.ensures c.in-Done.is c.feed-count.ensures.feeds (g.R.Read.remaining (inner_of c.args.reader.now)) in
    let head = subst (λ (b : List ℕ). TakesHeaderWith c.args.versions c.args.order c.args.taken.now b (g.R.Read.remaining (inner_of c.args.reader.now)) (g.R.Read.remaining (inner_of c.args.reader.now)) c.in-Done.head) (sym is) head0 in
    let t : Table = c.in_ok-declared-in-Done.declared.value in
    let place : TableAt c.args.tables.now h.abbrev_offset t = subst (λ (offset : ℕ). TableAt c.args.tables.now offset t) c.abbrev_offset.ensures c.in_ok-declared-in-Done.ensures.found in
    IfOk-weaker c.body_from.result _ _ (body_found c.args.versions c.args.tables.now c.args.order c.args.taken.now _ _ c.rest_of.result.now h c.in-Done.head.1 head t place _) c.body_from.ensures.found

pub returns-in_ok-declared-in-Done-clause-front : goal.returns-in_ok-declared-in-Done-clause-front
returns-in_ok-declared-in-Done-clause-front g c =
    let k : ℕ = c.feed-count.result.0 in
    let h : Header = c.in-Done.head.0 in
    let is : c.rest_of.result.now ≡ drop k c.args.taken.now = c.rest_of.ensures in
    let head0 = begun_done c.args.versions c.args.order c.args.taken.now c.requires.begun c.new_as-feed.result c.feed-count.new.self k c.feed-count.result.1 c.in-Done.head c.new_as-feed.ensures c.in-Done.is c.feed-count.ensures.feeds (g.R.Read.remaining (inner_of c.args.reader.now)) in
    let head = subst (λ (b : List ℕ). TakesHeaderWith c.args.versions c.args.order c.args.taken.now b (g.R.Read.remaining (inner_of c.args.reader.now)) (g.R.Read.remaining (inner_of c.args.reader.now)) c.in-Done.head) (sym is) head0 in
    let t : Table = c.in_ok-declared-in-Done.declared.value in
    let place : TableAt c.args.tables.now h.abbrev_offset t = subst (λ (offset : ℕ). TableAt c.args.tables.now offset t) c.abbrev_offset.ensures c.in_ok-declared-in-Done.ensures.found in
    IfOk-weaker c.body_from.result _ _ (unit_starts c.args.versions c.args.tables.now c.args.order c.args.taken.now _ _ c.rest_of.result.now h c.in-Done.head.1 head t place _) c.body_from.ensures.found

pub returns-in_ok-declared-in-Done-clause-broken : goal.returns-in_ok-declared-in-Done-clause-broken
returns-in_ok-declared-in-Done-clause-broken g c =
    let k : ℕ = c.feed-count.result.0 in
    let h : Header = c.in-Done.head.0 in
    let is : c.rest_of.result.now ≡ drop k c.args.taken.now = c.rest_of.ensures in
    let head0 = begun_done c.args.versions c.args.order c.args.taken.now c.requires.begun c.new_as-feed.result c.feed-count.new.self k c.feed-count.result.1 c.in-Done.head c.new_as-feed.ensures c.in-Done.is c.feed-count.ensures.feeds (g.R.Read.remaining (inner_of c.args.reader.now)) in
    let head = subst (λ (b : List ℕ). TakesHeaderWith c.args.versions c.args.order c.args.taken.now b (g.R.Read.remaining (inner_of c.args.reader.now)) (g.R.Read.remaining (inner_of c.args.reader.now)) c.in-Done.head) (sym is) head0 in
    let t : Table = c.in_ok-declared-in-Done.declared.value in
    let place : TableAt c.args.tables.now h.abbrev_offset t = subst (λ (offset : ℕ). TableAt c.args.tables.now offset t) c.abbrev_offset.ensures c.in_ok-declared-in-Done.ensures.found in
    IfErr-weaker c.body_from.result _ _ (body_error c.args.versions c.args.tables.now c.args.order c.args.taken.now _ _ c.rest_of.result.now h c.in-Done.head.1 head t place _) c.body_from.ensures.broken

pub returns-in_ok-declared-in-Done-clause-memory : goal.returns-in_ok-declared-in-Done-clause-memory
returns-in_ok-declared-in-Done-clause-memory g c =
    let k : ℕ = c.feed-count.result.0 in
    let h : Header = c.in-Done.head.0 in
    let is : c.rest_of.result.now ≡ drop k c.args.taken.now = c.rest_of.ensures in
    let head0 = begun_done c.args.versions c.args.order c.args.taken.now c.requires.begun c.new_as-feed.result c.feed-count.new.self k c.feed-count.result.1 c.in-Done.head c.new_as-feed.ensures c.in-Done.is c.feed-count.ensures.feeds (g.R.Read.remaining (inner_of c.args.reader.now)) in
    let head = subst (λ (b : List ℕ). TakesHeaderWith c.args.versions c.args.order c.args.taken.now b (g.R.Read.remaining (inner_of c.args.reader.now)) (g.R.Read.remaining (inner_of c.args.reader.now)) c.in-Done.head) (sym is) head0 in
    let t : Table = c.in_ok-declared-in-Done.declared.value in
    let place : TableAt c.args.tables.now h.abbrev_offset t = subst (λ (offset : ℕ). TableAt c.args.tables.now offset t) c.abbrev_offset.ensures c.in_ok-declared-in-Done.ensures.found in
    body_memory c.args.versions c.args.tables.now c.args.order c.args.taken.now _ _ c.rest_of.result.now h c.in-Done.head.1 head t place _ c.body_from.result c.body_from.ensures.broken

pub returns-in_ok-declared-in-Done-clause-near : goal.returns-in_ok-declared-in-Done-clause-near
returns-in_ok-declared-in-Done-clause-near g c =
    let k : ℕ = c.feed-count.result.0 in
    let h : Header = c.in-Done.head.0 in
    let is : c.rest_of.result.now ≡ drop k c.args.taken.now = c.rest_of.ensures in
    let head0 = begun_done c.args.versions c.args.order c.args.taken.now c.requires.begun c.new_as-feed.result c.feed-count.new.self k c.feed-count.result.1 c.in-Done.head c.new_as-feed.ensures c.in-Done.is c.feed-count.ensures.feeds (g.R.Read.remaining (inner_of c.args.reader.now)) in
    let head = subst (λ (b : List ℕ). TakesHeaderWith c.args.versions c.args.order c.args.taken.now b (g.R.Read.remaining (inner_of c.args.reader.now)) (g.R.Read.remaining (inner_of c.args.reader.now)) c.in-Done.head) (sym is) head0 in
    let t : Table = c.in_ok-declared-in-Done.declared.value in
    let place : TableAt c.args.tables.now h.abbrev_offset t = subst (λ (offset : ℕ). TableAt c.args.tables.now offset t) c.abbrev_offset.ensures c.in_ok-declared-in-Done.ensures.found in
    unit_near c.args.versions c.args.tables.now c.args.order c.args.taken.now _ _ c.rest_of.result.now h c.in-Done.head.1 head t place _ c.body_from.result c.body_from.ensures.broken

pub returns-in-Fault-clause-broken : goal.returns-in-Fault-clause-broken
returns-in-Fault-clause-broken g c =
    begun_fault c.args.versions c.args.order c.args.taken.now c.requires.begun c.new_as-feed.result c.feed-count.new.self c.feed-count.result.0 c.feed-count.result.1 c.in-Fault.fault c.new_as-feed.ensures c.in-Fault.is c.feed-count.ensures.feeds c.args.tables.now _

pub returns-in-Fault-clause-near : goal.returns-in-Fault-clause-near
returns-in-Fault-clause-near g c =
    begun_near c.args.versions c.args.order c.args.taken.now c.requires.begun c.new_as-feed.result c.feed-count.new.self c.feed-count.result.0 c.feed-count.result.1 c.in-Fault.fault c.new_as-feed.ensures c.in-Fault.is c.feed-count.ensures.feeds
