use Rattle.std.proofs.Common.{subst}
use Rattle.std.specs.Prelude.{IfErr}
use Rattle.std.proofs.lemmas.Result.{IfErr-weaker}
use Rattle.dw_leb.specs.Watch.{inner_of}
use Rattle.dw_feed.specs.Feed.{TakesNoUnitBehind}
use Rattle.dw_feed.specs.HeadFeed.{HeadFeed, taken_of}
use Rattle.dw_feed.proofs.UnitReads.{from_start}
use Rattle.dw_feed.proofs.reader.read_unit_from_as.Goals as goal

pub returns-clause-broken : goal.returns-clause-broken
returns-clause-broken g c =
    let old = g.R.Read.remaining (inner_of c.args.reader.now) in
    let new = g.R.Read.remaining (inner_of c.read_unit_behind.new.reader) in
    let e = subst (λ (f : HeadFeed). IfErr c.read_unit_behind.result (TakesNoUnitBehind f.versions c.args.tables.now f.order (taken_of f.state) old new)) c.new_as.ensures c.read_unit_behind.ensures.broken in
    IfErr-weaker c.read_unit_behind.result _ _ (from_start c.args.versions c.args.tables.now c.args.order old new) e
