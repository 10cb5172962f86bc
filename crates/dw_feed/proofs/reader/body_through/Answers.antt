use Rattle.std.proofs.Common.{◌≡◌, ◌++◌, ◌<◌, List, ℕ, [], take, drop, length, Some, refl, sym, ap, subst, ◌∙◌, arith, append_assoc, append-nil, length-append, length-take, length-drop, inl, inr}
use Rattle.std.proofs.lemmas.List.{take-append-le, take_all}
use Rattle.std.proofs.KnownBytes.{Consumes-kept}
use Rattle.dw_leb.specs.Transfers.{consumes_more}
use Rattle.dw_feed.specs.declared.progress.Progress.TheVariants as answers
use Rattle.dw_feed.specs.BodyFeed.{PartialUnit, BodyFeed, started, stream, EndsBody}
use Rattle.dw_feed.specs.FedUnit.{done_says}
use Rattle.dw_feed.proofs.BodyReads.{pushed, more_feeds, fault_feeds, done_all, fault_all, more_all, end_all}
use Rattle.dw_feed.specs.Taking.{behind_taken, starts_longer, consumes_nothing, got_within}
use Rattle.dw_feed.proofs.reader.body_through.Goals as goal

pub loop-unit-init : goal.loop-unit-init
loop-unit-init g c =
    let first : List ℕ = c.args.first.now in
    let start : List ℕ = stream (started c.args.header c.args.unit_length c.args.table.value) in
    let others : List ℕ = drop (length first) c.args.chunk.now in
    let own : List ℕ = c.copy_from_slice.new.self in
    let is : own ≡ first = c.copy_from_slice.ensures.after in
    record {
      at = (started c.args.header c.args.unit_length c.args.table.value, c.new-feed.ensures, (refl, refl, refl));
      taken = (
        first,
        behind_taken first _,
        ap (λ (bs : List ℕ). start ++ bs) (take-append-le (length first) own others (omega (arith, ap length is)) ∙ take_all (length first) own (omega (arith, ap length is)) ∙ is),
        omega (arith, c.behind_header.ensures, c.requires.inside),
        ([], sym (append-nil first)),
      );
      chunk = (omega (arith, ap length is, length-append own others, length-drop (length first) c.args.chunk.now, c.requires.fits), c.requires.fits, c.requires.room);
      clear = c.requires.clear;
    }

pub returns-in-Done-clause-found : goal.returns-in-Done-clause-found
returns-in-Done-clause-found g c =
    let i = c.loop-unit.invariant in
    let now : PartialUnit = i.at.0 in
    let piece : List ℕ = take c.loop-unit.got c.loop-unit.chunk in
    let says = done_says now piece c.feed-answer.result.0 c.in-Done.unit c.feed-answer.new.self (pushed c.loop-unit.feed c.feed-answer.new.self now piece c.feed-answer.result.0 c.feed-answer.result.1 (answers.Done c.in-Done.unit) i.at.1 c.in-Done.is c.feed-answer.ensures.feeds) in
    record {
      taken = i.taken.0;
      consumed = i.taken.1;
      front = i.taken.4;
      header_is = says.header_is ∙ i.at.2.0;
      table_is = says.table_is ∙ i.at.2.2;
      fits = says.fits;
      whole = done_all c.args.header c.args.unit_length c.args.table.value c.requires.spelled now i.at.2 piece i.taken.0 i.taken.2 c.feed-answer.result.0 c.in-Done.unit (omega (arith, i.taken.3)) says;
    }

pub returns-in-Fault-clause-broken : goal.returns-in-Fault-clause-broken
returns-in-Fault-clause-broken g c =
    let i = c.loop-unit.invariant in
    let now : PartialUnit = i.at.0 in
    let piece : List ℕ = take c.loop-unit.got c.loop-unit.chunk in
    let says = fault_feeds now piece c.feed-answer.result.0 c.in-Fault.fault c.feed-answer.new.self (pushed c.loop-unit.feed c.feed-answer.new.self now piece c.feed-answer.result.0 c.feed-answer.result.1 (answers.Fault c.in-Fault.fault) i.at.1 c.in-Fault.is c.feed-answer.ensures.feeds) in (
      i.taken.0,
      i.taken.1,
      omega (arith, i.taken.3),
      (fault_all c.args.header c.args.unit_length c.args.table.value c.requires.spelled now i.at.2 piece i.taken.0 i.taken.2 c.feed-answer.result.0 c.in-Fault.fault says, inl says.for_good),
      i.taken.4,
    )

pub returns-in-Err-clause-broken : goal.returns-in-Err-clause-broken
returns-in-Err-clause-broken g c =
    let i = c.loop-unit.invariant in
    (i.taken.0, Consumes-kept _ _ _ i.taken.0 i.taken.1 c.in-Err.ensures.bytes, omega (arith, i.taken.3), tt {0}, i.taken.4)

pub returns-then-got-eq0-clause-broken : goal.returns-then-got-eq0-clause-broken
returns-then-got-eq0-clause-broken g c =
    let i = c.loop-unit.invariant in
    let now : PartialUnit = i.at.0 in
    let piece : List ℕ = take c.loop-unit.got c.loop-unit.chunk in
    let next = more_feeds now piece c.feed-answer.result.0 c.feed-answer.new.self (pushed c.loop-unit.feed c.feed-answer.new.self now piece c.feed-answer.result.0 c.feed-answer.result.1 answers.More i.at.1 c.in-More.is c.feed-answer.ensures.feeds) in
    let more = more_all c.args.header c.args.unit_length c.args.table.value c.requires.spelled now i.at.2 piece i.taken.0 i.taken.2 next.0 c.feed-answer.result.0 next.2 in
    let some : 0 < length c.read_part.new.part = omega (arith, c.read_part.auto.part, length-take c.min-want.result c.loop-unit.chunk, i.chunk.0, i.chunk.2, c.min-want.ensures, more.2, i.taken.3) in
    let took = consumes_nothing _ _ _ i.taken.0 c.read_part.new.part c.in-Ok.got c.if-got-eq0.true i.taken.1 c.in-Ok.ensures.bytes.0 in
    let ends = subst (λ (x : BodyFeed). EndsBody x (Some c.in-Some.fault)) next.1 c.in-Some.ensures in (
      i.taken.0,
      took,
      omega (arith, i.taken.3),
      (end_all c.args.header c.args.unit_length c.args.table.value c.requires.spelled next.0 more.0 [] i.taken.0 (append-nil (stream next.0) ∙ more.1) c.in-Some.fault more.1 ends, inr (c.in-Ok.ensures.bytes.1 c.if-got-eq0.true some)),
      i.taken.4,
    )

pub loop-unit-preserved : goal.loop-unit-preserved
loop-unit-preserved g c =
    let i = c.loop-unit.invariant in
    let now : PartialUnit = i.at.0 in
    let piece : List ℕ = take c.loop-unit.got c.loop-unit.chunk in
    let next = more_feeds now piece c.feed-answer.result.0 c.feed-answer.new.self (pushed c.loop-unit.feed c.feed-answer.new.self now piece c.feed-answer.result.0 c.feed-answer.result.1 answers.More i.at.1 c.in-More.is c.feed-answer.ensures.feeds) in
    let more = more_all c.args.header c.args.unit_length c.args.table.value c.requires.spelled now i.at.2 piece i.taken.0 i.taken.2 next.0 c.feed-answer.result.0 next.2 in
    let got : List ℕ = take c.in-Ok.got c.read_part.new.part in
    let others : List ℕ = drop c.min-want.result c.loop-unit.chunk in
    let start : List ℕ = stream (started c.args.header c.args.unit_length c.args.table.value) in
    let same : take c.in-Ok.got (c.read_part.new.part ++ others) ≡ got = take-append-le c.in-Ok.got c.read_part.new.part others c.in-Ok.ensures.bound.0 in
    let buf : length c.read_part.new.part ≡ length (take c.min-want.result c.loop-unit.chunk) = c.read_part.auto.part in
    let within = got_within c.read_part.new.part c.loop-unit.chunk c.in-Ok.got c.min-want.result c.in-Ok.ensures.bound.0 buf in
    record {
      at = (next.0, next.1, more.0);
      taken = (
        i.taken.0 ++ got,
        consumes_more _ _ _ i.taken.0 got i.taken.1 c.in-Ok.ensures.bytes.0,
        ap (λ (bs : List ℕ). stream next.0 ++ bs) same ∙ ap (λ (bs : List ℕ). bs ++ got) more.1 ∙ append_assoc start i.taken.0 got,
        omega (arith, length-append i.taken.0 got, within, c.min-want.ensures, i.taken.3),
        starts_longer c.args.first.now i.taken.0 got i.taken.4,
      );
      chunk = (
        omega (arith, length-append c.read_part.new.part others, length-drop c.min-want.result c.loop-unit.chunk, buf, length-take c.min-want.result c.loop-unit.chunk, i.chunk.0, c.min-want.ensures),
        omega (arith, within, c.min-want.ensures),
        i.chunk.2,
      );
      clear = c.in-Ok.ensures.fault;
    }
