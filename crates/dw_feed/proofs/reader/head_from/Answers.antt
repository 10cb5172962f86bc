use Rattle.std.proofs.Common.{◌≡◌, ◌++◌, List, ℕ, [], take, drop, length, refl, sym, append-nil, ap, ◌∙◌, arith, length-append, length-take, length-drop, ◌<◌}
use Rattle.std.proofs.KnownBytes.{Consumes-kept}
use Rattle.dw_leb.specs.Transfers.{consumes_more}
use Rattle.dw_leb.specs.declared.errors.Fault.{Fault as TheFault}
use Rattle.dw_feed.specs.declared.progress.Progress.TheVariants.{More, Done, Fault}
use Rattle.dw_feed.specs.HeadFeed.{HeadState, taken_of}
use Rattle.dw_feed.specs.HeaderCut.{cut_headers_are_short}
use Rattle.dw_feed.proofs.HeadReads.{wants_cut, fault_near, end_near, wanted_inside, reading_wants, reading_pushed, reading_ended, more_reads, done_reads, fault_reads, takes_till_io, takes_till_fault, ends_in_header}
use Rattle.dw_feed.specs.Taking.{behind_taken, starts_longer, consumes_nothing, got_within}
use Rattle.dw_feed.proofs.reader.head_from.Goals as goal

pub loop-got-init : goal.loop-got-init
loop-got-init g c = record {
  taken = (
    taken_of c.args.feed.state,
    c.requires.reading,
    behind_taken (taken_of c.args.feed.state) _,
    c.requires.inside,
    ([], sym (append-nil (taken_of c.args.feed.state))),
  );
  order_is = refl;
  versions_is = refl;
  room = refl;
  clear = c.requires.clear;
}

pub returns-in-Err-clause-broken : goal.returns-in-Err-clause-broken
returns-in-Err-clause-broken g c =
    let t = c.loop-got.invariant.taken in
    takes_till_io c.args.feed.versions c.args.feed.order (taken_of c.args.feed.state) _ _ t.0 (Consumes-kept _ _ _ t.0 t.2 c.in-Err.ensures.bytes) t.3 t.4

pub returns-then-got-eq0-clause-broken : goal.returns-then-got-eq0-clause-broken
returns-then-got-eq0-clause-broken g c =
    let i = c.loop-got.invariant in
    let t = i.taken in
    let wants = reading_wants c.args.feed.versions c.args.feed.order c.loop-got.feed t.0 t.1 i.order_is i.versions_is c.wants-want.result c.wants-want.ensures.least in
    let some : 0 < length c.read_part.new.part = omega (arith, c.read_part.auto.part, length-take c.wants-want.result c.loop-got.part, i.room, wants.0, c.wants-want.ensures.most) in
    let took = consumes_nothing _ _ _ t.0 c.read_part.new.part c.in-Ok.got c.if-got-eq0.true t.2 c.in-Ok.ensures.bytes.0 in
    let fault = reading_ended c.args.feed.versions c.args.feed.order c.loop-got.feed t.0 t.1 i.order_is i.versions_is c.in-Some.cut_off c.in-Some.ensures in
    takes_till_fault c.args.feed.versions c.args.feed.order (taken_of c.args.feed.state) _ _ t.0 took t.3 t.4 c.in-Some.cut_off (ends_in_header c.args.feed.versions c.args.feed.order _ t.0 c.in-Some.cut_off (c.in-Ok.ensures.bytes.1 c.if-got-eq0.true some) fault)

pub loop-got-smaller : goal.loop-got-smaller
loop-got-smaller g c =
    let i = c.loop-got.invariant in
    let t = i.taken in
    let n : ℕ = c.feed-answer.result.0 in
    let got : List ℕ = take c.in-Ok.got c.read_part.new.part in
    let says = reading_pushed c.args.feed.versions c.args.feed.order c.loop-got.feed t.0 t.1 i.order_is i.versions_is c.read_part.new.part (drop c.wants-want.result c.loop-got.part) c.in-Ok.got n c.feed-answer.result.1 More c.feed-answer.new.self c.in-Ok.ensures.bound.0 c.in-More.is c.feed-answer.ensures.feeds in
    let more = more_reads c.args.feed.versions c.args.feed.order t.0 got n c.feed-answer.new.self.state says in
    let now : length (taken_of c.feed-answer.new.self.state) ≡ length (t.0 ++ got) = ap (λ (s : HeadState). length (taken_of s)) more.0 in
    let before : length (taken_of c.loop-got.feed.state) ≡ length t.0 = ap (λ (s : HeadState). length (taken_of s)) t.1 in
    omega (arith, now, before, length-append t.0 got, length-take c.in-Ok.got c.read_part.new.part, c.in-Ok.ensures.bound.0, c.if-got-eq0.false, cut_headers_are_short c.args.feed.versions c.args.feed.order (t.0 ++ got) more.1)

pub loop-got-preserved : goal.loop-got-preserved
loop-got-preserved g c =
    let i = c.loop-got.invariant in
    let t = i.taken in
    let n : ℕ = c.feed-answer.result.0 in
    let want : ℕ = c.wants-want.result in
    let got : List ℕ = take c.in-Ok.got c.read_part.new.part in
    let others : List ℕ = drop want c.loop-got.part in
    let says = reading_pushed c.args.feed.versions c.args.feed.order c.loop-got.feed t.0 t.1 i.order_is i.versions_is c.read_part.new.part others c.in-Ok.got n c.feed-answer.result.1 More c.feed-answer.new.self c.in-Ok.ensures.bound.0 c.in-More.is c.feed-answer.ensures.feeds in
    let more = more_reads c.args.feed.versions c.args.feed.order t.0 got n c.feed-answer.new.self.state says in
    let wants = reading_wants c.args.feed.versions c.args.feed.order c.loop-got.feed t.0 t.1 i.order_is i.versions_is want c.wants-want.ensures.least in
    let within = got_within c.read_part.new.part c.loop-got.part c.in-Ok.got want c.in-Ok.ensures.bound.0 c.read_part.auto.part in
    record {
      taken = (t.0 ++ got, more.0, consumes_more _ _ _ t.0 got t.2 c.in-Ok.ensures.bytes.0, wanted_inside c.args.feed.versions c.args.feed.order t.0 got want t.3 wants (omega (arith, within)), starts_longer (taken_of c.args.feed.state) t.0 got t.4);
      order_is = c.feed-answer.ensures.feeds.order_is ∙ i.order_is;
      versions_is = c.feed-answer.ensures.feeds.versions_is ∙ i.versions_is;
      room = omega (arith, length-append c.read_part.new.part others, length-drop want c.loop-got.part, c.read_part.auto.part, length-take want c.loop-got.part, i.room, c.wants-want.ensures.most);
      clear = c.in-Ok.ensures.fault;
    }

pub returns-in-Done-clause-found : goal.returns-in-Done-clause-found
returns-in-Done-clause-found g c =
    let i = c.loop-got.invariant in
    let t = i.taken in
    let n : ℕ = c.feed-answer.result.0 in
    let want : ℕ = c.wants-want.result in
    let got : List ℕ = take c.in-Ok.got c.read_part.new.part in
    let says = reading_pushed c.args.feed.versions c.args.feed.order c.loop-got.feed t.0 t.1 i.order_is i.versions_is c.read_part.new.part (drop want c.loop-got.part) c.in-Ok.got n c.feed-answer.result.1 (Done c.in-Done.head) c.feed-answer.new.self c.in-Ok.ensures.bound.0 c.in-Done.is c.feed-answer.ensures.feeds in
    let wants = reading_wants c.args.feed.versions c.args.feed.order c.loop-got.feed t.0 t.1 i.order_is i.versions_is want c.wants-want.ensures.least in
    let within = got_within c.read_part.new.part c.loop-got.part c.in-Ok.got want c.in-Ok.ensures.bound.0 c.read_part.auto.part in
    (t.0 ++ got, done_reads c.args.feed.versions c.args.feed.order t.0 got n want c.in-Done.head c.feed-answer.new.self.state wants (omega (arith, within)) says, consumes_more _ _ _ t.0 got t.2 c.in-Ok.ensures.bytes.0, starts_longer (taken_of c.args.feed.state) t.0 got t.4)

pub returns-in-Fault-clause-broken : goal.returns-in-Fault-clause-broken
returns-in-Fault-clause-broken g c =
    let i = c.loop-got.invariant in
    let t = i.taken in
    let n : ℕ = c.feed-answer.result.0 in
    let want : ℕ = c.wants-want.result in
    let f : TheFault = c.in-Fault.fault in
    let got : List ℕ = take c.in-Ok.got c.read_part.new.part in
    let says = reading_pushed c.args.feed.versions c.args.feed.order c.loop-got.feed t.0 t.1 i.order_is i.versions_is c.read_part.new.part (drop want c.loop-got.part) c.in-Ok.got n c.feed-answer.result.1 (Fault f) c.feed-answer.new.self c.in-Ok.ensures.bound.0 c.in-Fault.is c.feed-answer.ensures.feeds in
    let wants = reading_wants c.args.feed.versions c.args.feed.order c.loop-got.feed t.0 t.1 i.order_is i.versions_is want c.wants-want.ensures.least in
    let within = got_within c.read_part.new.part c.loop-got.part c.in-Ok.got want c.in-Ok.ensures.bound.0 c.read_part.auto.part in
    takes_till_fault c.args.feed.versions c.args.feed.order (taken_of c.args.feed.state) _ _ (t.0 ++ got) (consumes_more _ _ _ t.0 got t.2 c.in-Ok.ensures.bytes.0) (wanted_inside c.args.feed.versions c.args.feed.order t.0 got want t.3 wants (omega (arith, within))) (starts_longer (taken_of c.args.feed.state) t.0 got t.4) f (fault_reads c.args.feed.versions c.args.feed.order t.0 got _ n f c.feed-answer.new.self.state says)

pub returns-then-got-eq0-clause-near : goal.returns-then-got-eq0-clause-near
returns-then-got-eq0-clause-near g c =
    let i = c.loop-got.invariant in
    let t = i.taken in
    let fault = reading_ended c.args.feed.versions c.args.feed.order c.loop-got.feed t.0 t.1 i.order_is i.versions_is c.in-Some.cut_off c.in-Some.ensures in
    let wants = reading_wants c.args.feed.versions c.args.feed.order c.loop-got.feed t.0 t.1 i.order_is i.versions_is c.wants-want.result c.wants-want.ensures.least in
    end_near c.args.feed.versions c.args.feed.order t.0 c.in-Some.cut_off (wants_cut c.args.feed.versions c.args.feed.order t.0 c.wants-want.result wants) fault

pub returns-in-Fault-clause-near : goal.returns-in-Fault-clause-near
returns-in-Fault-clause-near g c =
    let i = c.loop-got.invariant in
    let t = i.taken in
    let n : ℕ = c.feed-answer.result.0 in
    let want : ℕ = c.wants-want.result in
    let f : TheFault = c.in-Fault.fault in
    let got : List ℕ = take c.in-Ok.got c.read_part.new.part in
    let says = reading_pushed c.args.feed.versions c.args.feed.order c.loop-got.feed t.0 t.1 i.order_is i.versions_is c.read_part.new.part (drop want c.loop-got.part) c.in-Ok.got n c.feed-answer.result.1 (Fault f) c.feed-answer.new.self c.in-Ok.ensures.bound.0 c.in-Fault.is c.feed-answer.ensures.feeds in
    let within = got_within c.read_part.new.part c.loop-got.part c.in-Ok.got want c.in-Ok.ensures.bound.0 c.read_part.auto.part in
    let wants = reading_wants c.args.feed.versions c.args.feed.order c.loop-got.feed t.0 t.1 i.order_is i.versions_is want c.wants-want.ensures.least in
    fault_near c.args.feed.versions c.args.feed.order t.0 got n f c.feed-answer.new.self.state (wants_cut c.args.feed.versions c.args.feed.order t.0 want wants) (omega (arith, within, c.wants-want.ensures.most)) says
