use Rattle.std.proofs.Common.{ℕ, List, length, ◌-◌, sym, subst}
use Rattle.dw_feed.specs.declared.step.Taken.TheVariants as takes
use Rattle.dw_feed.specs.declared.progress.Progress.TheVariants as answers
use Rattle.dw_feed.specs.BodyFeed.{PartialUnit, Reading, started}
use Rattle.dw_feed.specs.FedUnit.{ended_breaks, fault_of_all}
use Rattle.dw_feed.specs.FeedInvariant.{Keeps, start_keeps}
use Rattle.dw_feed.specs.FieldSteps.{TakenSays}
use Rattle.dw_feed.proofs.unit.unit_behind.Goals as goal

pub take-requires-clause-stands : goal.take-requires-clause-stands
take-requires-clause-stands c = subst Keeps (sym c.new-coming.ensures) (start_keeps c.args.header c.args.unit_length c.args.table.value c.requires)

pub returns-in-More-clause-broken : goal.returns-in-More-clause-broken
returns-in-More-clause-broken c =
    let g : PartialUnit = started c.args.header c.args.unit_length c.args.table.value in
    let piece : List ℕ = c.args.b.now in
    let says = subst (λ (x : PartialUnit). TakenSays x piece takes.More c.take.new.self) c.new-coming.ensures c.in-More.ensures.says in
    ended_breaks g piece (length piece - 0) answers.More (Reading c.take.new.self) c.cut_off.result says.0.1 c.cut_off.ensures

pub returns-in-Refused-clause-broken : goal.returns-in-Refused-clause-broken
returns-in-Refused-clause-broken c =
    let g : PartialUnit = started c.args.header c.args.unit_length c.args.table.value in
    let piece : List ℕ = c.args.b.now in
    let says = subst (λ (x : PartialUnit). TakenSays x piece (takes.Refused c.in-Refused.field-0 c.in-Refused.fault) c.take.new.self) c.new-coming.ensures c.in-Refused.ensures.says in
    fault_of_all g piece (length piece - c.in-Refused.field-0) c.in-Refused.fault says.1.1
