use Rattle.std.proofs.Common.{◌≡◌, Option, Some, length, sym, ap, subst, ◌∙◌, option_map}
use Rattle.std.specs.Prelude.{IfSome}
use Rattle.dw_form.specs.Form.{Attribute}
use Rattle.dw_form.specs.HeadFront.{front_bytes}
use Rattle.dw_form.specs.Lent.{attribute_of}
use Rattle.dw_abbrev.specs.PairView.{pair_of}
use Rattle.dw_tree.specs.Steps.{NextFits}
use Rattle.dw_tree.specs.Next.{next_some}
use Rattle.dw_header.specs.Header.{context_of}
use Rattle.dw_unit.specs.Draft.{Drafted, partial_of, value_bytes}
use Rattle.dw_unit.proofs.DraftLemmas.{next_sized, next_fronted}
use Rattle.dw_unit.proofs.draft.Draft.partial_size.Goals as goal

pub size_of-size-requires-clause-spelled : goal.size_of-size-requires-clause-spelled
size_of-size-requires-clause-spelled c =
    let d : Drafted = c.args.self.now in
    let v : Attribute = attribute_of c.in_ok-partial.partial in
    let k = context_of d.header in
    let same : c.context-context.result ≡ k = c.context-context.ensures.context ∙ ap (λ (x : Drafted). context_of x.header) c.self.view_is in
    let has : partial_of d ≡ Some v = sym c.in_ok-partial.ensures in
    let fits : NextFits k d.table d.place.unfinished v = subst (λ (o : Option Attribute). IfSome o (λ a. NextFits k d.table d.place.unfinished a)) has c.requires in
    (next_sized d c.context-context.result v (pair_of c.in-Some.pair) same (sym c.in-Some.ensures.pair) fits).0

pub unreachable-requires : goal.unreachable-requires
unreachable-requires c =
    let d : Drafted = c.args.self.now in
    let v : Attribute = attribute_of c.in_ok-partial.partial in
    let k = context_of d.header in
    let has : partial_of d ≡ Some v = sym c.in_ok-partial.ensures in
    let fits : NextFits k d.table d.place.unfinished v = subst (λ (o : Option Attribute). IfSome o (λ a. NextFits k d.table d.place.unfinished a)) has c.requires in
    absurd (next_some k v d.table d.place.unfinished (sym c.in-None.ensures.pair) fits)

pub value_front-requires-clause-spelled : goal.value_front-requires-clause-spelled
value_front-requires-clause-spelled c =
    let d : Drafted = c.args.self.now in
    let v : Attribute = attribute_of c.in_ok-partial.partial in
    let k = context_of d.header in
    let same : c.context-context.result ≡ k = c.context-context.ensures.context ∙ ap (λ (x : Drafted). context_of x.header) c.self.view_is in
    let has : partial_of d ≡ Some v = sym c.in_ok-partial.ensures in
    let fits : NextFits k d.table d.place.unfinished v = subst (λ (o : Option Attribute). IfSome o (λ a. NextFits k d.table d.place.unfinished a)) has c.requires in
    (next_sized d c.context-context.result v (pair_of c.in-Some.pair) same (sym c.in-Some.ensures.pair) fits).0

pub returns-clause-front : goal.returns-clause-front
returns-clause-front c =
    let d : Drafted = c.args.self.now in
    let v : Attribute = attribute_of c.in_ok-partial.partial in
    let k = context_of d.header in
    let same : c.context-context.result ≡ k = c.context-context.ensures.context ∙ ap (λ (x : Drafted). context_of x.header) c.self.view_is in
    let has : partial_of d ≡ Some v = sym c.in_ok-partial.ensures in
    let fits : NextFits k d.table d.place.unfinished v = subst (λ (o : Option Attribute). IfSome o (λ a. NextFits k d.table d.place.unfinished a)) has c.requires in
    ap Some (c.value_front.ensures ∙ next_fronted d c.context-context.result v (pair_of c.in-Some.pair) same (sym c.in-Some.ensures.pair) fits)
    ∙ ap (option_map (λ (a : Attribute). front_bytes a (value_bytes d a))) (sym has)

pub returns-clause-size : goal.returns-clause-size
returns-clause-size c =
    let d : Drafted = c.args.self.now in
    let v : Attribute = attribute_of c.in_ok-partial.partial in
    let k = context_of d.header in
    let same : c.context-context.result ≡ k = c.context-context.ensures.context ∙ ap (λ (x : Drafted). context_of x.header) c.self.view_is in
    let has : partial_of d ≡ Some v = sym c.in_ok-partial.ensures in
    let fits : NextFits k d.table d.place.unfinished v = subst (λ (o : Option Attribute). IfSome o (λ a. NextFits k d.table d.place.unfinished a)) has c.requires in
    ap Some (c.size_of-size.ensures ∙ (next_sized d c.context-context.result v (pair_of c.in-Some.pair) same (sym c.in-Some.ensures.pair) fits).1)
    ∙ ap (option_map (λ (a : Attribute). length (value_bytes d a))) (sym has)
