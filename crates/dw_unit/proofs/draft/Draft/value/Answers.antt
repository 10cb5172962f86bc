use Rattle.std.proofs.Common.{◌≡◌, sym, ap, ◌∙◌}
use Rattle.dw_form.specs.Form.{Attribute}
use Rattle.dw_form.specs.Lent.{attribute_of}
use Rattle.dw_abbrev.specs.PairView.{pair_of}
use Rattle.dw_tree.specs.Next.{next_some}
use Rattle.dw_header.specs.Header.{context_of}
use Rattle.dw_unit.specs.Draft.{Drafted}
use Rattle.dw_unit.proofs.DraftLemmas.{next_sized, next_fronted}
use Rattle.dw_unit.proofs.draft.Draft.value.Goals as goal

pub size_of-size-requires-clause-spelled : goal.size_of-size-requires-clause-spelled
size_of-size-requires-clause-spelled c =
    let d : Drafted = c.args.self.now in
    let same : c.context-context.result ≡ context_of d.header = c.context-context.ensures.context ∙ ap (λ (x : Drafted). context_of x.header) c.self.view_is in
    (next_sized d c.context-context.result (attribute_of c.args.value.now) (pair_of c.in-Some.pair) same (sym c.in-Some.ensures.pair) c.requires.fits).0

pub put_value-requires-clause-size : goal.put_value-requires-clause-size
put_value-requires-clause-size c =
    let d : Drafted = c.args.self.now in
    let v : Attribute = attribute_of c.args.value.now in
    let same : c.context-context.result ≡ context_of d.header = c.context-context.ensures.context ∙ ap (λ (x : Drafted). context_of x.header) c.self.view_is in
    c.size_of-size.ensures ∙ (next_sized d c.context-context.result v (pair_of c.in-Some.pair) same (sym c.in-Some.ensures.pair) c.requires.fits).1

pub value_front-front-requires-clause-spelled : goal.value_front-front-requires-clause-spelled
value_front-front-requires-clause-spelled c =
    let d : Drafted = c.args.self.now in
    let same : c.context-context.result ≡ context_of d.header = c.context-context.ensures.context ∙ ap (λ (x : Drafted). context_of x.header) c.self.view_is in
    (next_sized d c.context-context.result (attribute_of c.args.value.now) (pair_of c.in-Some.pair) same (sym c.in-Some.ensures.pair) c.requires.fits).0

pub put_value-requires-clause-front : goal.put_value-requires-clause-front
put_value-requires-clause-front c =
    let d : Drafted = c.args.self.now in
    let v : Attribute = attribute_of c.args.value.now in
    let same : c.context-context.result ≡ context_of d.header = c.context-context.ensures.context ∙ ap (λ (x : Drafted). context_of x.header) c.self.view_is in
    c.as_slice.ensures.value ∙ c.value_front-front.ensures ∙ next_fronted d c.context-context.result v (pair_of c.in-Some.pair) same (sym c.in-Some.ensures.pair) c.requires.fits

pub unreachable-requires : goal.unreachable-requires
unreachable-requires c =
    let d : Drafted = c.args.self.now in
    absurd (next_some (context_of d.header) (attribute_of c.args.value.now) d.table d.place.unfinished (sym c.in-None.ensures.pair) c.requires.fits)
