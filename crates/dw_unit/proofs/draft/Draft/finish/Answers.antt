use Rattle.std.proofs.Common.{◌≡◌, length, sym, ap, ◌∙◌}
use Rattle.dw_unit.specs.Unit.{WholeUnit, bytes_of}
use Rattle.dw_unit.specs.Draft.{Drafted, drafted_size}
use Rattle.dw_unit.proofs.DraftLemmas.{unit_built}
use Rattle.dw_unit.proofs.draft.Draft.finish.Goals as goal

pub of-requires : goal.of-requires
of-requires c =
    let a = c.self.inside in
    let d : Drafted = record { header = a.header; table = a.tree.table; place = a.tree.place; padding = a.padding.items } in
    let size : c.size-size.result ≡ drafted_size d = c.size-size.ensures.size ∙ ap drafted_size (sym c.self.view_is) in
    unit_built d a.tree a.padded c.size-size.result c.self.invariant size c.finish-tree.result c.finish-tree.ensures.whole c.finish-tree.ensures.fits c.finish-tree.ensures.size

pub returns-clause-size : goal.returns-clause-size
returns-clause-size c =
    let a = c.self.inside in
    let d : Drafted = record { header = a.header; table = a.tree.table; place = a.tree.place; padding = a.padding.items } in
    let size : c.size-size.result ≡ drafted_size d = c.size-size.ensures.size ∙ ap drafted_size (sym c.self.view_is) in
    let built = unit_built d a.tree a.padded c.size-size.result c.self.invariant size c.finish-tree.result c.finish-tree.ensures.whole c.finish-tree.ensures.fits c.finish-tree.ensures.size in
    ap (λ (u : WholeUnit). length (bytes_of u)) c.of.ensures ∙ built.sized ∙ c.size-size.ensures.size
