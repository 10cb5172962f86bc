use Rattle.std.proofs.Common.{List, ap, sym, ◌∙◌}
use Rattle.dw_abbrev.specs.Table.{Declaration, Table, declared, declared_in}
use Rattle.dw_abbrev.specs.TableView.{joined}
use Rattle.dw_abbrev.proofs.SharedLemmas.{own_declared, shared_declared}
use Rattle.dw_abbrev.proofs.table.Table.search.Goals as goal

pub returns-in-Some : goal.returns-in-Some
returns-in-Some c =
    let i = c.self.inside in
    sym (own_declared i.decls i.shared.items c.args.code c.in-Some.decl.now (sym c.in-Some.ensures)) ∙ ap (λ (t : Table). declared t c.args.code) c.self.view_is

pub returns-in-None : goal.returns-in-None
returns-in-None c =
    let i = c.self.inside in
    c.find_shared.ensures ∙ (ap (λ (runs : List (List Declaration)). declared_in (joined runs) c.args.code) c.as_slice.ensures.value ∙ (sym (shared_declared i.decls i.shared.items c.args.code (sym c.in-None.ensures)) ∙ ap (λ (t : Table). declared t c.args.code) c.self.view_is))
