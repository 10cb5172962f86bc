use Rattle.std.proofs.Common.{ap, sym, ◌∙◌}
use Rattle.dw_abbrev.specs.Table.{Table, declared}
use Rattle.dw_abbrev.proofs.SharedLemmas.{own_declared}
use Rattle.dw_abbrev.proofs.table.Table.get.Goals as goal

pub returns-in-Some-clause-value : goal.returns-in-Some-clause-value
returns-in-Some-clause-value c =
    let i = c.self.inside in
    sym (own_declared i.decls i.shared.items c.args.code c.in-Some.decl.now c.in-Some.ensures) ∙ ap (λ (t : Table). declared t c.args.code) c.self.view_is
