use Rattle.std.proofs.Common.{◌≡◌, ℕ, List, sym, subst, ◌∙◌}
use Rattle.std.specs.Rc.{rc_value}
use Rattle.std.proofs.lemmas.Result.{err_from_is_err_and, IfOk-weaker}
use Rattle.dw_abbrev.specs.Laws.{one_table_at}
use Rattle.dw_abbrev.specs.Table.{Table, TableAt}
use Rattle.dw_abbrev.proofs.Kept.{kept_at}
use Rattle.dw_abbrev.proofs.tables.Tables.get_shared.Goals as goal

pub returns-in_ok-clone-in-Some-clause-found : goal.returns-in_ok-clone-in-Some-clause-found
returns-in_ok-clone-in-Some-clause-found c =
    let stands : TableAt c.self.inside.abbreviations.now c.args.offset c.in-Some.table.now.value =
    kept_at rc_value (λ o t. TableAt c.self.inside.abbreviations.now o t) c.self.inside.kept.entries c.args.offset c.in-Some.table.now c.self.invariant (sym c.in-Some.ensures.value) in
    let there : TableAt c.args.self.now c.args.offset c.in-Some.table.now.value = subst (λ (s : List ℕ). TableAt s c.args.offset c.in-Some.table.now.value) (c.self.view_is ∙ c.in_ok-share.ensures) stands in
    subst (λ (v : Table). TableAt c.args.self.now c.args.offset v) (sym c.in_ok-clone-in-Some.ensures.cases) there

pub returns-in_ok-clone-in-Some-clause-only : goal.returns-in_ok-clone-in-Some-clause-only
returns-in_ok-clone-in-Some-clause-only c t at =
    let stands : TableAt c.self.inside.abbreviations.now c.args.offset c.in-Some.table.now.value =
    kept_at rc_value (λ o t. TableAt c.self.inside.abbreviations.now o t) c.self.inside.kept.entries c.args.offset c.in-Some.table.now c.self.invariant (sym c.in-Some.ensures.value) in
    let there : TableAt c.args.self.now c.args.offset c.in-Some.table.now.value = subst (λ (s : List ℕ). TableAt s c.args.offset c.in-Some.table.now.value) (c.self.view_is ∙ c.in_ok-share.ensures) stands in
    (c.in_ok-clone-in-Some.ensures.cases ∙ one_table_at c.args.self.now c.args.offset c.in-Some.table.now.value t there at, tt)

pub returns-in_err-table-in-None-clause-only : goal.returns-in_err-table-in-None-clause-only
returns-in_err-table-in-None-clause-only c t at =
    let p = err_from_is_err_and c.from_residual-in_err-table-in-None.result c.from_residual-in_err-table-in-None.ensures.1 in
    let there : TableAt c.self.inside.abbreviations.now c.args.offset t = subst (λ (s : List ℕ). TableAt s c.args.offset t) (sym (c.self.view_is ∙ c.in_ok-share.ensures)) at in
    rw (p.1, p.2) (c.in_err-table-in-None.ensures.only t there)

pub returns-in_ok-table-in-None-clause-only : goal.returns-in_ok-table-in-None-clause-only
returns-in_ok-table-in-None-clause-only c t at =
    let there : TableAt c.self.inside.abbreviations.now c.args.offset t = subst (λ (s : List ℕ). TableAt s c.args.offset t) (sym (c.self.view_is ∙ c.in_ok-share.ensures)) at in
    let same : c.in_ok-table-in-None.table ≡ t = (c.in_ok-table-in-None.ensures.only t there).0 in
    (IfOk-weaker c.keep.result (λ x. x.value ≡ c.in_ok-table-in-None.table) (λ x. x.value ≡ t) (λ x h. h ∙ same) c.keep.ensures.found, c.keep.ensures.memory)
