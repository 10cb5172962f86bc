use Rattle.std.proofs.Common.{◌≡◌, ℕ, List, Option, sym, subst, ◌∙◌}
use Rattle.std.specs.Prelude.{IfSome}
use Rattle.std.specs.Rc.{rc_value}
use Rattle.std.proofs.lemmas.Result.{err_from_is_err_and, IfOk-weaker}
use Rattle.dw_abbrev.specs.Laws.{one_table_at}
use Rattle.dw_abbrev.specs.Table.{Table, TableAt}
use Rattle.dw_abbrev.proofs.Kept.{kept_at}
use Rattle.dw_abbrev.proofs.tables.Tables.get.Goals as goal

pub returns-in-Some-clause-found : goal.returns-in-Some-clause-found
returns-in-Some-clause-found c =
    let stands : TableAt c.self.inside.abbreviations.now c.args.offset c.in-Some.table.now.value =
    kept_at rc_value (λ o t. TableAt c.self.inside.abbreviations.now o t) c.self.inside.kept.entries c.args.offset c.in-Some.table.now c.self.invariant (sym c.in-Some.ensures.value) in
    rw (← c.self.view_is) (subst (λ (v : Table). TableAt c.self.inside.abbreviations.now c.args.offset v) (sym c.in_ok-clone.ensures.cases) stands)

pub returns-in-Some-clause-only : goal.returns-in-Some-clause-only
returns-in-Some-clause-only c t at =
    let stands : TableAt c.self.inside.abbreviations.now c.args.offset c.in-Some.table.now.value =
    kept_at rc_value (λ o t. TableAt c.self.inside.abbreviations.now o t) c.self.inside.kept.entries c.args.offset c.in-Some.table.now c.self.invariant (sym c.in-Some.ensures.value) in
    let there : TableAt c.self.inside.abbreviations.now c.args.offset t = subst (λ (s : List ℕ). TableAt s c.args.offset t) (sym c.self.view_is) at in
    (c.in_ok-clone.ensures.cases ∙ one_table_at c.self.inside.abbreviations.now c.args.offset c.in-Some.table.now.value t stands there, tt)

pub returns-in_err-clone-clause-memory : goal.returns-in_err-clone-clause-memory
returns-in_err-clone-clause-memory c =
    let stands : TableAt c.self.inside.abbreviations.now c.args.offset c.in-Some.table.now.value =
    kept_at rc_value (λ o t. TableAt c.self.inside.abbreviations.now o t) c.self.inside.kept.entries c.args.offset c.in-Some.table.now c.self.invariant (sym c.in-Some.ensures.value) in
    let p = err_from_is_err_and c.from_residual.result c.from_residual.ensures.1 in
    rw (← c.self.view_is, p.1, p.2) (λ _. stands.inside)

pub returns-in_err-read-clause-only : goal.returns-in_err-read-clause-only
returns-in_err-read-clause-only c t at =
    let p = err_from_is_err_and c.from_residual-in_err-read.result c.from_residual-in_err-read.ensures.1 in
    let there : TableAt c.self-2.inside.abbreviations.now c.args.offset t = subst (λ (s : List ℕ). TableAt s c.args.offset t) (sym (c.self-2.view_is ∙ c.in_ok-prepare.ensures.abbreviations)) at in
    rw (p.1, p.2) (c.in_err-read.ensures.only t there)

pub returns-in-Some-read-clause-only : goal.returns-in-Some-read-clause-only
returns-in-Some-read-clause-only c t at =
    let there : TableAt c.self-2.inside.abbreviations.now c.args.offset t = subst (λ (s : List ℕ). TableAt s c.args.offset t) (sym (c.self-2.view_is ∙ c.in_ok-prepare.ensures.abbreviations)) at in
    let same : c.in-Some-read.table ≡ t = subst (λ (o : Option Table). IfSome o (λ x. x ≡ t)) c.in-Some-read.is (c.in_ok-read.ensures.only t there).0 in
    (IfOk-weaker c.keep.result (λ x. x.value ≡ c.in-Some-read.table) (λ x. x.value ≡ t) (λ x h. h ∙ same) c.keep.ensures.found, c.keep.ensures.memory)

pub returns-in-None-clause-only : goal.returns-in-None-clause-only
returns-in-None-clause-only c t at =
    let there : TableAt c.self-2.inside.abbreviations.now c.args.offset t = subst (λ (s : List ℕ). TableAt s c.args.offset t) (sym (c.self-2.view_is ∙ c.in_ok-prepare.ensures.abbreviations)) at in
    c.get_shared.ensures.only t there
