use Rattle.dw_leb.specs.View.{uleb_of}
use Rattle.std.proofs.Common.{◌≡◌, ◌∙◌, false, refl, inl, inr, arith}
use Rattle.std.proofs.lemmas.Bool.{eq-eqb, ne_eqb}
use Rattle.std.proofs.lemmas.Result.{err_from_is_err_and}
use Rattle.dw_leb.specs.Field.{are_bytes}
use Rattle.dw_abbrev.specs.Table.{is_null}
use Rattle.dw_abbrev.proofs.TableLemmas.{no_decls, code_fails, table_there, table_fits, declaration_fails, one_declaration, declares, no_memory}
use Rattle.dw_abbrev.proofs.table.Table.scan.Goals as goal

pub loop-decls-init : goal.loop-decls-init
loop-decls-init c = rw c.new-decls.ensures (record { read = no_decls c.args.abbreviations.now c.args.at c.requires; begun = inl refl; within = c.requires; keeps = refl })

pub returns-in_err-code-clause-err : goal.returns-in_err-code-clause-err
returns-in_err-code-clause-err c =
    let p = err_from_is_err_and c.from_residual.result c.from_residual.ensures.1 in
    rw (p.1, p.2) (code_fails c.args.abbreviations.now c.args.at c.loop-decls.decls c.loop-decls.here c.loop-decls.invariant.read _ c.in_err-code.ensures.err)

pub returns-then-code-eq0-clause-ok : goal.returns-then-code-eq0-clause-ok
returns-then-code-eq0-clause-ok c = rw c.new.ensures.items (
  c.in_ok-code.behind,
  table_there c.args.abbreviations.now c.args.at c.loop-decls.decls c.loop-decls.here c.loop-decls.invariant.read (uleb_of c.in_ok-code.code) c.in_ok-code.behind c.in_ok-code.ensures.ok
      (eq-eqb c.in_ok-code.code.value 0 (omega arith)),
)

pub invariant_of-result : goal.invariant_of-result
invariant_of-result c = rw c.new.ensures.items (record {
  zero = omega arith;
  fits = table_fits c.args.abbreviations.now c.args.at (are_bytes c.args.abbreviations.now (λ k. omega (arith, c.type_inv.abbreviations k))) (record { declarations = c.loop-decls.decls; last_zero = c.in_ok-code.code.width })
      c.in_ok-code.behind
      (table_there c.args.abbreviations.now c.args.at c.loop-decls.decls c.loop-decls.here c.loop-decls.invariant.read (uleb_of c.in_ok-code.code) c.in_ok-code.behind c.in_ok-code.ensures.ok
      (eq-eqb c.in_ok-code.code.value 0 (omega arith)));
})

pub returns-in_err-decl-clause-err : goal.returns-in_err-decl-clause-err
returns-in_err-decl-clause-err c =
    let p = err_from_is_err_and c.from_residual-in_err-decl.result c.from_residual-in_err-decl.ensures.1 in
    let some : is_null (uleb_of c.in_ok-code.code) ≡ false = ne_eqb c.in_ok-code.code.value 0 c.if-code-eq0.false in
    rw (p.1, p.2) (declaration_fails c.args.abbreviations.now c.args.at c.loop-decls.decls c.loop-decls.here c.loop-decls.invariant.read (uleb_of c.in_ok-code.code) c.in_ok-code.behind c.in_ok-code.ensures.ok some _ c.in_err-decl.ensures.err)

pub loop-decls-preserved : goal.loop-decls-preserved
loop-decls-preserved c =
    let some : is_null (uleb_of c.in_ok-code.code) ≡ false = ne_eqb c.in_ok-code.code.value 0 c.if-code-eq0.false in
    rw c.in-Ok.ensures.ok (record {
      read = one_declaration c.args.abbreviations.now c.args.at c.loop-decls.decls c.loop-decls.here c.loop-decls.invariant.read (uleb_of c.in_ok-code.code) c.in_ok-code.behind c.in_ok-code.ensures.ok some c.in_ok-code.ensures.forward.0
          c.in_ok-decl.decl c.in_ok-decl.ensures.code c.in_ok-decl.next c.in_ok-decl.ensures.ok;
      begun = inr (declares c.args.abbreviations.now c.args.at (are_bytes c.args.abbreviations.now (λ k. omega (arith, c.type_inv.abbreviations k))) c.loop-decls.here c.loop-decls.invariant.begun _ (uleb_of c.in_ok-code.code) c.in_ok-code.behind c.in_ok-code.ensures.ok
          c.in_ok-code.ensures.forward.0 c.in_ok-code.ensures.forward.1 some);
      within = c.in_ok-decl.ensures.forward.1;
      keeps = c.in_ok-meets.ensures.keeps ∙ c.loop-decls.invariant.keeps;
    })

pub returns-in_err-code-clause-memory : goal.returns-in_err-code-clause-memory
returns-in_err-code-clause-memory c =
    let p = err_from_is_err_and c.from_residual.result c.from_residual.ensures.1 in
    rw (p.1, p.2) (λ same. absurd (no_memory _ c.in_err-code.ensures.fault same))

pub returns-in_err-decl-clause-memory : goal.returns-in_err-decl-clause-memory
returns-in_err-decl-clause-memory c =
    let p = err_from_is_err_and c.from_residual-in_err-decl.result c.from_residual-in_err-decl.ensures.1 in
    let some : is_null (uleb_of c.in_ok-code.code) ≡ false = ne_eqb c.in_ok-code.code.value 0 c.if-code-eq0.false in
    rw (p.1, p.2) (λ _. declares c.args.abbreviations.now c.args.at (are_bytes c.args.abbreviations.now (λ k. omega (arith, c.type_inv.abbreviations k))) c.loop-decls.here c.loop-decls.invariant.begun _ (uleb_of c.in_ok-code.code) c.in_ok-code.behind c.in_ok-code.ensures.ok
    c.in_ok-code.ensures.forward.0 c.in_ok-code.ensures.forward.1 some)

pub returns-in-Err-clause-memory : goal.returns-in-Err-clause-memory
returns-in-Err-clause-memory c =
    let some : is_null (uleb_of c.in_ok-code.code) ≡ false = ne_eqb c.in_ok-code.code.value 0 c.if-code-eq0.false in
    λ _. declares c.args.abbreviations.now c.args.at (are_bytes c.args.abbreviations.now (λ k. omega (arith, c.type_inv.abbreviations k))) c.loop-decls.here c.loop-decls.invariant.begun _ (uleb_of c.in_ok-code.code) c.in_ok-code.behind c.in_ok-code.ensures.ok
    c.in_ok-code.ensures.forward.0 c.in_ok-code.ensures.forward.1 some

pub returns-in_err-meets-clause-memory : goal.returns-in_err-meets-clause-memory
returns-in_err-meets-clause-memory c =
    let p = err_from_is_err_and c.from_residual-in_err-meets.result c.from_residual-in_err-meets.ensures.1 in
    let some : is_null (uleb_of c.in_ok-code.code) ≡ false = ne_eqb c.in_ok-code.code.value 0 c.if-code-eq0.false in
    rw (p.1, p.2) (λ _. declares c.args.abbreviations.now c.args.at (are_bytes c.args.abbreviations.now (λ k. omega (arith, c.type_inv.abbreviations k))) c.loop-decls.here c.loop-decls.invariant.begun _ (uleb_of c.in_ok-code.code) c.in_ok-code.behind c.in_ok-code.ensures.ok
    c.in_ok-code.ensures.forward.0 c.in_ok-code.ensures.forward.1 some)
