use Rattle.std.proofs.Common.{◌≡◌, false, refl, arith}
use Rattle.std.proofs.lemmas.Bool.{ne_eqb}
use Rattle.dw_leb.specs.View.{uleb_of}
use Rattle.dw_leb.specs.Field.{are_bytes}
use Rattle.dw_abbrev.specs.Table.{Declaration, is_null}
use Rattle.dw_abbrev.proofs.RunLemmas.{zero_stands, declaration_there, row_there, rows_pushed}
use Rattle.dw_abbrev.proofs.run.Run.step.Goals as goal

pub returns-then-code-eq0 : goal.returns-then-code-eq0
returns-then-code-eq0 c =
    let abbreviations = c.args.abbreviations.now in
    let fit = are_bytes abbreviations (λ k. omega (arith, c.type_inv.abbreviations k)) in
    (refl, c.if-code-eq0.true, zero_stands abbreviations fit c.args.here (uleb_of c.in-Ok.code) c.in-Ok.behind c.in-Ok.ensures.ok c.if-code-eq0.true)

pub returns-in_ok-push-in-Ok-decl_behind : goal.returns-in_ok-push-in-Ok-decl_behind
returns-in_ok-push-in-Ok-decl_behind c =
    let abbreviations = c.args.abbreviations.now in
    let fit = are_bytes abbreviations (λ k. omega (arith, c.type_inv.abbreviations k)) in
    let old = c.args.self.now in
    let decl : Declaration = c.in-Ok-decl_behind.decl in
    let next = c.in-Ok-decl_behind.next in
    let some : is_null (uleb_of c.in-Ok.code) ≡ false = ne_eqb c.in-Ok.code.value 0 c.if-code-eq0.false in
    let row = row_there abbreviations fit c.args.here (uleb_of c.in-Ok.code) c.in-Ok.behind c.in-Ok.ensures.ok decl c.in-Ok-decl_behind.ensures.code some next c.in-Ok-decl_behind.ensures.ok in
    let fits = declaration_there abbreviations fit c.args.here (uleb_of c.in-Ok.code) c.in-Ok.behind c.in-Ok.ensures.ok decl c.in-Ok-decl_behind.ensures.code some next c.in-Ok-decl_behind.ensures.ok in
    let rows = rows_pushed abbreviations old.starts.items old.decls c.args.here decl next c.requires.rows row fits in
    let e = c.in_ok-push-in-Ok-decl_behind.ensures in (
      omega (arith, c.in-Ok.ensures.forward.0, c.in-Ok-decl_behind.ensures.forward.0),
      record {
        within = c.in-Ok-decl_behind.ensures.forward.1;
        rows = rw (e.decls, e.starts) rows;
      },
    )
