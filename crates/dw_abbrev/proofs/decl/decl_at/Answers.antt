use Rattle.dw_leb.specs.View.{uleb_of}
use Rattle.dw_abbrev.specs.PairView.{pair_of}
use Rattle.std.specs.Prelude.{map}
use Rattle.std.proofs.lemmas.Result.{err_from_is_err_and}
use Rattle.dw_abbrev.specs.Table.{pair_parts}
use Rattle.dw_abbrev.specs.ReadTable.{flag_number}
use Rattle.dw_abbrev.proofs.DeclLemmas.{pairs_fail, described_there}
use Rattle.dw_abbrev.proofs.decl.decl_at.Goals as goal

pub returns-in_err-zeros-clause-err : goal.returns-in_err-zeros-clause-err
returns-in_err-zeros-clause-err c =
    let p = err_from_is_err_and c.from_residual-in_err-zeros.result c.from_residual-in_err-zeros.ensures.1 in
    rw (p.1, p.2) (pairs_fail c.args.abbreviations.now c.args.at (uleb_of c.in_ok-tag.tag) c.in_ok-tag.behind_tag c.in_ok-tag.ensures.ok (flag_number c.in_ok-children.children) c.in_ok-children.behind_flag c.in_ok-children.ensures.ok _ c.in_err-zeros.ensures.err)

pub returns-clause-ok : goal.returns-clause-ok
returns-clause-ok c =
    described_there c.args.abbreviations.now c.args.at (uleb_of c.in_ok-tag.tag) c.in_ok-tag.behind_tag c.in_ok-tag.ensures.ok (flag_number c.in_ok-children.children) c.in_ok-children.behind_flag c.in_ok-children.ensures.ok
    (map pair_parts (map pair_of c.pairs_at.new.list.items)) (uleb_of c.in_ok-zeros.zeros.name_zero) (uleb_of c.in_ok-zeros.zeros.form_zero) c.in_ok-zeros.next c.in_ok-zeros.ensures.ok c.in_ok-zeros.ensures.zeros.0 c.in_ok-zeros.ensures.zeros.1
