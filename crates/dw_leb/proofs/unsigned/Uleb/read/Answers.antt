use Rattle.std.proofs.Common.{◌∙◌, sym, arith}
use Rattle.dw_leb.specs.Number.{uleb}
use Rattle.dw_leb.specs.View.{uleb_of}
use Rattle.dw_leb.specs.Reader.{seen_by}
use Rattle.dw_leb.specs.ReadNumber.{read_uleb}
use Rattle.dw_leb.specs.DecideNumber.{uleb_decides, uleb_field, length-uleb}
use Rattle.dw_leb.specs.Field.{are_bytes, found_by, broken_by, only_by, ok_seen, err_seen, only_seen}
use Rattle.dw_leb.proofs.GroupLemmas.{unsigned_read}
use Rattle.dw_leb.proofs.unsigned.Uleb.read.Goals as goal

pub returns-clause-found : goal.returns-clause-found
returns-clause-found c =
    let fit = are_bytes c.args.b.now (λ k. omega (arith, c.type_inv.b k)) in
    let same = c.scan.ensures.exact ∙ sym (unsigned_read c.args.b.now c.args.lim fit) in
    ok_seen uleb_of c.scan.result _ (found_by uleb read_uleb uleb_decides c.args.b.now c.args.lim (λ x. x.width) (λ x fits. length-uleb x) fit (seen_by uleb_of c.scan.result) same)

pub returns-clause-only : goal.returns-clause-only
returns-clause-only c x h =
    let fit = are_bytes c.args.b.now (λ k. omega (arith, c.type_inv.b k)) in
    let same = c.scan.ensures.exact ∙ sym (unsigned_read c.args.b.now c.args.lim fit) in
    only_seen uleb_of c.scan.result x (only_by uleb read_uleb uleb_decides c.args.b.now c.args.lim (seen_by uleb_of c.scan.result) same x x.width h)

pub returns-clause-broken : goal.returns-clause-broken
returns-clause-broken c =
    let fit = are_bytes c.args.b.now (λ k. omega (arith, c.type_inv.b k)) in
    let same = c.scan.ensures.exact ∙ sym (unsigned_read c.args.b.now c.args.lim fit) in
    err_seen uleb_of c.scan.result _ (broken_by uleb read_uleb uleb_decides c.args.b.now c.args.lim uleb_field fit (seen_by uleb_of c.scan.result) same)
