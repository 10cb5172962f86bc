use Rattle.std.proofs.Common.{◌∙◌, sym, arith}
use Rattle.dw_leb.specs.Number.{sleb}
use Rattle.dw_leb.specs.View.{sleb_of}
use Rattle.dw_leb.specs.Reader.{seen_by}
use Rattle.dw_leb.specs.ReadNumber.{read_sleb}
use Rattle.dw_leb.specs.DecideNumber.{sleb_decides, sleb_field, length-sleb}
use Rattle.dw_leb.specs.Field.{are_bytes, found_by, broken_by, only_by, ok_seen, err_seen, only_seen}
use Rattle.dw_leb.proofs.GroupLemmas.{signed_read}
use Rattle.dw_leb.proofs.signed.Sleb.read.Goals as goal

pub returns-clause-found : goal.returns-clause-found
returns-clause-found c =
    let fit = are_bytes c.args.b.now (λ k. omega (arith, c.type_inv.b k)) in
    let same = c.scan.ensures.exact ∙ sym (signed_read c.args.b.now c.args.lim fit) in
    ok_seen sleb_of c.scan.result _ (found_by sleb read_sleb sleb_decides c.args.b.now c.args.lim (λ x. x.width) (λ x fits. length-sleb x) fit (seen_by sleb_of c.scan.result) same)

pub returns-clause-only : goal.returns-clause-only
returns-clause-only c x h =
    let fit = are_bytes c.args.b.now (λ k. omega (arith, c.type_inv.b k)) in
    let same = c.scan.ensures.exact ∙ sym (signed_read c.args.b.now c.args.lim fit) in
    only_seen sleb_of c.scan.result x (only_by sleb read_sleb sleb_decides c.args.b.now c.args.lim (seen_by sleb_of c.scan.result) same x x.width h)

pub returns-clause-broken : goal.returns-clause-broken
returns-clause-broken c =
    let fit = are_bytes c.args.b.now (λ k. omega (arith, c.type_inv.b k)) in
    let same = c.scan.ensures.exact ∙ sym (signed_read c.args.b.now c.args.lim fit) in
    err_seen sleb_of c.scan.result _ (broken_by sleb read_sleb sleb_decides c.args.b.now c.args.lim sleb_field fit (seen_by sleb_of c.scan.result) same)
