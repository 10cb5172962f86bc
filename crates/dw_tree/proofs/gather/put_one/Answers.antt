use Rattle.std.proofs.Common.{◌≡◌, ◌≤◌, ◌++◌, ℕ, List, length, take, sym, ap, ap₂, subst, ◌∙◌}
use Rattle.dw_form.specs.Form.{Attribute}
use Rattle.dw_form.specs.HeadFront.{front_size}
use Rattle.dw_form.specs.Pieces.{content_of, tail_of}
use Rattle.dw_abbrev.specs.PairView.{pair_of}
use Rattle.dw_tree.proofs.Parted.{parted, front_count}
use Rattle.dw_tree.proofs.gather.put_one.Goals as goal

pub front-requires : goal.front-requires
front-requires c =
    let x = c.requires.first in
    let k = c.args.ctx in
    let p = pair_of c.args.pair.now in
    let lent = c.in_ok-attr.ensures.put x.value x.start x.rest x.fits x.lies x.split in
    let count : c.front_len.result ≡ front_count k p c.args.heads.now c.args.pool.now x = c.front_len.ensures ∙ ap₂ front_size lent.0 lent.1 in
    subst (λ (n : ℕ). n ≤ length c.args.heads.now) (sym count) (parted k p c.args.heads.now c.args.pool.now x).1

pub returns-clause-put : goal.returns-clause-put
returns-clause-put c =
    let x = c.requires.first in
    let k = c.args.ctx in
    let p = pair_of c.args.pair.now in
    let lent = c.in_ok-attr.ensures.put x.value x.start x.rest x.fits x.lies x.split in
    let count : c.front_len.result ≡ front_count k p c.args.heads.now c.args.pool.now x = c.front_len.ensures ∙ ap₂ front_size lent.0 lent.1 in
    let front = c.front.ensures ∙ ap (λ (n : ℕ). take n c.args.heads.now) count in
    let content = ap (λ (a : Attribute). content_of a.value ++ tail_of a.value) lent.0 in
    c.in_ok-put_content.ensures.put
    ∙ ap (λ (b : List ℕ). c.args.gathered.now.items ++ b) (ap₂ (λ (b d : List ℕ). b ++ d) front content ∙ sym (parted k p c.args.heads.now c.args.pool.now x).0)
