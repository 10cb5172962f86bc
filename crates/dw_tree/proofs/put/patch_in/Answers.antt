use mir.Syntax.{w128}
use Rattle.std.proofs.Common.{◌≡◌, ℤ, to_z, of_z, ◌+◌, List, ℕ, Some, length, map, drop, sym, ap, subst, ◌∙◌, arith}
use Rattle.std.proofs.lemmas.List.{length-drop}
use Rattle.dw_form.specs.Form.{Attribute}
use Rattle.dw_form.specs.Lent.{attribute_of}
use Rattle.dw_form.specs.Head.{head_at}
use Rattle.dw_form.specs.Pieces.{HasSpelling, has_spelling}
use Rattle.dw_abbrev.specs.PairView.{pair_of}
use Rattle.dw_abbrev.specs.declared.pair.Pair.{Pair as RustPair}
use Rattle.dw_tree.specs.RowHeads.{Here, First}
use Rattle.dw_tree.proofs.RunSteps.{first, others}
use Rattle.dw_tree.proofs.Patches.{patch_step, behind_step}
use Rattle.dw_tree.proofs.put.patch_in.Goals as goal

pub new_head-requires-clause-spelled : goal.new_head-requires-clause-spelled
new_head-requires-clause-spelled c =
    let k = c.args.ctx in
    let x : ℤ = to_z w128 (of_z w128 c.args.number) in
    let p = pair_of c.in-Some.pair.now in
    let is = ap (λ (ps : List RustPair). map pair_of ps) c.in-Some.ensures.cases.0 in
    let v : First k p c.behind.result.now c.args.pool.now = subst (λ (hs : List ℕ). First k p hs c.args.pool.now) (sym c.behind.ensures)
    (first k (map pair_of c.loop-pair.left.now) p (map pair_of c.in-Some.others.now) c.args.heads.now c.args.pool.now c.loop-pair.at is c.loop-pair.invariant.within c.loop-pair.invariant.here) in
    let lent = c.in_ok-value.ensures.put v.value v.start v.rest v.fits v.lies v.split in
    subst (λ (a : Attribute). HasSpelling k p.form.value a) (sym lent.0) (has_spelling k p.form.value p.constant v.value v.fits).0

pub loop-pair-preserved : goal.loop-pair-preserved
loop-pair-preserved c =
    let k = c.args.ctx in
    let x : ℤ = to_z w128 (of_z w128 c.args.number) in
    let p = pair_of c.in-Some.pair.now in
    let ps = map pair_of c.loop-pair.left.now in
    let rest = map pair_of c.in-Some.others.now in
    let hs = c.args.heads.now in
    let pool = c.args.pool.now in
    let at = c.loop-pair.at in
    let own = c.in_ok-value.own in
    let v = attribute_of c.in_ok-value.value in
    let is = ap (λ (qs : List RustPair). map pair_of qs) c.in-Some.ensures.cases.0 in
    let found : head_at k p.form.value p.constant (drop at hs) pool ≡ Some (v, own) = ap (λ (b : List ℕ). head_at k p.form.value p.constant b pool) (sym c.behind.ensures) ∙ sym c.in_ok-value.ensures.exact in
    let behind : Here k rest (drop (at + own) hs) pool = subst (λ (b : List ℕ). Here k rest b pool) (behind_step k p hs pool at v own found)
    (others k ps p rest hs pool at is c.loop-pair.invariant.within c.loop-pair.invariant.here) in
    record {
      rest = c.loop-pair.invariant.rest ∙ patch_step k c.args.name x ps p rest hs pool at v own is found c.if-pair-name.false;
      here = behind;
      within = omega (arith, c.in_ok-value.ensures.room, ap length c.behind.ensures, length-drop at hs, c.loop-pair.invariant.within);
    }
