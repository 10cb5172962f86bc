use Rattle.std.proofs.Common.{◌≡◌, ◌∷◌, ◌∙◌, ap, rules, sym}
use Rattle.dw_tree.specs.Names.{first_name}
use Rattle.dw_tree.proofs.Skipped.{name_is}
use Rattle.dw_tree.proofs.attrs.Attrs.name.Goals as goal

pub returns : goal.returns
returns c =
    let it = c.self.inside in
    let q = c.in_ok-pair.pair.now in
    let items : it.pairs.now ≡ q ∷ c.in_ok-pair.field-0-1.now = search rules in
    sym (name_is it.ctx it.at it.heads.now it.pool.now it.pairs.now q c.in_ok-pair.field-0-1.now items c.self.invariant) ∙ ap first_name c.self.view_is
