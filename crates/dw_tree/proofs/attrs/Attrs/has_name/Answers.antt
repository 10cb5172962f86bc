use Rattle.std.proofs.Common.{◌≡◌, ◌∙◌, false, ap, map, sym}
use Rattle.std.specs.List.{list_any}
use Rattle.dw_abbrev.specs.PairView.{pair_of}
use Rattle.dw_tree.specs.RowHeads.{values_at}
use Rattle.dw_tree.specs.Lent.{first_named}
use Rattle.dw_tree.proofs.Skipped.{has_name, none_named}
use Rattle.dw_tree.proofs.attrs.Attrs.has_name.Goals as goal

pub returns : goal.returns
returns c missing =
    let it = c.self.inside in
    let none : list_any (has_name c.args.name) it.pairs.now ≡ false = sym c.any_named.ensures ∙ missing in
    sym (ap (first_named c.args.name) c.self.view_is) ∙ none_named c.args.name it.ctx it.at it.pairs.now (values_at it.ctx (map pair_of it.pairs.now) it.heads.now it.pool.now) none
