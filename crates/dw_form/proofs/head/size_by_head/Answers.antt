use Rattle.std.proofs.Common.{arith}
use Rattle.dw_form.specs.Lent.{attribute_of}
use Rattle.dw_form.specs.Pieces.{constant_in}
use Rattle.dw_form.specs.HeadSize.{size_by_head}
use Rattle.dw_form.proofs.head.size_by_head.Goals as goal

pub returns : goal.returns
returns c k form start fits own =
    let a = attribute_of c.args.value.now in
    omega (arith, size_by_head k form (constant_in a.value) a start fits, own, c.content_count.ensures.exact, c.finder_size.ensures, c.saturating_sub.ensures)
