use Rattle.std.proofs.Common.{◌≡◌, ◌≤◌, length, sym, ap, arith}
use Rattle.std.proofs.lemmas.List.{length-take-le}
use Rattle.dw_form.specs.Form.{Attribute}
use Rattle.dw_form.specs.HeadFront.{front_size}
use Rattle.dw_form.specs.Lent.{attribute_of}
use Rattle.dw_header.specs.Header.{context_of}
use Rattle.dw_unit.specs.Draft.{Drafted, value_bytes}
use Rattle.dw_unit.proofs.DraftLemmas.{next_front_short}
use Rattle.dw_unit.proofs.draft.Draft.spelled_value.Goals as goal

pub slice_bounds-front-end : goal.slice_bounds-front-end
slice_bounds-front-end c =
    let d : Drafted = c.args.self.now in
    let v : Attribute = attribute_of c.args.value.now in
    let n : length c.args.spelling.now ≡ length (value_bytes d v) = ap length c.requires.spelled in
    let short : front_size v (length (value_bytes d v)) ≤ length (value_bytes d v) = next_front_short (context_of d.header) d.table d.place.unfinished v c.requires.fits in
    let le : c.front_len.result ≤ length c.args.spelling.now = omega (arith, c.front_len.ensures, ap (front_size v) n, n, short) in
    sym (length-take-le c.front_len.result c.args.spelling.now le)
