use Rattle.std.proofs.Common.{◌≡◌, ◌<◌, Some, ◌∙◌, sym, arith}
use Rattle.dw_section.specs.Lookup.{entry}
use Rattle.dw_ctype.specs.declared.kind.Kind.TheVariants.{Qualified}
use Rattle.dw_ctype.specs.declared.typed.Typed.TheVariants.{Entry}
use Rattle.dw_ctype.specs.Types.{kind_of, type_of}
use Rattle.dw_ctype.proofs.Typing.{under_next}
use Rattle.dw_ctype.proofs.typed.+under.Goals as goal

pub returns : goal.returns
returns t c =
    let items = c.args.section.now.items in
    let e = c.args.entry.now in
    let some : 0 < c.args.steps = omega (arith, c.if-steps-eq0.false) in
    let k : kind_of e ≡ Qualified c.in-Qualified.field-0 = cc in
    let y : type_of items c.args.item e ≡ Entry c.in-Entry.id = cc in
    let x : entry items c.in-Entry.id ≡ Some c.in_ok-target.target = sym c.entry.ensures ∙ c.in_ok-target.was in
    c.under.ensures ∙ sym (under_next items c.args.steps c.args.item e c.in_ok-target.target c.in-Qualified.field-0 c.in-Entry.id some k y x)
