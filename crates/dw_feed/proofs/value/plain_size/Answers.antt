use Rattle.std.proofs.Common.{Some, sym, ap, ◌∙◌, arith}
use Rattle.std.specs.Prelude.{option_map}
use Rattle.dw_leb.specs.Field.{are_bytes}
use Rattle.dw_leb.specs.View.{uleb_of, sleb_of}
use Rattle.dw_abbrev.specs.PairView.{pair_of}
use Rattle.dw_feed.specs.PlainValues.{plain_there, unsigned_there, signed_there}
use Rattle.dw_feed.proofs.ToldValues.{told_fixed, told_present, told_constant}
use Rattle.dw_feed.proofs.value.plain_size.Goals as goal

pub returns-then-size-lim-clause-plain : goal.returns-then-size-lim-clause-plain
returns-then-size-lim-clause-plain c =
    plain_there c.args.context (pair_of c.args.pair.now) c.args.b.now c.args.lim c.in-Some-Fixed.size (are_bytes c.args.b.now (λ k. omega (arith, c.type_inv.b k)))
    (told_fixed c.args.context (pair_of c.args.pair.now) c.in-Some-Fixed.size (sym c.in-Some-Fixed.ensures.shape ∙ ap Some c.in-Some-Fixed.field-0-is)) c.if-size-b.true c.if-size-lim.true

pub returns-in-Some-Present-clause-plain : goal.returns-in-Some-Present-clause-plain
returns-in-Some-Present-clause-plain c =
    plain_there c.args.context (pair_of c.args.pair.now) c.args.b.now c.args.lim 0 (are_bytes c.args.b.now (λ k. omega (arith, c.type_inv.b k)))
    (told_present c.args.context (pair_of c.args.pair.now) (sym c.in-Some-Present.ensures.shape ∙ ap Some c.in-Some-Present.field-0-is)) (omega arith) (omega arith)

pub returns-in-Some-clause-plain : goal.returns-in-Some-clause-plain
returns-in-Some-clause-plain c =
    plain_there c.args.context (pair_of c.args.pair.now) c.args.b.now c.args.lim 0 (are_bytes c.args.b.now (λ k. omega (arith, c.type_inv.b k)))
    (told_constant c.args.context (pair_of c.args.pair.now) (sleb_of c.in-Some.field-0) (sym c.in-Some-Implicit.ensures.shape ∙ ap Some c.in-Some-Implicit.field-0-is) (ap (option_map sleb_of) c.in-Some.is)) (omega arith) (omega arith)

pub returns-in-Ok-clause-plain : goal.returns-in-Ok-clause-plain
returns-in-Ok-clause-plain c =
    unsigned_there c.args.context (pair_of c.args.pair.now) c.args.b.now c.args.lim c.in-Ok.number.width (uleb_of c.in-Ok.number) (are_bytes c.args.b.now (λ k. omega (arith, c.type_inv.b k))) (sym c.in-Some-Uleb.ensures.shape ∙ ap Some c.in-Some-Uleb.field-0-is) c.in-Ok.ensures.exact

pub returns-in-Ok-signed-clause-plain : goal.returns-in-Ok-signed-clause-plain
returns-in-Ok-signed-clause-plain c =
    signed_there c.args.context (pair_of c.args.pair.now) c.args.b.now c.args.lim c.in-Ok-signed.number.width (sleb_of c.in-Ok-signed.number) (are_bytes c.args.b.now (λ k. omega (arith, c.type_inv.b k))) (sym c.in-Some-Sleb.ensures.shape ∙ ap Some c.in-Some-Sleb.field-0-is) c.in-Ok-signed.ensures.exact
