use Rattle.std.proofs.Common.{◌≡◌, ◌∙◌, ◌+◌, ◌<◌, ◌==◌, ℕ, Bool, true, false, List, Option, Some, None, Bor, option_map, refl, sym, ap, arith}
use Rattle.std.specs.Option.{option_eq}
use Rattle.std.specs.Str.{bytes_eq}
use Rattle.std.proofs.lemmas.Bool.Decides.{Decides-eqb}
use Rattle.std.proofs.lemmas.Slice.Eq.{bytes_eq-Decides}
use Rattle.dw_tool.specs.Names.{attribute_names, name_in}
use Rattle.dw_tool.proofs.Named.{none_left}
use Rattle.dw_tool.proofs.names.attribute_named.Goals as goal

-- what isn't equal isn't the same text
differs : (name : Bor (List ℕ)) (o : Option (Bor (List ℕ))) → option_eq (λ a b. bytes_eq a.now b.now) o (Some name) ≡ false → option_map (λ it. it.now) o ≡ Some name.now → ⊥
differs name None other is = cc
differs name (Some it) other is =
    let text : it.now ≡ name.now = cc in
    let same : bytes_eq it.now name.now ≡ true = (bytes_eq-Decides it.now name.now).1 text in
    let bad : true ≡ false = sym same ∙ other in cc

pub loop-number-init : goal.loop-number-init
loop-number-init c = λ n below is. omega (arith, below)

pub loop-number-preserved : goal.loop-number-preserved
loop-number-preserved c = λ n below is. go n is (n == c.loop-number.number) refl below
  where
    go : (n : ℕ) → name_in attribute_names n ≡ Some c.args.name.now → (t : Bool) → (n == c.loop-number.number) ≡ t → n < c.loop-number.number + 1 → ⊥
    go n is true here below =
        let at : name_in attribute_names c.loop-number.number ≡ Some c.args.name.now = ap (name_in attribute_names) (sym ((Decides-eqb n c.loop-number.number).0 here)) ∙ is in
        differs c.args.name c.attribute_name.result (sym c.eq.ensures ∙ c.if-eq.false) (c.attribute_name.ensures ∙ at)
    go n is false elsewhere below =
        let other : (n ≡ c.loop-number.number) → ⊥ = λ e. let bad : true ≡ false = sym ((Decides-eqb n c.loop-number.number).1 e) ∙ elsewhere in cc in
        c.loop-number.invariant n (omega (arith, below, other)) is

pub returns-clause-exact : goal.returns-clause-exact
returns-clause-exact c = none_left c.args.name.now (λ n below is. c.loop-number.invariant n (omega (arith, below, c.loop-number-test.false)) is)
