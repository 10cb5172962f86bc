use Rattle.std.proofs.Common.{◌≡◌, ℕ, ◌+◌, ◌*◌, ◌-◌, List, length, take, drop, map, sym, ap, subst, ◌∙◌, arith, length-drop}
use Rattle.std.proofs.lemmas.List.{take_all, drop-map}
use Rattle.dw_abbrev.specs.PairView.{pair_of}
use Rattle.dw_abbrev.specs.Prefix.{AreTold, prefix_size}
use Rattle.dw_abbrev.specs.declared.pair.Pair.{Pair as RustPair}
use Rattle.dw_tree.proofs.gather.told_front.Goals as goal

pub returns : goal.returns
returns c =
    let f = c.prefix-prefix.result in
    let own = c.prefix-prefix.ensures in
    let pairs : List RustPair = c.pairs.result.now in
    let size : prefix_size c.args.ctx f ≡ c.size-size.result = sym (c.size-size.ensures ∙ ap (λ (n : ℕ). f.bytes + (f.addresses * c.args.ctx.address_size + f.offsets * n)) c.offset_size.ensures) in
    let all : take (length pairs - f.count) (drop f.count pairs) ≡ drop f.count pairs = take_all (length pairs - f.count) (drop f.count pairs) (omega (arith, length-drop f.count pairs)) in (
      f.count,
      own.within,
      subst (AreTold c.args.ctx (take f.count c.args.decl.now.pairs)) size (own.told c.args.ctx),
      ap (map pair_of) all ∙ sym (drop-map pair_of f.count pairs) ∙ ap (drop f.count) c.pairs.ensures,
    )
