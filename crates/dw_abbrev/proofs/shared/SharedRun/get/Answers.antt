use Rattle.std.proofs.Common.{◌≡◌, ◌∙◌, List, drop, sym, ap, arith}
use Rattle.std.specs.Prelude.{slice_get}
use Rattle.dw_abbrev.specs.Table.{Declaration, declared_in}
use Rattle.dw_abbrev.proofs.PlaceLemmas.{none_dropped, passed_over, found_from, looked_at}
use Rattle.dw_abbrev.proofs.shared.SharedRun.get.Goals as goal

pub returns-in_err-index : goal.returns-in_err-index
returns-in_err-index c =
    let ds = c.deref.result.now in
    let view : drop c.self.inside.from ds ≡ c.args.self.now = rw c.deref.ensures c.self.view_is in
    rw c.from_residual.ensures (sym (ap (λ (xs : List Declaration). declared_in xs c.args.code) (sym view) ∙ none_dropped c.self.inside.from ds c.args.code c.in_err-index.ensures.none))

pub returns-then-index-self : goal.returns-then-index-self
returns-then-index-self c =
    let ds = c.deref.result.now in
    let view : drop c.self.inside.from ds ≡ c.args.self.now = rw c.deref.ensures c.self.view_is in
    sym (ap (λ (xs : List Declaration). declared_in xs c.args.code) (sym view)
    ∙ passed_over c.self.inside.from c.in_ok-index.index ds c.args.code c.in_ok-index.ensures.apart c.in_ok-index.ensures.found c.if-index-self.true)

pub returns : goal.returns
returns c =
    let ds = c.deref.result.now in
    let view : drop c.self.inside.from ds ≡ c.args.self.now = rw c.deref.ensures c.self.view_is in
    let there = found_from c.self.inside.from c.in_ok-index.index ds c.args.code c.in_ok-index.ensures.apart c.in_ok-index.ensures.found (omega (arith, c.if-index-self.false)) in
    looked_at c.as_slice.result.now c.in_ok-index.index c.get.result c.get.ensures.lookup.0 c.get.ensures.lookup.1 ∙ (ap (λ (xs : List Declaration). slice_get xs c.in_ok-index.index) (c.as_slice.ensures ∙ (c.deref-2.ensures ∙ sym c.deref.ensures)) ∙ sym there ∙ ap (λ (xs : List Declaration). declared_in xs c.args.code) view)
