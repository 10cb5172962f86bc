use Rattle.std.proofs.Common.{◌≡◌, ◌∙◌, ℕ, List, [], length, Some, refl, sym, subst, ap}
use Rattle.std.proofs.lemmas.Option.{slice_get_read}
use Rattle.dw_leb.specs.Number.{Unsigned}
use Rattle.dw_abbrev.specs.Table.{Declaration, declared_in}
use Rattle.dw_abbrev.specs.Places.{AreApart}
use Rattle.dw_abbrev.proofs.PlaceLemmas.{apart_at}
use Rattle.dw_abbrev.proofs.decls.Decls.numbered.Goals as goal

pub returns-then-code : goal.returns-then-code
returns-then-code c =
    let ds : List Declaration = c.as_slice.result.now in
    let d : Declaration = c.in_ok-decl.decl.now in
    let at = slice_get_read ds (length ds) _ d refl c.in_ok-decl.ensures.lookup.3.0 c.in_ok-decl.ensures.lookup.1 in
    let apart = subst (λ (xs : List Declaration). AreApart xs []) (sym c.as_slice.ensures.value) c.self.invariant.apart in
    let own : declared_in ds d.code.value ≡ Some d = apart_at ds [] _ d apart at in
    let code : d.code.value ≡ c.args.code = ap (λ (u : Unsigned). u.value) (sym c.code.ensures) ∙ c.if-code.true in
    let whole : ds ≡ c.args.self.now = c.as_slice.ensures.value ∙ c.self.view_is in
    subst (λ (n : ℕ). declared_in c.args.self.now n ≡ Some d) code (subst (λ (xs : List Declaration). declared_in xs d.code.value ≡ Some d) whole own)
