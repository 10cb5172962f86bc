use Rattle.std.proofs.Common.{◌≡◌, ◌+◌, List, true, false, None, Some, map, refl, sym, ap, subst, ◌∙◌, arith}
use Rattle.std.specs.Prelude.{IsTrue, ◌↔◌}
use Rattle.std.proofs.lemmas.Bool.{le-leb}
use Rattle.dw_leb.specs.Number.{Unsigned}
use Rattle.dw_leb.specs.View.{uleb_of}
use Rattle.dw_form.specs.declared.shape.Ctx.{Ctx}
use Rattle.dw_form.specs.Lent.{attribute_of}
use Rattle.dw_abbrev.specs.PairView.{pair_of}
use Rattle.dw_abbrev.specs.Table.{Pair, Table, declared}
use Rattle.dw_tree.specs.Tree.{values, declared_pairs}
use Rattle.dw_unit.specs.declared.refusal.Refusal.TheVariants.{TooLong}
use Rattle.dw_header.specs.Header.{context_of}
use Rattle.dw_unit.specs.Draft.{Drafted, drafted_size, size_limit}
use Rattle.dw_unit.specs.Build.{Building, draft_of, building_of, is_known, is_too_long, entry_size, ValuesFit, EntryRefused}
use Rattle.dw_unit.proofs.DraftLemmas.{not_long}
use Rattle.dw_unit.proofs.OpenLemmas.{not_more, known_is, refused_by, size_is, same_draft}
use Rattle.dw_unit.proofs.builder.UnitBuilder.judged.Goals as goal

pub returns-then-is_longer-clause-refused : goal.returns-then-is_longer-clause-refused
returns-then-is_longer-clause-refused c =
    let d : Drafted = c.self.inside.draft in
    let b : Building = building_of d in
    let code : Unsigned = uleb_of c.args.code in
    let vs = map attribute_of c.args.values.now in
    let known : is_known b.table code ≡ true = known_is b.table code c.in-Some.decl.now c.if-code-eq0.false (ap (λ (t : Table). declared t code.value) (sym c.table.ensures) ∙ sym c.in-Some.ensures.value) in
    let pairs : map pair_of c.pairs-pairs.result.now ≡ declared_pairs (declared b.table code.value) = c.pairs-pairs.ensures ∙ (ap declared_pairs c.in-Some.ensures.value ∙ ap (λ (t : Table). declared_pairs (declared t code.value)) c.table.ensures) in
    let same : c.context-ctx.result ≡ context_of b.header = c.context-ctx.ensures.context ∙ ap context_of c.header-header.ensures in
    let fits : ValuesFit b code vs = subst (λ (qs : List Pair). (values (context_of b.header) qs).Fits vs) pairs (subst (λ (k : Ctx). (values k (map pair_of c.pairs-pairs.result.now)).Fits vs) same (c.values_fit.ensures.0 c.if-not-values_fit.false)) in
    let size = size_is b code vs c.context-ctx.result (map pair_of c.pairs-pairs.result.now) same pairs in
    let limit : c.size_limit.result ≡ size_limit b.header.format = c.size_limit.ensures ∙ ap size_limit (c.format.ensures ∙ ap (λ h. h.format) c.header-header.ensures) in
    let here = ap drafted_size (same_draft d c.self.invariant) in
    let iff : IsTrue true ↔ ValuesFit b code vs = (λ _. fits, λ _. refl) in
    let much = c.is_longer.ensures.0 c.if-is_longer.true in
    let long : is_too_long b (entry_size b code vs) ≡ true = le-leb (size_limit b.header.format) (drafted_size (draft_of b) + entry_size b code vs) (omega (arith, size, limit, much, here, c.size.ensures)) in
    (λ e. absurd cc, subst (λ (x : Building). EntryRefused x code vs (Some TooLong)) c.self.view_is (refused_by b code vs true (Some TooLong) known iff (rw long refl)))

pub returns-clause-short : goal.returns-clause-short
returns-clause-short c =
    let d : Drafted = c.self.inside.draft in
    let b : Building = building_of d in
    let code : Unsigned = uleb_of c.args.code in
    let vs = map attribute_of c.args.values.now in
    let known : is_known b.table code ≡ true = known_is b.table code c.in-Some.decl.now c.if-code-eq0.false (ap (λ (t : Table). declared t code.value) (sym c.table.ensures) ∙ sym c.in-Some.ensures.value) in
    let pairs : map pair_of c.pairs-pairs.result.now ≡ declared_pairs (declared b.table code.value) = c.pairs-pairs.ensures ∙ (ap declared_pairs c.in-Some.ensures.value ∙ ap (λ (t : Table). declared_pairs (declared t code.value)) c.table.ensures) in
    let same : c.context-ctx.result ≡ context_of b.header = c.context-ctx.ensures.context ∙ ap context_of c.header-header.ensures in
    let fits : ValuesFit b code vs = subst (λ (qs : List Pair). (values (context_of b.header) qs).Fits vs) pairs (subst (λ (k : Ctx). (values k (map pair_of c.pairs-pairs.result.now)).Fits vs) same (c.values_fit.ensures.0 c.if-not-values_fit.false)) in
    let size = size_is b code vs c.context-ctx.result (map pair_of c.pairs-pairs.result.now) same pairs in
    let limit : c.size_limit.result ≡ size_limit b.header.format = c.size_limit.ensures ∙ ap size_limit (c.format.ensures ∙ ap (λ h. h.format) c.header-header.ensures) in
    let here = ap drafted_size (same_draft d c.self.invariant) in
    let iff : IsTrue true ↔ ValuesFit b code vs = (λ _. fits, λ _. refl) in
    let few = not_more c.is_longer.result _ _ c.if-is_longer.false c.is_longer.ensures.1 in
    let short : is_too_long b (entry_size b code vs) ≡ false = not_long (draft_of b) (entry_size b code vs) (omega (arith, size, limit, few, here, c.size.ensures)) in
    subst (λ (x : Building). is_too_long x (entry_size x code vs) ≡ false) c.self.view_is short

pub returns-clause-allowed : goal.returns-clause-allowed
returns-clause-allowed c =
    let d : Drafted = c.self.inside.draft in
    let b : Building = building_of d in
    let code : Unsigned = uleb_of c.args.code in
    let vs = map attribute_of c.args.values.now in
    let known : is_known b.table code ≡ true = known_is b.table code c.in-Some.decl.now c.if-code-eq0.false (ap (λ (t : Table). declared t code.value) (sym c.table.ensures) ∙ sym c.in-Some.ensures.value) in
    let pairs : map pair_of c.pairs-pairs.result.now ≡ declared_pairs (declared b.table code.value) = c.pairs-pairs.ensures ∙ (ap declared_pairs c.in-Some.ensures.value ∙ ap (λ (t : Table). declared_pairs (declared t code.value)) c.table.ensures) in
    let same : c.context-ctx.result ≡ context_of b.header = c.context-ctx.ensures.context ∙ ap context_of c.header-header.ensures in
    let fits : ValuesFit b code vs = subst (λ (qs : List Pair). (values (context_of b.header) qs).Fits vs) pairs (subst (λ (k : Ctx). (values k (map pair_of c.pairs-pairs.result.now)).Fits vs) same (c.values_fit.ensures.0 c.if-not-values_fit.false)) in
    let size = size_is b code vs c.context-ctx.result (map pair_of c.pairs-pairs.result.now) same pairs in
    let limit : c.size_limit.result ≡ size_limit b.header.format = c.size_limit.ensures ∙ ap size_limit (c.format.ensures ∙ ap (λ h. h.format) c.header-header.ensures) in
    let here = ap drafted_size (same_draft d c.self.invariant) in
    let iff : IsTrue true ↔ ValuesFit b code vs = (λ _. fits, λ _. refl) in
    let few = not_more c.is_longer.result _ _ c.if-is_longer.false c.is_longer.ensures.1 in
    let short : is_too_long b (entry_size b code vs) ≡ false = not_long (draft_of b) (entry_size b code vs) (omega (arith, size, limit, few, here, c.size.ensures)) in
    subst (λ (x : Building). EntryRefused x code vs None) c.self.view_is (refused_by b code vs true None known iff (rw short refl))
