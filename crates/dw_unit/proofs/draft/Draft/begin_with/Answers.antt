use Rattle.std.proofs.Common.{◌≡◌, ◌+◌, ℕ, length, take, false, None, Some, sym, ap, subst, ◌∙◌, arith}
use Rattle.std.proofs.lemmas.List.{length-take-le}
use Rattle.dw_leb.specs.Number.{Unsigned}
use Rattle.dw_leb.specs.View.{uleb_of}
use Rattle.dw_abbrev.specs.Table.{declared}
use Rattle.dw_tree.specs.FirstGiven.{given_if, size_if}
use Rattle.dw_tree.specs.Steps.{Growing, begun_at, end_of, with_values, ArePlain, SpellsFirst}
use Rattle.dw_header.specs.Header.{context_of}
use Rattle.dw_unit.specs.Draft.{Drafted, tree_in, begun, given_each, drafted_size, passes_limit, IsOnlyRoot, IsDrafted}
use Rattle.dw_unit.proofs.DraftLemmas.{same_kept, within, limit_near}
use Rattle.dw_unit.proofs.EachValue.{begun_kept_if, either_if, on_if, each_same, values_place}
use Rattle.dw_unit.proofs.draft.Draft.begin_with.Goals as goal

pub begin_with-requires-clause-spelled : goal.begin_with-requires-clause-spelled
begin_with-requires-clause-spelled c =
    let a = c.self.inside in
    let bytes = take c.args.size c.args.bytes.now in
    let own = subst (λ (x : Drafted). SpellsFirst (context_of x.header) c.args.decl.now.pairs c.args.count bytes) (sym c.self.view_is) c.requires.spelled in
    subst (λ (g : Growing). SpellsFirst g.context c.args.decl.now.pairs c.args.count bytes) (sym c.self.invariant.tree_is) own

pub begin_with-requires-clause-near : goal.begin_with-requires-clause-near
begin_with-requires-clause-near c =
    let a = c.self.inside in
    let d : Drafted = record { header = a.header; table = a.tree.table; place = a.tree.place; padding = a.padding.items } in
    let more = c.args.code.width + c.args.size in
    let room = within d more (ap (λ (x : Drafted). passes_limit x more) c.self.view_is ∙ c.requires.short) in
    omega (arith, room, limit_near a.header.format, ap end_of c.self.invariant.tree_is)

pub invariant_of-self : goal.invariant_of-self
invariant_of-self c =
    let a = c.self.inside in
    let d : Drafted = record { header = a.header; table = a.tree.table; place = a.tree.place; padding = a.padding.items } in
    let i : IsDrafted d (tree_in d) a.padded = subst (λ (g : Growing). IsDrafted d g a.padded) c.self.invariant.tree_is c.self.invariant in
    let new : Growing = c.begin_with.new.self in
    let code : Unsigned = uleb_of c.args.code in
    let decl = c.args.decl.now in
    let vs = c.requires.spelled.0 in
    let bytes = take c.args.size c.args.bytes.now in
    let size = length-take-le c.args.size c.args.bytes.now c.requires.within in
    let known : declared d.table code.value ≡ Some decl = ap (λ (x : Drafted). declared x.table code.value) c.self.view_is ∙ c.requires.known in
    let free : d.place.unfinished ≡ None = ap (λ (x : Drafted). x.place.unfinished) c.self.view_is ∙ c.requires.free in
    let only : IsOnlyRoot d.place.spot = subst (λ (x : Drafted). IsOnlyRoot x.place.spot) (sym c.self.view_is) c.requires.only in
    let plain : ArePlain (context_of d.header) decl.pairs vs bytes = subst (λ (x : Drafted). ArePlain (context_of x.header) decl.pairs vs bytes) (sym c.self.view_is) c.requires.spelled.2 in
    let below : ArePlain a.tree.context decl.pairs vs bytes = subst (λ (g : Growing). ArePlain g.context decl.pairs vs bytes) (sym c.self.invariant.tree_is) plain in
    let short : passes_limit d (code.width + length bytes) ≡ false = ap (λ (n : ℕ). passes_limit d (code.width + n)) size ∙ (ap (λ (x : Drafted). passes_limit x (c.args.code.width + c.args.size)) c.self.view_is ∙ c.requires.short) in
    either_if c.begin_with.result (λ all. new ≡ with_values (given_if all vs) (begun_at code a.tree)) (new ≡ a.tree) _ (c.begin_with.ensures.ok vs c.requires.spelled.1 below) c.begin_with.ensures.err
    (λ all e. subst (λ (g : Growing). IsDrafted (record { header = a.header; table = g.table; place = g.place; padding = a.padding.items }) g a.padded)
    (sym (e ∙ ap (λ (g : Growing). with_values (given_if all vs) (begun_at code g)) c.self.invariant.tree_is ∙ values_place (given_if all vs) (begun code d)))
    (subst (λ (x : Drafted). IsDrafted x (tree_in (given_each (given_if all vs) (begun code d))) a.padded) (sym (each_same (given_if all vs) (begun code d)))
    (begun_kept_if d a.padded i code decl known free only all vs bytes plain short).drafted))
    (λ e. same_kept d a.tree a.padded c.self.invariant new e)

pub returns-clause-ok : goal.returns-clause-ok
returns-clause-ok c vs many h =
    let a = c.self.inside in
    let d : Drafted = record { header = a.header; table = a.tree.table; place = a.tree.place; padding = a.padding.items } in
    let new : Growing = c.begin_with.new.self in
    let code : Unsigned = uleb_of c.args.code in
    let decl = c.args.decl.now in
    let bytes = take c.args.size c.args.bytes.now in
    let plain : ArePlain (context_of d.header) decl.pairs vs bytes = subst (λ (x : Drafted). ArePlain (context_of x.header) decl.pairs vs bytes) (sym c.self.view_is) h in
    let below : ArePlain a.tree.context decl.pairs vs bytes = subst (λ (g : Growing). ArePlain g.context decl.pairs vs bytes) (sym c.self.invariant.tree_is) plain in
    on_if c.begin_with.result (λ all. new ≡ with_values (given_if all vs) (begun_at code a.tree)) _ (c.begin_with.ensures.ok vs many below)
    (λ all e. ap (λ (g : Growing). record { header = a.header; table = g.table; place = g.place; padding = a.padding.items }) (e ∙ ap (λ (g : Growing). with_values (given_if all vs) (begun_at code g)) c.self.invariant.tree_is ∙ values_place (given_if all vs) (begun code d))
    ∙ each_same (given_if all vs) (begun code d)
    ∙ ap (λ (x : Drafted). given_each (given_if all vs) (begun code x)) c.self.view_is)

pub returns-clause-size : goal.returns-clause-size
returns-clause-size c =
    let a = c.self.inside in
    let d : Drafted = record { header = a.header; table = a.tree.table; place = a.tree.place; padding = a.padding.items } in
    let i : IsDrafted d (tree_in d) a.padded = subst (λ (g : Growing). IsDrafted d g a.padded) c.self.invariant.tree_is c.self.invariant in
    let new : Growing = c.begin_with.new.self in
    let code : Unsigned = uleb_of c.args.code in
    let decl = c.args.decl.now in
    let vs = c.requires.spelled.0 in
    let bytes = take c.args.size c.args.bytes.now in
    let size = length-take-le c.args.size c.args.bytes.now c.requires.within in
    let known : declared d.table code.value ≡ Some decl = ap (λ (x : Drafted). declared x.table code.value) c.self.view_is ∙ c.requires.known in
    let free : d.place.unfinished ≡ None = ap (λ (x : Drafted). x.place.unfinished) c.self.view_is ∙ c.requires.free in
    let only : IsOnlyRoot d.place.spot = subst (λ (x : Drafted). IsOnlyRoot x.place.spot) (sym c.self.view_is) c.requires.only in
    let plain : ArePlain (context_of d.header) decl.pairs vs bytes = subst (λ (x : Drafted). ArePlain (context_of x.header) decl.pairs vs bytes) (sym c.self.view_is) c.requires.spelled.2 in
    let below : ArePlain a.tree.context decl.pairs vs bytes = subst (λ (g : Growing). ArePlain g.context decl.pairs vs bytes) (sym c.self.invariant.tree_is) plain in
    let short : passes_limit d (code.width + length bytes) ≡ false = ap (λ (n : ℕ). passes_limit d (code.width + n)) size ∙ (ap (λ (x : Drafted). passes_limit x (c.args.code.width + c.args.size)) c.self.view_is ∙ c.requires.short) in
    on_if c.begin_with.result (λ all. new ≡ with_values (given_if all vs) (begun_at code a.tree)) _ (c.begin_with.ensures.ok vs c.requires.spelled.1 below)
    (λ all e. ap (λ (g : Growing). drafted_size (record { header = a.header; table = g.table; place = g.place; padding = a.padding.items })) (e ∙ ap (λ (g : Growing). with_values (given_if all vs) (begun_at code g)) c.self.invariant.tree_is ∙ values_place (given_if all vs) (begun code d))
    ∙ ap drafted_size (each_same (given_if all vs) (begun code d))
    ∙ ((begun_kept_if d a.padded i code decl known free only all vs bytes plain short).size
    ∙ (ap (λ (n : ℕ). drafted_size d + (code.width + size_if all n)) size ∙ ap (λ (x : Drafted). drafted_size x + (c.args.code.width + size_if all c.args.size)) c.self.view_is)))
