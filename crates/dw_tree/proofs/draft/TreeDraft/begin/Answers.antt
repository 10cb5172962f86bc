use Rattle.std.proofs.Common.{◌≡◌, ℕ, ◌+◌, ◌<◌, ◌^◌, None, Some, Option, [], length, refl, sym, ap, subst, ◌∙◌, arith, vec_len}
use Rattle.std.proofs.lemmas.List.{length-map}
use Rattle.std.proofs.lemmas.Bool.{ne_eqb}
use Rattle.dw_leb.specs.DecideNumber.{uleb_fits}
use Rattle.dw_leb.specs.View.{uleb_of}
use Rattle.dw_abbrev.specs.PairView.{pair_of}
use Rattle.dw_abbrev.specs.Table.{Declaration, declared}
use Rattle.dw_abbrev.specs.FewPairs.{FewPairs}
use Rattle.dw_tree.specs.declared.row.Unfinished.{Unfinished}
use Rattle.dw_tree.specs.Tree.{nesting, declared_pairs}
use Rattle.dw_tree.specs.Place.{Place, spot_after}
use Rattle.dw_tree.specs.Steps.{Growing, begun_at, end_of}
use Rattle.dw_tree.specs.Completed.{settled_rows, settled_open}
use Rattle.dw_tree.specs.DraftInvariant.{AreLists}
use Rattle.dw_tree.proofs.Lists.{entry_begun, place_stood}
use Rattle.dw_tree.specs.Counts.{begun_counted, few_declared}
use Rattle.dw_tree.proofs.Limits.{few_open}
use Rattle.dw_tree.proofs.Begins.{idle_is, partial_none, given_is, view_free, place_given, ends_here, draft_of, counted_with, counts_room, settled_room}
use Rattle.dw_tree.proofs.draft.TreeDraft.begin.Goals as goal

pub settle-self-inside-requires-clause-level : goal.settle-self-inside-requires-clause-level
settle-self-inside-requires-clause-level c = omega (arith, few_open c.self.inside.nested.items c.self.invariant.given.lists.deep, c.self.inside.nested.ok.0, c.make_place.ensures.len)

pub overflow_add-self : goal.overflow_add-self
overflow_add-self c =
    let a = c.self.inside in
    let idle = idle_is a (ap (λ (v : Growing). v.place.unfinished) c.self.view_is ∙ c.requires.free) in
    omega (arith, (counts_room a c.self.invariant idle (subst FewPairs c.deref-in-Some.ensures c.pairs_are_few.ensures)).0)

pub overflow_add-self-in-Some : goal.overflow_add-self-in-Some
overflow_add-self-in-Some c =
    let a = c.self.inside in
    let idle = idle_is a (ap (λ (v : Growing). v.place.unfinished) c.self.view_is ∙ c.requires.free) in
    let few = subst FewPairs c.deref-in-Some.ensures c.pairs_are_few.ensures in
    let known : declared a.table.value c.args.code.value ≡ Some c.in-Some.decl.now = ap (λ t. declared t c.args.code.value) (sym c.deref.ensures) ∙ sym c.in-Some.ensures.value in
    let count = ap length (sym c.pairs.ensures) ∙ length-map c.pairs.result.now pair_of in
    omega (arith, (counts_room a c.self.invariant idle few).1, few_declared a.table.value few c.args.code.value, ap (λ (o : Option Declaration). length (declared_pairs o)) known, count)

pub invariant_of-self-in-Some : goal.invariant_of-self-in-Some
invariant_of-self-in-Some c =
    let a = c.self.inside in
    let idle : a.unfinished ≡ None = idle_is a (ap (λ (v : Growing). v.place.unfinished) c.self.view_is ∙ c.requires.free) in
    let free = partial_none a c.self.invariant idle in
    let g = given_is a free c.self.invariant in
    let view = sym (view_free a c.self.invariant free) ∙ c.self.view_is in
    let k = a.context in
    let t = a.table.value in
    let rows = a.rows.items in
    let hs = a.heads.items in
    let pool = a.pool.items in
    let l : AreLists k t a.start rows hs pool a.nested.items None a.here g.tokens g.values = subst (λ (o : Option Unfinished). AreLists k t a.start rows hs pool a.nested.items o a.here g.tokens g.values) idle g.lists in
    let q = c.settle-self-inside in
    let d = c.in-Some.decl.now in
    let r : Unfinished = record { code = c.args.code; offset = a.here; first = c.len.result; given = 0; count = length c.pairs.result.now; children = c.has_children-children.result; pool = c.len-in-Some.result } in
    let known : declared t c.args.code.value ≡ Some d = ap (λ t. declared t c.args.code.value) (sym c.deref.ensures) ∙ sym c.in-Some.ensures.value in
    let count : length d.pairs ≡ length c.pairs.result.now = ap length (sym c.pairs.ensures) ∙ length-map c.pairs.result.now pair_of in
    let level : length (spot_after g.tokens).above < nesting = subst (λ (w : Growing). length w.place.spot.above < nesting) (sym view) c.requires.level in
    let n = vec_len c.make_place.new.nested + 1 in
    let m = vec_len c.make_row.new.rows in
    let s = entry_begun k t a.start rows hs pool a.nested.items a.here g.tokens g.values l r d known (sym c.has_children-children.ensures) count refl refl (c.len.ensures ∙ a.heads.ok.0) (c.len-in-Some.ensures ∙ a.pool.ok.0)
    (uleb_fits (uleb_of c.args.code) c.args.code.fits) (ne_eqb c.args.code.value 0 (omega (arith, c.requires.some))) level (a.here + c.args.code.width) refl
    q.new.rows.items q.new.nested.items q.result n m (c.make_row.ensures.len ∙ a.rows.ok.0) (ap (λ (i : ℕ). i + 1) (c.make_place.ensures.len ∙ a.nested.ok.0))
    (q.ensures.rows ∙ ap (settled_rows r n) c.make_row.ensures.items) (q.ensures.nested ∙ ap (settled_open r m) c.make_place.ensures.items) q.ensures.unfinished in
    draft_of _ free (record {
      context_fits = g.context_fits;
      tokens = s.tokens;
      values = s.values;
      lists = s.lists;
      room = settled_room q.result _ _ _ _ q.ensures.room q.ensures.open_room;
      near = omega (arith, subst (λ (w : Growing). end_of w + c.args.code.width < 2 ^ 63) (sym c.self.view_is) c.requires.near, ends_here a c.self.invariant);
      counted = begun_counted t (spot_after g.tokens) (uleb_of r.code) d known [] a.entries a.asked r.count _ s.place count (counted_with a pool g None idle);
    })

pub returns-in_ok-make_place-clause-ok : goal.returns-in_ok-make_place-clause-ok
returns-in_ok-make_place-clause-ok c =
    let a = c.self.inside in
    let idle : a.unfinished ≡ None = idle_is a (ap (λ (v : Growing). v.place.unfinished) c.self.view_is ∙ c.requires.free) in
    let free = partial_none a c.self.invariant idle in
    let g = given_is a free c.self.invariant in
    let view = sym (view_free a c.self.invariant free) ∙ c.self.view_is in
    let k = a.context in
    let t = a.table.value in
    let rows = a.rows.items in
    let hs = a.heads.items in
    let pool = a.pool.items in
    let l : AreLists k t a.start rows hs pool a.nested.items None a.here g.tokens g.values = subst (λ (o : Option Unfinished). AreLists k t a.start rows hs pool a.nested.items o a.here g.tokens g.values) idle g.lists in
    let q = c.settle-self-inside in
    let d = c.in-Some.decl.now in
    let r : Unfinished = record { code = c.args.code; offset = a.here; first = c.len.result; given = 0; count = length c.pairs.result.now; children = c.has_children-children.result; pool = c.len-in-Some.result } in
    let known : declared t c.args.code.value ≡ Some d = ap (λ t. declared t c.args.code.value) (sym c.deref.ensures) ∙ sym c.in-Some.ensures.value in
    let count : length d.pairs ≡ length c.pairs.result.now = ap length (sym c.pairs.ensures) ∙ length-map c.pairs.result.now pair_of in
    let level : length (spot_after g.tokens).above < nesting = subst (λ (w : Growing). length w.place.spot.above < nesting) (sym view) c.requires.level in
    let n = vec_len c.make_place.new.nested + 1 in
    let m = vec_len c.make_row.new.rows in
    let s = entry_begun k t a.start rows hs pool a.nested.items a.here g.tokens g.values l r d known (sym c.has_children-children.ensures) count refl refl (c.len.ensures ∙ a.heads.ok.0) (c.len-in-Some.ensures ∙ a.pool.ok.0)
    (uleb_fits (uleb_of c.args.code) c.args.code.fits) (ne_eqb c.args.code.value 0 (omega (arith, c.requires.some))) level (a.here + c.args.code.width) refl
    q.new.rows.items q.new.nested.items q.result n m (c.make_row.ensures.len ∙ a.rows.ok.0) (ap (λ (i : ℕ). i + 1) (c.make_place.ensures.len ∙ a.nested.ok.0))
    (q.ensures.rows ∙ ap (settled_rows r n) c.make_row.ensures.items) (q.ensures.nested ∙ ap (settled_open r m) c.make_place.ensures.items) q.ensures.unfinished in
    let build : Place → Growing = λ p. record { context = k; table = t; start = a.start; place = p } in
    ap build (sym (place_given a.partial k t q.new.rows.items hs pool q.result free))
    ∙ (ap build (place_stood k t a.start q.new.rows.items hs pool q.new.nested.items q.result (a.here + c.args.code.width) _ s)
    ∙ ap (begun_at (uleb_of c.args.code)) view)
