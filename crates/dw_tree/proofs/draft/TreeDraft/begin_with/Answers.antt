use Rattle.std.proofs.Common.{◌≡◌, ℕ, ◌+◌, ◌<◌, ◌^◌, None, Some, IsSome, Option, [], length, take, refl, sym, ap, subst, ◌∙◌, arith, true, vec_len, vec_capacity}
use Rattle.std.specs.Prelude.{IfSome}
use Rattle.std.proofs.lemmas.List.{length-map, length-take-le}
use Rattle.std.proofs.lemmas.Bool.{ne_eqb}
use Rattle.dw_leb.specs.DecideNumber.{uleb_fits}
use Rattle.dw_leb.specs.View.{uleb_of}
use Rattle.dw_abbrev.specs.PairView.{pair_of}
use Rattle.dw_abbrev.specs.Table.{Declaration, declared}
use Rattle.dw_abbrev.specs.FewPairs.{FewPairs}
use Rattle.dw_tree.specs.declared.row.Unfinished.{Unfinished}
use Rattle.dw_tree.specs.Tree.{nesting, declared_pairs}
use Rattle.dw_tree.specs.Place.{Place, spot_after}
use Rattle.dw_tree.specs.Steps.{Growing, begun_at, with_values, ArePlain, end_of}
use Rattle.dw_tree.specs.Completed.{settled_rows, settled_open}
use Rattle.dw_tree.specs.DraftInvariant.{AreLists}
use Rattle.dw_tree.proofs.Lists.{place_stood}
use Rattle.dw_tree.proofs.Plains.{begun_with, values_settle, plain_few}
use Rattle.dw_tree.specs.Counts.{begun_counted, few_declared}
use Rattle.dw_tree.proofs.Limits.{few_open}
use Rattle.dw_tree.proofs.Begins.{idle_is, partial_none, given_is, view_free, place_given, ends_here, draft_of, counted_with, counts_room, settled_room}
use Rattle.dw_tree.proofs.draft.TreeDraft.begin_with.Goals as goal

pub settle-left-requires-clause-level : goal.settle-left-requires-clause-level
settle-left-requires-clause-level c = omega (arith, few_open c.self.inside.nested.items c.self.invariant.given.lists.deep, c.self.inside.nested.ok.0, c.make_place.ensures.len)

pub overflow_add-self : goal.overflow_add-self
overflow_add-self c =
    let a = c.self.inside in
    let idle = idle_is a (ap (λ (v : Growing). v.place.unfinished) c.self.view_is ∙ c.requires.free) in
    omega (arith, (counts_room a c.self.invariant idle (subst FewPairs c.deref.ensures c.pairs_are_few.ensures)).0)

pub overflow_add-self-2 : goal.overflow_add-self-2
overflow_add-self-2 c =
    let a = c.self.inside in
    let idle = idle_is a (ap (λ (v : Growing). v.place.unfinished) c.self.view_is ∙ c.requires.free) in
    let few = subst FewPairs c.deref.ensures c.pairs_are_few.ensures in
    let known : declared a.table.value c.args.code.value ≡ Some c.args.decl.now = ap (λ (v : Growing). declared v.table c.args.code.value) c.self.view_is ∙ c.requires.known in
    let count = ap length (sym c.pairs.ensures) ∙ length-map c.pairs.result.now pair_of in
    omega (arith, (counts_room a c.self.invariant idle few).1, few_declared a.table.value few c.args.code.value, ap (λ (o : Option Declaration). length (declared_pairs o)) known, count)

pub invariant_of-self-2 : goal.invariant_of-self-2
invariant_of-self-2 c =
    let a = c.self.inside in
    let idle : a.unfinished ≡ None = idle_is a (ap (λ (v : Growing). v.place.unfinished) c.self.view_is ∙ c.requires.free) in
    let free = partial_none a c.self.invariant idle in
    let g = given_is a free c.self.invariant in
    let view = sym (view_free a c.self.invariant free) ∙ c.self.view_is in
    let k = a.context in
    let t = a.table.value in
    let l : AreLists k t a.start a.rows.items a.heads.items a.pool.items a.nested.items None a.here g.tokens g.values = subst (λ (o : Option Unfinished). AreLists k t a.start a.rows.items a.heads.items a.pool.items a.nested.items o a.here g.tokens g.values) idle g.lists in
    let q = c.settle-left in
    let d = c.args.decl.now in
    let r : Unfinished = record { code = c.args.code; offset = a.here; first = c.len-first.result; given = c.args.count; count = length c.pairs.result.now; children = c.has_children-children.result; pool = c.len.result } in
    let known : declared t c.args.code.value ≡ Some d = ap (λ (v : Growing). declared v.table c.args.code.value) c.self.view_is ∙ c.requires.known in
    let count : length d.pairs ≡ length c.pairs.result.now = ap length (sym c.pairs.ensures) ∙ length-map c.pairs.result.now pair_of in
    let level : length (spot_after g.tokens).above < nesting = subst (λ (w : Growing). length w.place.spot.above < nesting) (sym view) c.requires.level in
    let bytes = take c.args.size c.args.bytes.now in
    let size = length-take-le c.args.size c.args.bytes.now c.requires.within in
    let plain : ArePlain k d.pairs c.requires.spelled.0 bytes = subst (λ (v : Growing). ArePlain v.context d.pairs c.requires.spelled.0 bytes) (sym c.self.view_is) c.requires.spelled.2 in
    let n = vec_len c.make_place.new.nested + 1 in
    let m = vec_len c.reserve.new.self in
    let s = begun_with k t a.start a.rows.items a.heads.items a.pool.items a.nested.items a.here g.tokens g.values l r d known (sym c.has_children-children.ensures) count refl (c.len-first.ensures ∙ a.heads.ok.0) (c.len.ensures ∙ a.pool.ok.0)
    (uleb_fits (uleb_of c.args.code) c.args.code.fits) (ne_eqb c.args.code.value 0 (omega (arith, c.requires.some))) level c.requires.spelled.0 bytes plain (sym c.requires.spelled.1)
    q.new.rows.items q.new.nested.items c.leave.new.unfinished c.append_front.new.list.items n m (a.here + (c.args.code.width + c.args.size)) c.in_default.ensures.items (omega (arith, size)) (c.reserve.ensures.len ∙ a.rows.ok.0) (ap (λ (i : ℕ). i + 1) (c.make_place.ensures.len ∙ a.nested.ok.0))
    (q.ensures.rows ∙ ap (settled_rows r n) c.reserve.ensures.items) (q.ensures.nested ∙ ap (settled_open r m) c.make_place.ensures.items) (c.leave.ensures ∙ q.ensures.unfinished) in
    draft_of _ free (record {
      context_fits = g.context_fits;
      tokens = s.tokens;
      values = s.values;
      lists = s.lists;
      room = settled_room c.leave.new.unfinished _ _ _ _ (λ some. q.ensures.room (subst IsSome c.leave.ensures some)) (subst (λ (o : Option Unfinished). IfSome o (λ (r : Unfinished). r.children ≡ true → vec_len q.new.nested < vec_capacity q.new.nested)) (sym c.leave.ensures) q.ensures.open_room);
      near = omega (arith, subst (λ (w : Growing). end_of w + (c.args.code.width + c.args.size) < 2 ^ 63) (sym c.self.view_is) c.requires.near, ends_here a c.self.invariant);
      counted = begun_counted t (spot_after g.tokens) (uleb_of r.code) d known c.requires.spelled.0 a.entries a.asked r.count _ s.place count (counted_with a a.pool.items g None idle);
    })

pub returns-clause-ok : goal.returns-clause-ok
returns-clause-ok c vs many plain0 =
    let a = c.self.inside in
    let idle : a.unfinished ≡ None = idle_is a (ap (λ (v : Growing). v.place.unfinished) c.self.view_is ∙ c.requires.free) in
    let free = partial_none a c.self.invariant idle in
    let g = given_is a free c.self.invariant in
    let view = sym (view_free a c.self.invariant free) ∙ c.self.view_is in
    let k = a.context in
    let t = a.table.value in
    let l : AreLists k t a.start a.rows.items a.heads.items a.pool.items a.nested.items None a.here g.tokens g.values = subst (λ (o : Option Unfinished). AreLists k t a.start a.rows.items a.heads.items a.pool.items a.nested.items o a.here g.tokens g.values) idle g.lists in
    let q = c.settle-left in
    let d = c.args.decl.now in
    let r : Unfinished = record { code = c.args.code; offset = a.here; first = c.len-first.result; given = c.args.count; count = length c.pairs.result.now; children = c.has_children-children.result; pool = c.len.result } in
    let known : declared t c.args.code.value ≡ Some d = ap (λ (v : Growing). declared v.table c.args.code.value) c.self.view_is ∙ c.requires.known in
    let count : length d.pairs ≡ length c.pairs.result.now = ap length (sym c.pairs.ensures) ∙ length-map c.pairs.result.now pair_of in
    let level : length (spot_after g.tokens).above < nesting = subst (λ (w : Growing). length w.place.spot.above < nesting) (sym view) c.requires.level in
    let bytes = take c.args.size c.args.bytes.now in
    let size = length-take-le c.args.size c.args.bytes.now c.requires.within in
    let plain : ArePlain k d.pairs vs bytes = subst (λ (v : Growing). ArePlain v.context d.pairs vs bytes) (sym c.self.view_is) plain0 in
    let n = vec_len c.make_place.new.nested + 1 in
    let m = vec_len c.reserve.new.self in
    let s = begun_with k t a.start a.rows.items a.heads.items a.pool.items a.nested.items a.here g.tokens g.values l r d known (sym c.has_children-children.ensures) count refl (c.len-first.ensures ∙ a.heads.ok.0) (c.len.ensures ∙ a.pool.ok.0)
    (uleb_fits (uleb_of c.args.code) c.args.code.fits) (ne_eqb c.args.code.value 0 (omega (arith, c.requires.some))) level vs bytes plain (sym many)
    q.new.rows.items q.new.nested.items c.leave.new.unfinished c.append_front.new.list.items n m (a.here + (c.args.code.width + c.args.size)) c.in_default.ensures.items (omega (arith, size)) (c.reserve.ensures.len ∙ a.rows.ok.0) (ap (λ (i : ℕ). i + 1) (c.make_place.ensures.len ∙ a.nested.ok.0))
    (q.ensures.rows ∙ ap (settled_rows r n) c.reserve.ensures.items) (q.ensures.nested ∙ ap (settled_open r m) c.make_place.ensures.items) (c.leave.ensures ∙ q.ensures.unfinished) in
    let build : Place → Growing = λ p. record { context = k; table = t; start = a.start; place = p } in
    ap build (sym (place_given a.partial k t q.new.rows.items c.append_front.new.list.items a.pool.items c.leave.new.unfinished free))
    ∙ (ap build (place_stood k t a.start q.new.rows.items c.append_front.new.list.items a.pool.items q.new.nested.items c.leave.new.unfinished (a.here + (c.args.code.width + c.args.size)) _ s)
    ∙ (sym (values_settle k t a.start (spot_after g.tokens) (uleb_of c.args.code) d known vs [] (omega (arith, plain_few k d.pairs vs bytes plain)))
    ∙ ap (λ (w : Growing). with_values vs (begun_at (uleb_of c.args.code) w)) view))
