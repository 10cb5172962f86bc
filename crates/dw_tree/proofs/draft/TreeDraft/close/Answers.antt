use Rattle.std.proofs.Common.{◌≡◌, ◌≢◌, ℕ, ◌+◌, ◌<◌, ◌^◌, List, [], ◌∷◌, ◌++◌, length, get_or, set, refl, sym, ap, ap₂, subst, ◌∙◌, arith, Option, None}
use Rattle.dw_leb.specs.Number.{Unsigned, uleb}
use Rattle.dw_leb.specs.View.{uleb_of}
use Rattle.dw_leb.specs.DecideNumber.{uleb_fits}
use Rattle.dw_abbrev.specs.Table.{zero_of}
use Rattle.dw_tree.specs.declared.row.Unfinished.{Unfinished}
use Rattle.dw_tree.specs.declared.row.Row.{Row}
use Rattle.dw_tree.specs.Row.{null_row}
use Rattle.dw_tree.specs.Flat.{with_end}
use Rattle.dw_tree.specs.Place.{Spot, Place, spot_after}
use Rattle.dw_tree.specs.DraftInvariant.{AreLists, IsSpelled}
use Rattle.dw_tree.specs.Steps.{Growing, closed_at, end_of}
use Rattle.dw_tree.proofs.Lists.{lists_closed, as_many_open, place_is}
use Rattle.dw_tree.proofs.Spells.{open_inside, after-push}
use Rattle.dw_tree.specs.Counts.{closed_counted}
use Rattle.dw_tree.proofs.Limits.{few_open}
use Rattle.dw_tree.proofs.WriteLemmas.{no_items}
use Rattle.dw_tree.proofs.Begins.{idle_is, partial_none, given_is, view_free, place_given, ends_here, draft_of, counted_with}
use Rattle.dw_tree.proofs.draft.TreeDraft.close.Goals as goal

pub overflow_cast-depth : goal.overflow_cast-depth
overflow_cast-depth c = omega (arith, few_open c.self.inside.nested.items c.self.invariant.given.lists.deep, c.self.inside.nested.ok.0, c.len.ensures)

pub overflow_add-depth : goal.overflow_add-depth
overflow_add-depth c = omega (arith, few_open c.self.inside.nested.items c.self.invariant.given.lists.deep, c.self.inside.nested.ok.0, c.len.ensures)

pub index-row-requires : goal.index-row-requires
index-row-requires c =
    let a = c.self.inside in
    let idle : a.unfinished ≡ None = idle_is a (ap (λ (v : Growing). v.place.unfinished) c.self.view_is ∙ c.requires.free) in
    let free = partial_none a c.self.invariant idle in
    let g = given_is a free c.self.invariant in
    let view = sym (view_free a c.self.invariant free) ∙ c.self.view_is in
    let k = a.context in
    let t = a.table.value in
    let rows = a.rows.items in
    let hs = a.heads.items in
    let pool = a.pool.items in
    let l : AreLists k t a.start rows hs pool a.nested.items None a.here g.tokens g.values = subst (λ (o : Option Unfinished). AreLists k t a.start rows hs pool a.nested.items o a.here g.tokens g.values) idle g.lists in
    rw (c.reserve.ensures.len, a.rows.ok.0) (open_inside rows g.tokens c.pop.new.self.items c.in-Some.at (subst (IsSpelled rows g.tokens) c.in-Some.ensures.items l.is_spelled))

pub index_mut-requires : goal.index_mut-requires
index_mut-requires c =
    let a = c.self.inside in
    let idle : a.unfinished ≡ None = idle_is a (ap (λ (v : Growing). v.place.unfinished) c.self.view_is ∙ c.requires.free) in
    let free = partial_none a c.self.invariant idle in
    let g = given_is a free c.self.invariant in
    let view = sym (view_free a c.self.invariant free) ∙ c.self.view_is in
    let k = a.context in
    let t = a.table.value in
    let rows = a.rows.items in
    let hs = a.heads.items in
    let pool = a.pool.items in
    let l : AreLists k t a.start rows hs pool a.nested.items None a.here g.tokens g.values = subst (λ (o : Option Unfinished). AreLists k t a.start rows hs pool a.nested.items o a.here g.tokens g.values) idle g.lists in
    rw (c.reserve.ensures.len, a.rows.ok.0) (open_inside rows g.tokens c.pop.new.self.items c.in-Some.at (subst (IsSpelled rows g.tokens) c.in-Some.ensures.items l.is_spelled))

pub invariant_of-self-in-Some : goal.invariant_of-self-in-Some
invariant_of-self-in-Some c =
    let a = c.self.inside in
    let idle : a.unfinished ≡ None = idle_is a (ap (λ (v : Growing). v.place.unfinished) c.self.view_is ∙ c.requires.free) in
    let free = partial_none a c.self.invariant idle in
    let g = given_is a free c.self.invariant in
    let view = sym (view_free a c.self.invariant free) ∙ c.self.view_is in
    let k = a.context in
    let t = a.table.value in
    let rows = a.rows.items in
    let hs = a.heads.items in
    let pool = a.pool.items in
    let l : AreLists k t a.start rows hs pool a.nested.items None a.here g.tokens g.values = subst (λ (o : Option Unfinished). AreLists k t a.start rows hs pool a.nested.items o a.here g.tokens g.values) idle g.lists in
    let at = c.in-Some.at in
    let old : Row = c.index-row.result.now in
    let end = c.len-end.result + 1 in
    let q : Row = c.with_end.result in
    let rows' = c.push_reserved.new.self.items in
    let open' = c.pop.new.self.items in
    let w = c.args.null.width in
    let r : Row = c.null_row.result in
    let here : old ≡ get_or rows at old = c.index-row.ensures ∙ ap (λ (rs : List Row). get_or rs at old) c.reserve.ensures.items in
    let long : end ≡ length rows + 1 = ap (λ (n : ℕ). n + 1) (c.len-end.ensures ∙ (c.reserve.ensures.len ∙ a.rows.ok.0)) in
    let same : q ≡ with_end (get_or rows at old) (length rows + 1) = c.with_end.ensures ∙ ap₂ with_end here long in
    let null_is : uleb_of c.args.null ≡ zero_of w = ap (λ (n : ℕ). record { value = n; width = w }) c.requires.zero in
    let null_fits : uleb.Fits (zero_of w) = subst (λ (u : Unsigned). uleb.Fits u) null_is (uleb_fits (uleb_of c.args.null) c.args.null.fits) in
    let er : rows' ≡ set rows at q ++ r ∷ [] = c.push_reserved.ensures.items ∙ ap (λ (rs : List Row). set rs at q ++ r ∷ []) c.reserve.ensures.items in
    let s = lists_closed k t a.start rows rows' hs pool a.nested.items open' a.here g.tokens g.values l at w q r old c.in-Some.ensures.items er c.null_row.ensures.kind c.null_row.ensures.width c.null_row.ensures.offset (c.null_row.ensures.depth ∙ ap (λ (n : ℕ). n + 1) (c.len.ensures ∙ a.nested.ok.0)) null_fits same (a.here + w) refl in
    draft_of _ free (rw idle (record {
      context_fits = g.context_fits;
      tokens = g.tokens ++ null_row w ∷ [];
      values = [];
      lists = s;
      room = record { row = tt; place = tt };
      near = omega (arith, subst (λ (x : Growing). end_of x + w < 2 ^ 63) (sym c.self.view_is) c.requires.near, ends_here a c.self.invariant);
      counted = closed_counted t g.tokens w a.entries a.asked g.lists.is_spelled.spelled s.is_spelled.spelled (counted_with a pool g None idle);
    }))

pub returns-in-Some-clause-ok : goal.returns-in-Some-clause-ok
returns-in-Some-clause-ok c =
    let a = c.self.inside in
    let idle : a.unfinished ≡ None = idle_is a (ap (λ (v : Growing). v.place.unfinished) c.self.view_is ∙ c.requires.free) in
    let free = partial_none a c.self.invariant idle in
    let g = given_is a free c.self.invariant in
    let view = sym (view_free a c.self.invariant free) ∙ c.self.view_is in
    let k = a.context in
    let t = a.table.value in
    let rows = a.rows.items in
    let hs = a.heads.items in
    let pool = a.pool.items in
    let l : AreLists k t a.start rows hs pool a.nested.items None a.here g.tokens g.values = subst (λ (o : Option Unfinished). AreLists k t a.start rows hs pool a.nested.items o a.here g.tokens g.values) idle g.lists in
    let at = c.in-Some.at in
    let old : Row = c.index-row.result.now in
    let end = c.len-end.result + 1 in
    let q : Row = c.with_end.result in
    let rows' = c.push_reserved.new.self.items in
    let open' = c.pop.new.self.items in
    let w = c.args.null.width in
    let r : Row = c.null_row.result in
    let here : old ≡ get_or rows at old = c.index-row.ensures ∙ ap (λ (rs : List Row). get_or rs at old) c.reserve.ensures.items in
    let long : end ≡ length rows + 1 = ap (λ (n : ℕ). n + 1) (c.len-end.ensures ∙ (c.reserve.ensures.len ∙ a.rows.ok.0)) in
    let same : q ≡ with_end (get_or rows at old) (length rows + 1) = c.with_end.ensures ∙ ap₂ with_end here long in
    let null_is : uleb_of c.args.null ≡ zero_of w = ap (λ (n : ℕ). record { value = n; width = w }) c.requires.zero in
    let null_fits : uleb.Fits (zero_of w) = subst (λ (u : Unsigned). uleb.Fits u) null_is (uleb_fits (uleb_of c.args.null) c.args.null.fits) in
    let er : rows' ≡ set rows at q ++ r ∷ [] = c.push_reserved.ensures.items ∙ ap (λ (rs : List Row). set rs at q ++ r ∷ []) c.reserve.ensures.items in
    let s = lists_closed k t a.start rows rows' hs pool a.nested.items open' a.here g.tokens g.values l at w q r old c.in-Some.ensures.items er c.null_row.ensures.kind c.null_row.ensures.width c.null_row.ensures.offset (c.null_row.ensures.depth ∙ ap (λ (n : ℕ). n + 1) (c.len.ensures ∙ a.nested.ok.0)) null_fits same (a.here + w) refl in
    let build : Place → Growing = λ p. record { context = k; table = t; start = a.start; place = p } in
    ap build (sym (place_given a.partial k t rows' hs pool a.unfinished free))
    ∙ rw idle (ap build (place_is k t a.start rows' hs pool open' None (a.here + w) (g.tokens ++ null_row w ∷ []) [] s)
    ∙ ap (λ (x : Spot). build (record { spot = x; unfinished = None })) (after-push g.tokens (null_row w))
    ∙ ap (closed_at w) view)

-- an entry is open
pub returns-in_default-clause-ok : goal.returns-in_default-clause-ok
returns-in_default-clause-ok c =
    let a = c.self.inside in
    let idle : a.unfinished ≡ None = idle_is a (ap (λ (v : Growing). v.place.unfinished) c.self.view_is ∙ c.requires.free) in
    let free = partial_none a c.self.invariant idle in
    let g = given_is a free c.self.invariant in
    let view = sym (view_free a c.self.invariant free) ∙ c.self.view_is in
    let k = a.context in
    let t = a.table.value in
    let rows = a.rows.items in
    let hs = a.heads.items in
    let pool = a.pool.items in
    let l : AreLists k t a.start rows hs pool a.nested.items None a.here g.tokens g.values = subst (λ (o : Option Unfinished). AreLists k t a.start rows hs pool a.nested.items o a.here g.tokens g.values) idle g.lists in
    let many = as_many_open k t a.start rows hs pool a.nested.items None a.here g.tokens g.values l in
    let inside : (spot_after g.tokens).above ≢ [] = subst (λ (w : Growing). w.place.spot.above ≢ []) (sym view) c.requires.inside in
    absurd (inside (no_items (spot_after g.tokens).above (omega (arith, many, c.in_default.ensures.cases, a.nested.ok.0))))
