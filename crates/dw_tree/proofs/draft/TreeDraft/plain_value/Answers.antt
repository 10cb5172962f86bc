use Rattle.std.proofs.Common.{ℕ, ◌+◌, ◌<◌, ◌^◌, Some, Option, [], ◌∷◌, ◌++◌, length, sym, ap, subst, ◌∙◌, refl, arith, vec_len, option_map}
use Rattle.dw_leb.specs.View.{uleb_of}
use Rattle.dw_form.specs.Form.{Attribute}
use Rattle.dw_tree.specs.declared.row.Unfinished.{Unfinished}
use Rattle.dw_tree.specs.Place.{Place, spot_after}
use Rattle.dw_tree.specs.Steps.{Growing, end_of, IsPlainNext, with_value, value_at, partial_in}
use Rattle.dw_tree.specs.DraftInvariant.{AreLists, IsUnfinished, entry_with}
use Rattle.dw_tree.proofs.Lists.{place_stood}
use Rattle.dw_tree.specs.Counts.{given_counted}
use Rattle.dw_tree.proofs.Limits.{few_open}
use Rattle.dw_tree.proofs.Begins.{free_is, given_is, view_free, place_given, ends_here, draft_of, counted_with, of_some, settled_room}
use Rattle.dw_tree.proofs.Plain.{plain_given}
use Rattle.dw_tree.proofs.draft.TreeDraft.plain_value.Goals as goal

pub count_value-requires-clause-level : goal.count_value-requires-clause-level
count_value-requires-clause-level c = omega (arith, few_open c.self.inside.nested.items c.self.invariant.given.lists.deep, c.self.inside.nested.ok.0)

pub invariant_of-self-in-Some : goal.invariant_of-self-in-Some
invariant_of-self-in-Some c =
    let a = c.self.inside in
    let free = free_is a c.self.invariant (ap (λ (v : Growing). partial_in v.place.unfinished) c.self.view_is ∙ c.requires.between) in
    let g = given_is a free c.self.invariant in
    let view = sym (view_free a c.self.invariant free) ∙ c.self.view_is in
    let k = a.context in
    let t = a.table.value in
    let rows = a.rows.items in
    let hs = a.heads.items in
    let pool = a.pool.items in
    let r = c.in-Some._unfinished in
    let v : Attribute = c.requires.spelled.0 in
    let q = c.count_value in
    let bytes = c.args.spelling.now in
    let l : AreLists k t a.start rows hs pool a.nested.items (Some r) a.here g.tokens g.values = subst (λ (o : Option Unfinished). AreLists k t a.start rows hs pool a.nested.items o a.here g.tokens g.values) c.in-Some.is g.lists in
    let next : IsPlainNext k t (Some (entry_with g.values r)) v bytes = subst (λ (o : Option Unfinished). IsPlainNext k t (option_map (entry_with g.values) o) v bytes) c.in-Some.is (subst (λ (w : Growing). IsPlainNext w.context w.table w.place.unfinished v bytes) (sym view) c.requires.spelled.1) in
    let s = plain_given k t a.start rows hs pool a.nested.items a.here g.tokens g.values r l v next.fits next.plain bytes next.spelled
    q.new.rows.items c.append_few.new.list.items q.new.nested.items q.new.unfinished (vec_len a.nested + 1) (vec_len a.rows) (a.here + length bytes) c.in_ok-append_few.ensures.items refl a.rows.ok.0 (ap (λ (i : ℕ). i + 1) a.nested.ok.0) (of_some _ c.in-Some.is q.ensures.rows) (of_some _ c.in-Some.is q.ensures.nested) (of_some _ c.in-Some.is q.ensures.unfinished) in
    let u : IsUnfinished k t a.start g.tokens g.values r = l.are_given in
    draft_of _ free (record {
      context_fits = g.context_fits;
      tokens = s.tokens;
      values = s.values;
      lists = s.lists;
      room = settled_room q.new.unfinished _ _ _ _ q.ensures.room q.ensures.open_room;
      near = omega (arith, subst (λ (w : Growing). end_of w + length bytes < 2 ^ 63) (sym c.self.view_is) c.requires.near, ends_here a c.self.invariant);
      counted = given_counted t (spot_after g.tokens) (uleb_of r.code) u.entry.decl u.entry.declared g.values a.entries a.asked (counted_with a pool g (Some r) c.in-Some.is) (g.values ++ v ∷ []) _ s.place;
    })

pub returns-in_ok-append_few-clause-ok : goal.returns-in_ok-append_few-clause-ok
returns-in_ok-append_few-clause-ok c v h =
    let a = c.self.inside in
    let free = free_is a c.self.invariant (ap (λ (v : Growing). partial_in v.place.unfinished) c.self.view_is ∙ c.requires.between) in
    let g = given_is a free c.self.invariant in
    let view = sym (view_free a c.self.invariant free) ∙ c.self.view_is in
    let k = a.context in
    let t = a.table.value in
    let r = c.in-Some._unfinished in
    let q = c.count_value in
    let bytes = c.args.spelling.now in
    let l : AreLists k t a.start a.rows.items a.heads.items a.pool.items a.nested.items (Some r) a.here g.tokens g.values = subst (λ (o : Option Unfinished). AreLists k t a.start a.rows.items a.heads.items a.pool.items a.nested.items o a.here g.tokens g.values) c.in-Some.is g.lists in
    let next : IsPlainNext k t (Some (entry_with g.values r)) v bytes = subst (λ (o : Option Unfinished). IsPlainNext k t (option_map (entry_with g.values) o) v bytes) c.in-Some.is (subst (λ (w : Growing). IsPlainNext w.context w.table w.place.unfinished v bytes) (sym view) h) in
    let s = plain_given k t a.start a.rows.items a.heads.items a.pool.items a.nested.items a.here g.tokens g.values r l v next.fits next.plain bytes next.spelled
    q.new.rows.items c.append_few.new.list.items q.new.nested.items q.new.unfinished (vec_len a.nested + 1) (vec_len a.rows) (a.here + length bytes) c.in_ok-append_few.ensures.items refl a.rows.ok.0 (ap (λ (i : ℕ). i + 1) a.nested.ok.0) (of_some _ c.in-Some.is q.ensures.rows) (of_some _ c.in-Some.is q.ensures.nested) (of_some _ c.in-Some.is q.ensures.unfinished) in
    let build : Place → Growing = λ p. record { context = k; table = t; start = a.start; place = p } in
    ap build (sym (place_given a.partial k t q.new.rows.items c.append_few.new.list.items a.pool.items q.new.unfinished free))
    ∙ (ap build (place_stood k t a.start q.new.rows.items c.append_few.new.list.items a.pool.items q.new.nested.items q.new.unfinished (a.here + length bytes) _ s)
    ∙ (ap (λ (o : Option Unfinished). value_at v (record { context = k; table = t; start = a.start; place = record { spot = spot_after g.tokens; unfinished = option_map (entry_with g.values) a.unfinished } }) (option_map (entry_with g.values) o)) (sym c.in-Some.is)
    ∙ ap (with_value v) view))
