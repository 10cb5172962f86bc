use Rattle.std.proofs.Common.{◌≡◌, ℕ, ◌+◌, ◌<◌, ◌^◌, Some, Option, List, [], ◌∷◌, ◌++◌, length, sym, ap, subst, ◌∙◌, arith, vec_len, option_map}
use Rattle.dw_leb.specs.View.{uleb_of}
use Rattle.dw_form.specs.Form.{Attribute}
use Rattle.dw_form.specs.Lent.{attribute_of}
use Rattle.dw_form.specs.Head.{finder}
use Rattle.dw_form.specs.HeadFront.{front_bytes}
use Rattle.dw_tree.specs.declared.row.Unfinished.{Unfinished}
use Rattle.dw_tree.specs.Place.{Place, spot_after}
use Rattle.dw_tree.specs.Steps.{Growing, end_of, NextFits, next_bytes, next_front, next_pairs, first_bytes, FirstFits, with_value, value_at, partial_in}
use Rattle.dw_tree.specs.DraftInvariant.{AreLists, IsUnfinished, entry_with}
use Rattle.dw_tree.proofs.Lists.{value_given, place_stood}
use Rattle.dw_tree.specs.Counts.{given_counted}
use Rattle.dw_tree.proofs.Limits.{few_open}
use Rattle.dw_tree.proofs.Begins.{free_is, given_is, view_free, place_given, ends_here, draft_of, counted_with, of_some, settled_room}
use Rattle.dw_tree.proofs.draft.TreeDraft.value.Goals as goal

pub count_value-requires-clause-level : goal.count_value-requires-clause-level
count_value-requires-clause-level c = omega (arith, few_open c.self.inside.nested.items c.self.invariant.given.lists.deep, c.self.inside.nested.ok.0)

pub invariant_of-self-in-Some : goal.invariant_of-self-in-Some
invariant_of-self-in-Some c =
    let a = c.self.inside in
    let free = free_is a c.self.invariant (ap (λ (v : Growing). partial_in v.place.unfinished) c.self.view_is ∙ c.requires.between) in
    let g = given_is a free c.self.invariant in
    let view = sym (view_free a c.self.invariant free) ∙ c.self.view_is in
    let k = a.context in
    let t = a.table.value in
    let rows = a.rows.items in
    let hs = a.heads.items in
    let pool = a.pool.items in
    let r = c.in-Some._unfinished in
    let v : Attribute = attribute_of c.args.value.now in
    let q = c.count_value in
    let l : AreLists k t a.start rows hs pool a.nested.items (Some r) a.here g.tokens g.values = subst (λ (o : Option Unfinished). AreLists k t a.start rows hs pool a.nested.items o a.here g.tokens g.values) c.in-Some.is g.lists in
    let bytes = first_bytes k (next_pairs t (entry_with g.values r)) v in
    let fits : FirstFits k (next_pairs t (entry_with g.values r)) v = subst (λ (o : Option Unfinished). NextFits k t (option_map (entry_with g.values) o) v) c.in-Some.is (subst (λ (w : Growing). NextFits w.context w.table w.place.unfinished v) (sym view) c.requires.fits) in
    let front : c.args.front.now ≡ front_bytes v bytes = subst (λ (o : Option Unfinished). c.args.front.now ≡ next_front k t (option_map (entry_with g.values) o) v) c.in-Some.is (subst (λ (w : Growing). c.args.front.now ≡ next_front w.context w.table w.place.unfinished v) (sym view) c.requires.front) in
    let size : c.args.size ≡ length bytes = subst (λ (o : Option Unfinished). c.args.size ≡ length (next_bytes k t (option_map (entry_with g.values) o) v)) c.in-Some.is (subst (λ (w : Growing). c.args.size ≡ length (next_bytes w.context w.table w.place.unfinished v)) (sym view) c.requires.size) in
    let n = vec_len a.nested + 1 in
    let m = vec_len a.rows in
    let s = value_given k t a.start rows hs pool a.nested.items a.here g.tokens g.values r l v fits c.put_head.new.heads.items c.put_head.new.pool.items
    (c.in_ok-put_head.ensures.heads ∙ ap (λ (b : List ℕ). hs ++ (b ++ finder (length pool) v.value)) front) c.in_ok-put_head.ensures.pool c.in_ok-put_head.ensures.small (a.here + c.args.size) (ap (λ (i : ℕ). a.here + i) size)
    q.new.rows.items q.new.nested.items q.new.unfinished n m a.rows.ok.0 (ap (λ (i : ℕ). i + 1) a.nested.ok.0) (of_some _ c.in-Some.is q.ensures.rows) (of_some _ c.in-Some.is q.ensures.nested) (of_some _ c.in-Some.is q.ensures.unfinished) in
    let u : IsUnfinished k t a.start g.tokens g.values r = l.are_given in
    draft_of _ free (record {
      context_fits = g.context_fits;
      tokens = s.tokens;
      values = s.values;
      lists = s.lists;
      room = settled_room q.new.unfinished _ _ _ _ q.ensures.room q.ensures.open_room;
      near = omega (arith, subst (λ (w : Growing). end_of w + c.args.size < 2 ^ 63) (sym c.self.view_is) c.requires.near, ends_here a c.self.invariant);
      counted = given_counted t (spot_after g.tokens) (uleb_of r.code) u.entry.decl u.entry.declared g.values a.entries a.asked (counted_with a pool g (Some r) c.in-Some.is) (g.values ++ v ∷ []) _ s.place;
    })

pub returns-in_ok-put_head-clause-ok : goal.returns-in_ok-put_head-clause-ok
returns-in_ok-put_head-clause-ok c =
    let a = c.self.inside in
    let free = free_is a c.self.invariant (ap (λ (v : Growing). partial_in v.place.unfinished) c.self.view_is ∙ c.requires.between) in
    let g = given_is a free c.self.invariant in
    let view = sym (view_free a c.self.invariant free) ∙ c.self.view_is in
    let k = a.context in
    let t = a.table.value in
    let rows = a.rows.items in
    let hs = a.heads.items in
    let pool = a.pool.items in
    let r = c.in-Some._unfinished in
    let v : Attribute = attribute_of c.args.value.now in
    let q = c.count_value in
    let l : AreLists k t a.start rows hs pool a.nested.items (Some r) a.here g.tokens g.values = subst (λ (o : Option Unfinished). AreLists k t a.start rows hs pool a.nested.items o a.here g.tokens g.values) c.in-Some.is g.lists in
    let bytes = first_bytes k (next_pairs t (entry_with g.values r)) v in
    let fits : FirstFits k (next_pairs t (entry_with g.values r)) v = subst (λ (o : Option Unfinished). NextFits k t (option_map (entry_with g.values) o) v) c.in-Some.is (subst (λ (w : Growing). NextFits w.context w.table w.place.unfinished v) (sym view) c.requires.fits) in
    let front : c.args.front.now ≡ front_bytes v bytes = subst (λ (o : Option Unfinished). c.args.front.now ≡ next_front k t (option_map (entry_with g.values) o) v) c.in-Some.is (subst (λ (w : Growing). c.args.front.now ≡ next_front w.context w.table w.place.unfinished v) (sym view) c.requires.front) in
    let size : c.args.size ≡ length bytes = subst (λ (o : Option Unfinished). c.args.size ≡ length (next_bytes k t (option_map (entry_with g.values) o) v)) c.in-Some.is (subst (λ (w : Growing). c.args.size ≡ length (next_bytes w.context w.table w.place.unfinished v)) (sym view) c.requires.size) in
    let n = vec_len a.nested + 1 in
    let m = vec_len a.rows in
    let s = value_given k t a.start rows hs pool a.nested.items a.here g.tokens g.values r l v fits c.put_head.new.heads.items c.put_head.new.pool.items
    (c.in_ok-put_head.ensures.heads ∙ ap (λ (b : List ℕ). hs ++ (b ++ finder (length pool) v.value)) front) c.in_ok-put_head.ensures.pool c.in_ok-put_head.ensures.small (a.here + c.args.size) (ap (λ (i : ℕ). a.here + i) size)
    q.new.rows.items q.new.nested.items q.new.unfinished n m a.rows.ok.0 (ap (λ (i : ℕ). i + 1) a.nested.ok.0) (of_some _ c.in-Some.is q.ensures.rows) (of_some _ c.in-Some.is q.ensures.nested) (of_some _ c.in-Some.is q.ensures.unfinished) in
    let build : Place → Growing = λ p. record { context = k; table = t; start = a.start; place = p } in
    ap build (sym (place_given a.partial k t q.new.rows.items c.put_head.new.heads.items c.put_head.new.pool.items q.new.unfinished free))
    ∙ (ap build (place_stood k t a.start q.new.rows.items c.put_head.new.heads.items c.put_head.new.pool.items q.new.nested.items q.new.unfinished (a.here + c.args.size) _ s)
    ∙ (ap (λ (o : Option Unfinished). value_at v (record { context = k; table = t; start = a.start; place = record { spot = Rattle.dw_tree.specs.Place.spot_after g.tokens; unfinished = option_map (entry_with g.values) a.unfinished } }) (option_map (entry_with g.values) o)) (sym c.in-Some.is)
    ∙ ap (with_value v) view))
