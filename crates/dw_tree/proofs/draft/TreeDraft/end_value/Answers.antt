use Rattle.std.proofs.Common.{◌≡◌, ℕ, ◌+◌, ◌<◌, ◌^◌, Some, Option, List, [], ◌∷◌, ◌++◌, length, take, drop, sym, ap, ap₂, subst, ◌∙◌, arith, vec_len, length-take-le, take-append-drop}
use Rattle.std.specs.Prelude.{IfSome}
use Rattle.dw_leb.specs.View.{uleb_of}
use Rattle.dw_form.specs.Form.{Attribute}
use Rattle.dw_form.specs.Lent.{attribute_of}
use Rattle.dw_form.specs.Head.{finder}
use Rattle.dw_form.specs.HeadFront.{front_bytes}
use Rattle.dw_form.specs.StoredView.{bytes_in}
use Rattle.dw_tree.specs.declared.row.Unfinished.{Unfinished}
use Rattle.dw_tree.specs.Place.{Place, spot_after}
use Rattle.dw_tree.specs.Steps.{Growing, end_of, NextFits, next_bytes, next_front, next_pairs, first_bytes, FirstFits, partial_in, partial_attribute, ended}
use Rattle.dw_tree.specs.DraftView.{partial_of}
use Rattle.dw_tree.specs.DraftInvariant.{AreLists, IsUnfinished, entry_with}
use Rattle.dw_tree.proofs.Lists.{value_given, place_stood}
use Rattle.dw_tree.specs.Counts.{given_counted}
use Rattle.dw_tree.proofs.Limits.{few_open}
use Rattle.dw_tree.proofs.Begins.{counted_with, given_open, partial_open, view_open, ends_here, partial_content, settled_room}
use Rattle.dw_tree.proofs.draft.TreeDraft.end_value.Goals as goal

pub settle-self-inside-requires-clause-level : goal.settle-self-inside-requires-clause-level
settle-self-inside-requires-clause-level c = omega (arith, few_open c.self.inside.nested.items c.self.invariant.given.lists.deep, c.self.inside.nested.ok.0)

pub so_far-value-requires : goal.so_far-value-requires
so_far-value-requires c =
    let a = c.self.inside in
    let h = partial_open a c.in-Some-Some.partial c.in-Some-Some.is-1 c.self.invariant in
    omega (arith, h.within, ap length c.deref.ensures.value)

pub put_found-requires : goal.put_found-requires
put_found-requires c =
    let a = c.self.inside in
    let h = partial_open a c.in-Some-Some.partial c.in-Some-Some.is-1 c.self.invariant in
    omega (arith, h.room, c.requires.short)

pub invariant_of-self : goal.invariant_of-self
invariant_of-self c =
    let a = c.self.inside in
    let r = c.in-Some-Some.unfinished in
    let b = c.in-Some-Some.partial in
    let g = given_open a b c.in-Some-Some.is-1 c.self.invariant in
    let view = sym (view_open a c.self.invariant r b c.in-Some-Some.is-0 c.in-Some-Some.is-1) ∙ c.self.view_is in
    let h = partial_open a b c.in-Some-Some.is-1 c.self.invariant in
    let k = a.context in
    let t = a.table.value in
    let rows = a.rows.items in
    let hs = a.heads.items in
    let pool = a.pool.items in
    let first = take b.pool pool in
    let v : Attribute = partial_attribute (partial_of pool b) in
    let q = c.settle-self-inside in
    let l : AreLists k t a.start rows hs first a.nested.items (Some r) a.here g.tokens g.values = subst (λ (o : Option Unfinished). AreLists k t a.start rows hs first a.nested.items o a.here g.tokens g.values) c.in-Some-Some.is-0 g.lists in
    let bytes = first_bytes k (next_pairs t (entry_with g.values r)) v in
    let fits : FirstFits k (next_pairs t (entry_with g.values r)) v = subst (λ (w : Growing). IfSome (partial_in w.place.unfinished) (λ x. NextFits w.context w.table w.place.unfinished (partial_attribute x))) (sym view) c.requires.fits in
    let front : c.args.front.now ≡ front_bytes v bytes = subst (λ (w : Growing). IfSome (partial_in w.place.unfinished) (λ x. c.args.front.now ≡ next_front w.context w.table w.place.unfinished (partial_attribute x))) (sym view) c.requires.front in
    let size : c.args.size ≡ length bytes = subst (λ (w : Growing). IfSome (partial_in w.place.unfinished) (λ x. c.args.size ≡ length (next_bytes w.context w.table w.place.unfinished (partial_attribute x)))) (sym view) c.requires.size in
    let same_pool : c.deref.result.now ≡ pool = c.deref.ensures.value in
    let lent : attribute_of c.so_far-value.result ≡ v = c.so_far-value.ensures.value ∙ ap (λ (p : List ℕ). partial_attribute (partial_of p b)) same_pool in
    let from : b.pool ≡ length first = sym (length-take-le b.pool pool h.within) in
    let eh : c.put_found.new.heads.items ≡ hs ++ (front_bytes v bytes ++ finder (length first) v.value) =
    c.put_found.ensures ∙ (ap₂ (λ (f : List ℕ) (x : Attribute). hs ++ (f ++ finder b.pool x.value)) front lent ∙ ap (λ (i : ℕ). hs ++ (front_bytes v bytes ++ finder i v.value)) from) in
    let ep : pool ≡ first ++ bytes_in v = sym (take-append-drop b.pool pool) ∙ ap (λ (p : List ℕ). first ++ p) (sym (partial_content b.width (drop b.pool pool))) in
    let n = vec_len a.nested + 1 in
    let m = vec_len a.rows in
    let s = value_given k t a.start rows hs first a.nested.items a.here g.tokens g.values r l v fits c.put_found.new.heads.items pool
    eh ep (omega (arith, c.so_far-value.ensures.small, ap length same_pool)) (a.here + c.args.size) (ap (λ (i : ℕ). a.here + i) size)
    q.new.rows.items q.new.nested.items q.result n m a.rows.ok.0 (ap (λ (i : ℕ). i + 1) a.nested.ok.0) q.ensures.rows q.ensures.nested q.ensures.unfinished in
    let u : IsUnfinished k t a.start g.tokens g.values r = l.are_given in
    record {
      given = record {
        context_fits = g.context_fits;
        tokens = s.tokens;
        values = s.values;
        lists = s.lists;
        room = settled_room q.result _ _ _ _ q.ensures.room q.ensures.open_room;
        near = omega (arith, subst (λ (w : Growing). end_of w + c.args.size < 2 ^ 63) (sym c.self.view_is) c.requires.near, ends_here a c.self.invariant);
        counted = given_counted t (spot_after g.tokens) (uleb_of r.code) u.entry.decl u.entry.declared g.values a.entries a.asked (counted_with a first g (Some r) c.in-Some-Some.is-0) (g.values ++ v ∷ []) _ s.place;
      };
      partial = tt;
    }

pub returns-in-Some-Some : goal.returns-in-Some-Some
returns-in-Some-Some c =
    let a = c.self.inside in
    let r = c.in-Some-Some.unfinished in
    let b = c.in-Some-Some.partial in
    let g = given_open a b c.in-Some-Some.is-1 c.self.invariant in
    let view = sym (view_open a c.self.invariant r b c.in-Some-Some.is-0 c.in-Some-Some.is-1) ∙ c.self.view_is in
    let h = partial_open a b c.in-Some-Some.is-1 c.self.invariant in
    let k = a.context in
    let t = a.table.value in
    let rows = a.rows.items in
    let hs = a.heads.items in
    let pool = a.pool.items in
    let first = take b.pool pool in
    let v : Attribute = partial_attribute (partial_of pool b) in
    let q = c.settle-self-inside in
    let l : AreLists k t a.start rows hs first a.nested.items (Some r) a.here g.tokens g.values = subst (λ (o : Option Unfinished). AreLists k t a.start rows hs first a.nested.items o a.here g.tokens g.values) c.in-Some-Some.is-0 g.lists in
    let bytes = first_bytes k (next_pairs t (entry_with g.values r)) v in
    let fits : FirstFits k (next_pairs t (entry_with g.values r)) v = subst (λ (w : Growing). IfSome (partial_in w.place.unfinished) (λ x. NextFits w.context w.table w.place.unfinished (partial_attribute x))) (sym view) c.requires.fits in
    let front : c.args.front.now ≡ front_bytes v bytes = subst (λ (w : Growing). IfSome (partial_in w.place.unfinished) (λ x. c.args.front.now ≡ next_front w.context w.table w.place.unfinished (partial_attribute x))) (sym view) c.requires.front in
    let size : c.args.size ≡ length bytes = subst (λ (w : Growing). IfSome (partial_in w.place.unfinished) (λ x. c.args.size ≡ length (next_bytes w.context w.table w.place.unfinished (partial_attribute x)))) (sym view) c.requires.size in
    let same_pool : c.deref.result.now ≡ pool = c.deref.ensures.value in
    let lent : attribute_of c.so_far-value.result ≡ v = c.so_far-value.ensures.value ∙ ap (λ (p : List ℕ). partial_attribute (partial_of p b)) same_pool in
    let from : b.pool ≡ length first = sym (length-take-le b.pool pool h.within) in
    let eh : c.put_found.new.heads.items ≡ hs ++ (front_bytes v bytes ++ finder (length first) v.value) =
    c.put_found.ensures ∙ (ap₂ (λ (f : List ℕ) (x : Attribute). hs ++ (f ++ finder b.pool x.value)) front lent ∙ ap (λ (i : ℕ). hs ++ (front_bytes v bytes ++ finder i v.value)) from) in
    let ep : pool ≡ first ++ bytes_in v = sym (take-append-drop b.pool pool) ∙ ap (λ (p : List ℕ). first ++ p) (sym (partial_content b.width (drop b.pool pool))) in
    let n = vec_len a.nested + 1 in
    let m = vec_len a.rows in
    let s = value_given k t a.start rows hs first a.nested.items a.here g.tokens g.values r l v fits c.put_found.new.heads.items pool
    eh ep (omega (arith, c.so_far-value.ensures.small, ap length same_pool)) (a.here + c.args.size) (ap (λ (i : ℕ). a.here + i) size)
    q.new.rows.items q.new.nested.items q.result n m a.rows.ok.0 (ap (λ (i : ℕ). i + 1) a.nested.ok.0) q.ensures.rows q.ensures.nested q.ensures.unfinished in
    let build : Place → Growing = λ p. record { context = k; table = t; start = a.start; place = p } in
    ap build (place_stood k t a.start q.new.rows.items c.put_found.new.heads.items pool q.new.nested.items q.result (a.here + c.args.size) _ s)
    ∙ ap ended view
