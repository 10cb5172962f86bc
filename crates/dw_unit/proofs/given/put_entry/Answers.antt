use Rattle.std.proofs.Common.{◌≡◌, ◌<◌, ◌+◌, ◌++◌, ◌∷◌, [], ℕ, suc, List, length, drop, map, refl, sym, ap, subst, ◌∙◌, arith, add-one, length-append, append_assoc, append-nil}
use Rattle.std.proofs.lemmas.List.{length-map}
use Rattle.dw_leb.specs.Number.{Unsigned}
use Rattle.dw_leb.specs.View.{uleb_of}
use Rattle.dw_form.specs.Form.{Attribute}
use Rattle.dw_form.specs.Lent.{attribute_of}
use Rattle.dw_abbrev.specs.Table.{declared}
use Rattle.dw_tree.specs.Tree.{values, declared_pairs}
use Rattle.dw_tree.specs.Steps.{settle}
use Rattle.dw_header.specs.Header.{context_of}
use Rattle.dw_unit.specs.Draft.{Drafted, drafted_size, size_limit, value_bytes, undone, with_place}
use Rattle.dw_unit.proofs.EntryLemmas.{drop_past}
use Rattle.dw_unit.proofs.PutValues.{none_partial, next_here, next_parted, next_fits, next_size, with_is, undone_is}
use Rattle.dw_unit.proofs.DraftLemmas.{within, not_long}
use Rattle.dw_unit.proofs.given.put_entry.Goals as goal

pub loop-value-init : goal.loop-value-init
loop-value-init c =
    let size = c.in_ok-begin.ensures.size in
    record {
      before = [];
      all_is = refl;
      counted = refl;
      draft_is = c.in_ok-begin.ensures.ok;
      fits = c.requires.fits;
      size = omega (arith, size);
    }

pub value-requires-clause-fits : goal.value-requires-clause-fits
value-requires-clause-fits c =
    let i = c.loop-value.invariant in
    let vs = c.args.values.now in
    let old : Drafted = c.args.draft.now in
    let k = context_of old.header in
    let code : Unsigned = uleb_of c.args.code in
    let ps = declared_pairs (declared old.table c.args.code.value) in
    let v : Attribute = attribute_of c.value-item.result in
    let value_in : c.loop-value.value-index < length vs = omega (arith, c.loop-value-test.true) in
    let w = next_parted k ps vs c.loop-value.value-index (length i.before) c.value-item.result value_in c.value-item.is i.fits in
    next_fits old c.loop-value.draft code i.before v c.requires.known i.draft_is w.short w.first

pub value-requires-clause-between : goal.value-requires-clause-between
value-requires-clause-between c =
    let i = c.loop-value.invariant in
    let vs = c.args.values.now in
    let old : Drafted = c.args.draft.now in
    let k = context_of old.header in
    let code : Unsigned = uleb_of c.args.code in
    let ps = declared_pairs (declared old.table c.args.code.value) in
    let v : Attribute = attribute_of c.value-item.result in
    let value_in : c.loop-value.value-index < length vs = omega (arith, c.loop-value-test.true) in
    let w = next_parted k ps vs c.loop-value.value-index (length i.before) c.value-item.result value_in c.value-item.is i.fits in
    none_partial old c.loop-value.draft code i.before v c.requires.known i.draft_is w.short w.first

pub value-requires-clause-short : goal.value-requires-clause-short
value-requires-clause-short c =
    let i = c.loop-value.invariant in
    let vs = c.args.values.now in
    let old : Drafted = c.args.draft.now in
    let k = context_of old.header in
    let code : Unsigned = uleb_of c.args.code in
    let ps = declared_pairs (declared old.table c.args.code.value) in
    let v : Attribute = attribute_of c.value-item.result in
    let value_in : c.loop-value.value-index < length vs = omega (arith, c.loop-value-test.true) in
    let here = next_here k ps vs c.loop-value.value-index (length i.before) c.value-item.result value_in c.value-item.is in
    let w = next_parted k ps vs c.loop-value.value-index (length i.before) c.value-item.result value_in c.value-item.is i.fits in
    let size = next_size old c.loop-value.draft code i.before v c.requires.known i.draft_is w.short w.first in
    let all = ap (λ (xs : List Attribute). length ((values k (drop (length i.before) ps)).spell xs)) here in
    let short = within old (c.args.code.width + length ((values k ps).spell (map attribute_of vs))) c.requires.short in
    let format = ap (λ (d : Drafted). size_limit d.header.format) i.draft_is in
    not_long c.loop-value.draft (length (value_bytes c.loop-value.draft v)) (omega (arith, size, all, w.size, i.size, short, format))

pub loop-value-preserved : goal.loop-value-preserved
loop-value-preserved c =
    let i = c.loop-value.invariant in
    let vs = c.args.values.now in
    let old : Drafted = c.args.draft.now in
    let k = context_of old.header in
    let code : Unsigned = uleb_of c.args.code in
    let ps = declared_pairs (declared old.table c.args.code.value) in
    let rest = drop (suc c.loop-value.value-index) (map attribute_of vs) in
    let v : Attribute = attribute_of c.value-item.result in
    let value_in : c.loop-value.value-index < length vs = omega (arith, c.loop-value-test.true) in
    let here = next_here k ps vs c.loop-value.value-index (length i.before) c.value-item.result value_in c.value-item.is in
    let w = next_parted k ps vs c.loop-value.value-index (length i.before) c.value-item.result value_in c.value-item.is i.fits in
    let ends = c.in_default.ensures.size in
    let size = next_size old c.loop-value.draft code i.before v c.requires.known i.draft_is w.short w.first in
    let all = ap (λ (xs : List Attribute). length ((values k (drop (length i.before) ps)).spell xs)) here in
    let long : length (i.before ++ v ∷ []) ≡ suc (length i.before) = omega (arith, length-append i.before (v ∷ [])) in
    let left : drafted_size c.value.new.self + length ((values k (drop (suc (length i.before)) ps)).spell rest) ≡ drafted_size old + (c.args.code.width + length ((values k ps).spell (map attribute_of vs))) = omega (arith, ends, size, all, w.size, i.size) in
    rw (add-one c.loop-value.value-index) (record {
      before = i.before ++ v ∷ [];
      all_is = append_assoc i.before (v ∷ []) rest ∙ (ap (λ (xs : List Attribute). i.before ++ xs) (sym here) ∙ i.all_is);
      counted = omega (arith, long, i.counted);
      draft_is = c.in_default.ensures.ok ∙ with_is old c.loop-value.draft code i.before v c.requires.known i.draft_is w.short w.first;
      fits = subst (λ (n : ℕ). (values k (drop n ps)).Fits rest) (sym long) w.rest;
      size = subst (λ (n : ℕ). drafted_size c.value.new.self + length ((values k (drop n ps)).spell rest) ≡ drafted_size old + (c.args.code.width + length ((values k ps).spell (map attribute_of vs)))) (sym long) left;
    })

pub returns-in-Err-clause-err : goal.returns-in-Err-clause-err
returns-in-Err-clause-err c =
    let i = c.loop-value.invariant in
    let vs = c.args.values.now in
    let old : Drafted = c.args.draft.now in
    let k = context_of old.header in
    let code : Unsigned = uleb_of c.args.code in
    let ps = declared_pairs (declared old.table c.args.code.value) in
    let v : Attribute = attribute_of c.value-item.result in
    let value_in : c.loop-value.value-index < length vs = omega (arith, c.loop-value-test.true) in
    let w = next_parted k ps vs c.loop-value.value-index (length i.before) c.value-item.result value_in c.value-item.is i.fits in
    c.undo.ensures ∙ (ap undone c.in-Err.ensures.err ∙ undone_is old c.loop-value.draft code i.before v c.requires.known i.draft_is w.short w.first c.requires.free)

pub returns-clause-ok : goal.returns-clause-ok
returns-clause-ok c =
    let i = c.loop-value.invariant in
    let vs = c.args.values.now in
    let old : Drafted = c.args.draft.now in
    let code : Unsigned = uleb_of c.args.code in
    let none : drop c.loop-value.value-index (map attribute_of vs) ≡ [] = drop_past (map attribute_of vs) c.loop-value.value-index (omega (arith, c.loop-value-test.false, length-map vs attribute_of)) in
    let whole : i.before ≡ map attribute_of vs = sym (append-nil i.before) ∙ (ap (λ (xs : List Attribute). i.before ++ xs) (sym none) ∙ i.all_is) in
    i.draft_is ∙ ap (λ (xs : List Attribute). with_place (settle old.table old.place.spot code xs) old) whole
