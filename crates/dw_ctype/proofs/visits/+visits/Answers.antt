use Rattle.std.proofs.Common.{◌≡◌, ◌+◌, ◌<◌, ℕ, List, Some, None, refl, sym, ap, ◌∙◌, arith}
use Rattle.dw_tree.specs.Lent.{EntryAt, children_of}
use Rattle.dw_ctype.specs.declared.typed.Typed.{Typed}
use Rattle.dw_section.specs.Lookup.{entry}
use Rattle.dw_ctype.specs.declared.parts.Parts.{Parts}
use Rattle.dw_ctype.specs.Parts.{ArePartsOf, visits_of}
use Rattle.dw_ctype.specs.Types.{type_of}
use Rattle.dw_ctype.specs.Visits.{less, visits, parameter_visits}
use Rattle.dw_ctype.proofs.Gathered.{kept_visits, none_left, type_counted, type_stops, type_visited}
use Rattle.dw_ctype.proofs.Spent.{less_in, less_then, less_stops, visits_taken, parameter_first, parameter_passed}
use Rattle.dw_ctype.proofs.visits.+visits.Goals as goal

pub count_parameters-loop-child-init : goal.count_parameters-loop-child-init
count_parameters-loop-child-init t c =
    let one : EntryAt → ℕ = λ p. visits c.args.section.now.items c.args.depth (type_of c.args.section.now.items c.args.item p) in
    let same : children_of c.args.function.now ≡ c.into_iter-child-iterator.result = cc in
    (refl, ap (λ es. less (parameter_visits one es) c.args.left) same)

pub count_parameters-returns-in_err-rest-clause-count : goal.count_parameters-returns-in_err-rest-clause-count
count_parameters-returns-in_err-rest-clause-count t c =
    let one : EntryAt → ℕ = λ p. visits c.args.section.now.items c.args.depth (type_of c.args.section.now.items c.args.item p) in
    let e : EntryAt = c.in-Some.child in
    let stops : less (one e) c.loop-child.rest ≡ None = ap (λ (x : Typed). less (visits c.args.section.now.items c.args.depth x) c.loop-child.rest) (sym c.type_of-typed.ensures) ∙ sym c.in_err-rest.ensures.count in
    c.from_residual.ensures
    ∙ sym (c.loop-child.invariant.1 ∙ ap (λ (n : ℕ). less n c.loop-child.rest) (parameter_first one e c.next.new.self _ c.in-Some.ensures.steps cc) ∙ less_stops (one e) (parameter_visits one c.next.new.self) c.loop-child.rest stops)

pub count_parameters-loop-child-preserved-then-tag-eq-DW_TAG_FORMAL_PARAMETER :
    goal.count_parameters-loop-child-preserved-then-tag-eq-DW_TAG_FORMAL_PARAMETER
count_parameters-loop-child-preserved-then-tag-eq-DW_TAG_FORMAL_PARAMETER t c =
    let one : EntryAt → ℕ = λ p. visits c.args.section.now.items c.args.depth (type_of c.args.section.now.items c.args.item p) in
    let e : EntryAt = c.in-Some.child in
    let taken : less (one e) c.loop-child.rest ≡ Some c.in_ok-rest.rest = ap (λ (x : Typed). less (visits c.args.section.now.items c.args.depth x) c.loop-child.rest) (sym c.type_of-typed.ensures) ∙ sym c.in_ok-rest.ensures.count in
    (c.in_ok-rest.ensures.kept ∙ c.loop-child.invariant.0, c.loop-child.invariant.1 ∙ ap (λ (n : ℕ). less n c.loop-child.rest) (parameter_first one e c.next.new.self _ c.in-Some.ensures.steps cc) ∙ less_then (one e) (parameter_visits one c.next.new.self) c.loop-child.rest c.in_ok-rest.rest taken)

pub count_parameters-loop-child-preserved : goal.count_parameters-loop-child-preserved
count_parameters-loop-child-preserved t c =
    let one : EntryAt → ℕ = λ p. visits c.args.section.now.items c.args.depth (type_of c.args.section.now.items c.args.item p) in
    (c.loop-child.invariant.0, c.loop-child.invariant.1 ∙ ap (λ (n : ℕ). less n c.loop-child.rest) (parameter_passed one c.in-Some.child c.next.new.self _ c.in-Some.ensures.steps (λ h. c.if-tag-eq-DW_TAG_FORMAL_PARAMETER.false cc)))

pub count-returns-clause-count : goal.count-returns-clause-count
count-returns-clause-count t c =
    let deep : 0 < c.args.depth = omega (arith, c.if-depth-eq0.false) in
    let sum : c.args.left ≡ 1 + c.in_ok-rest.rest = omega (arith, c.in_ok-rest.ensures) in
    c.count_type.ensures.count ∙ sym (visits_taken c.args.section.now.items c.args.depth c.args.typed _ c.args.left c.in_ok-rest.rest deep sum refl)

pub count_type-returns-in-Some-clause-count : goal.count_type-returns-in-Some-clause-count
count_type-returns-in-Some-clause-count t c =
    let items = c.args.section.now.items in
    let id = c.in-Entry.id in
    let one : Typed → ℕ = visits items c.args.depth in
    let are : ArePartsOf items id.item (entry items id) c.in-Some.parts.value = rw (← c.requires) c.in-Some.ensures in
    c.count_each.ensures.count ∙ ap (λ (n : ℕ). less n c.args.left) (ap (visits_of one) (c.deref-in-Some.ensures.value ∙ ap (λ (p : Parts). p.types.items) c.deref.ensures) ∙ type_visited items c.args.typed id c.in-Some.parts.value one c.in-Entry.is are)

pub count_entry-returns-in-Some-clause-count : goal.count_entry-returns-in-Some-clause-count
count_entry-returns-in-Some-clause-count t c =
    let items = c.args.section.now.items in
    let id = c.args.id in
    let one : Typed → ℕ = visits items c.args.depth in
    let are : ArePartsOf items id.item (entry items id) c.in-Some.parts.value = rw (← c.requires.kept) c.in-Some.ensures.parts in
    c.count_each.ensures.count ∙ ap (λ (n : ℕ). less n c.args.left) (ap (visits_of one) (c.deref-in-Some.ensures.value ∙ ap (λ (p : Parts). p.types.items) c.deref.ensures) ∙ kept_visits items id c.args.entry.now c.in-Some.parts.value c.requires.there are one)

pub count_each-returns-in_err-rest-clause-count : goal.count_each-returns-in_err-rest-clause-count
count_each-returns-in_err-rest-clause-count t c =
    c.from_residual.ensures
    ∙ sym (type_stops (visits c.args.section.now.items c.args.depth) c.args.types.now c.loop-typed.typed-index _ c.args.left c.loop-typed.rest c.loop-typed-test.true c.loop-typed.invariant.1 (sym c.in_err-rest.ensures.count))

pub count_each-loop-typed-preserved : goal.count_each-loop-typed-preserved
count_each-loop-typed-preserved t c =
    (c.in_ok-rest.ensures.kept ∙ c.loop-typed.invariant.0, type_counted (visits c.args.section.now.items c.args.depth) c.args.types.now c.loop-typed.typed-index _ c.args.left c.loop-typed.rest c.loop-typed-test.true c.loop-typed.invariant.1 c.in_ok-rest.rest (sym c.in_ok-rest.ensures.count))

pub count_each-returns-clause-count : goal.count_each-returns-clause-count
count_each-returns-clause-count t c =
    let one : Typed → ℕ = visits c.args.section.now.items c.args.depth in
    sym (c.loop-typed.invariant.1 ∙ ap (λ (l : List Typed). less (visits_of one l) c.loop-typed.rest) (none_left c.args.types.now c.loop-typed.typed-index c.loop-typed-test.false) ∙ less_in 0 c.loop-typed.rest (omega arith) ∙ ap Some (omega arith))
