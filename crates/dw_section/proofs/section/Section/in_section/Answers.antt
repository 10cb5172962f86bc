use Rattle.std.proofs.Common.{◌≡◌, ◌+◌, ◌-◌, ℕ, length, map, get_or, List, Some, refl, sym, ap, subst, ◌∙◌, arith}
use Rattle.std.specs.Prelude.{slice_get, option_map}
use Rattle.std.specs.List.Sorted.{IsNonDecreasingBy}
use Rattle.std.proofs.lemmas.List.{length-map}
use Rattle.std.proofs.lemmas.Option.{slice_get-map, slice_get_read}
use Rattle.std.proofs.lemmas.Bool.{ltb-false}
use Rattle.dw_section.specs.declared.item.Item.{Item as TheItem}
use Rattle.dw_section.specs.ItemView.{item_of}
use Rattle.dw_section.specs.Section.{WholeSection}
use Rattle.dw_section.specs.Reference.{items_at, in_item, in_section}
use Rattle.dw_section.specs.Lookup.{starts_from, past_all}
use Rattle.dw_section.proofs.Halving.{starts_length, starts_rise, first_start, held_by_last, some_item}
use Rattle.dw_section.proofs.section.Section.in_section.Goals as goal

pub returns-then-offset-self-clause-named : goal.returns-then-offset-self-clause-named
returns-then-offset-self-clause-named c =
    let past = past_all (map item_of c.self.inside.items.items) 0 0 c.args.offset (omega (arith, c.if-offset-self.true, c.self.invariant.end_is)) in
    sym past ∙ ap (λ (s : WholeSection). in_section (items_at s.items) c.args.offset) c.self.view_is

pub last_start-number-requires-clause-rising : goal.last_start-number-requires-clause-rising
last_start-number-requires-clause-rising c =
    let starts = c.as_slice-starts.ensures.value ∙ c.self.invariant.starts_are in
    subst (λ (s : List ℕ). IsNonDecreasingBy (λ x. x) s) (sym starts) (starts_rise (map item_of c.self.inside.items.items) 0)

pub last_start-number-requires-clause-some : goal.last_start-number-requires-clause-some
last_start-number-requires-clause-some c =
    let xs = map item_of c.self.inside.items.items in
    let starts = c.as_slice-starts.ensures.value ∙ c.self.invariant.starts_are in
    let some = some_item xs c.args.offset (omega (arith, c.if-offset-self.false, c.self.invariant.end_is)) in
    omega (arith, ap length starts, starts_length xs 0, some)

pub last_start-number-requires-clause-first : goal.last_start-number-requires-clause-first
last_start-number-requires-clause-first c d =
    let xs = map item_of c.self.inside.items.items in
    let starts = c.as_slice-starts.ensures.value ∙ c.self.invariant.starts_are in
    let some = some_item xs c.args.offset (omega (arith, c.if-offset-self.false, c.self.invariant.end_is)) in
    let zero_is = ap (λ (s : List ℕ). get_or s 0 d) starts ∙ first_start xs d some in
    omega (arith, zero_is)

pub unreachable-requires : goal.unreachable-requires
unreachable-requires c =
    let items = c.self.inside.items.items in
    let starts = c.as_slice-starts.ensures.value ∙ c.self.invariant.starts_are in
    let past = ltb-false c.last_start-number.result (length c.deref.result.now) (sym c.in-None.ensures.lookup.0) in
    omega (arith, past, c.last_start-number.ensures.inside, ap length starts, starts_length (map item_of items) 0, length-map items item_of, ap (λ (l : List TheItem). length l) c.deref.ensures.value)

pub returns-clause-named : goal.returns-clause-named
returns-clause-named c =
    let items = c.self.inside.items.items in
    let xs = map item_of items in
    let number = c.last_start-number.result in
    let starts = c.as_slice-starts.ensures.value ∙ c.self.invariant.starts_are in
    let size : length c.as_slice-starts.result.now ≡ length xs = ap length starts ∙ starts_length xs 0 in
    let at = ap (λ (s : List ℕ). get_or s number 0) starts in
    let read = slice_get_read c.deref.result.now (length c.deref.result.now) number c.in-Some.item.now refl c.in-Some.ensures.lookup.3.0 c.in-Some.ensures.lookup.1 in
    let item : slice_get xs number ≡ Some (item_of c.in-Some.item.now) =
    slice_get-map item_of items number ∙ ap (λ (l : List TheItem). option_map item_of (slice_get l number)) (sym c.deref.ensures.value) ∙ ap (option_map item_of) read in
    let there = held_by_last xs 0 0 number c.args.offset 0 (item_of c.in-Some.item.now) item (omega (arith, size, c.last_start-number.ensures.inside)) (omega (arith, at, c.last_start-number.ensures.at 0))
    (λ k e less within. let behind = c.last_start-number.ensures.behind k e less (omega (arith, size, within)) in omega (arith, behind, ap (λ (s : List ℕ). get_or s k e) starts)) (omega (arith, c.if-offset-self.false, c.self.invariant.end_is)) in
    let here : number ≡ 0 + number = omega arith in
    c.in_item.ensures ∙ ap (λ (m : ℕ). in_item number (c.args.offset - m) (item_of c.in-Some.item.now)) at ∙ ap (λ (n : ℕ). in_item n (c.args.offset - get_or (starts_from 0 xs) number 0) (item_of c.in-Some.item.now)) here
    ∙ sym there ∙ ap (λ (s : WholeSection). in_section (items_at s.items) c.args.offset) c.self.view_is
