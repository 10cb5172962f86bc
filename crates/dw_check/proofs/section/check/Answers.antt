use Rattle.std.proofs.Common.{◌≡◌, ◌∙◌, List, ◌∷◌, map, Some, refl, sym, ap, subst}
use Rattle.std.specs.Prelude.{ℕ, IsSome, OnErr, Option, Result, Ok, Err, ◌++◌, Vec}
use Rattle.std.specs.declared.alloc.Global.{Global}
use Rattle.std.proofs.lemmas.List.{append-nil}
use Rattle.dw_section.specs.Lookup.{unit_at}
use Rattle.dw_check.specs.declared.finding.Finding.{Finding}
use Rattle.dw_check.specs.Findings.{item_findings}
use Rattle.dw_unit.specs.Unit.{WholeUnit}
use Rattle.dw_section.specs.declared.item.Item.{Item as TheItem}
use Rattle.dw_section.specs.Item.{Item, Known}
use Rattle.dw_section.specs.ItemView.{item_of}
use Rattle.dw_strings.specs.TextView.{sections_of}
use Rattle.dw_check.proofs.Items.{ItemsSoFar, one_checked, unit_known, unit_fits, unit_ends}
use Rattle.dw_check.proofs.section.check.Goals.{in-Known+in_ok-check_unit-in-Known, in-Other}
use Rattle.dw_check.proofs.section.check.Goals as goal

pub check_unit-requires : goal.check_unit-requires
check_unit-requires c =
    let s = c.args.section.now in
    let strings = sections_of c.args.strings.now in
    let xs = map item_of c.in-Some.others.now in
    let left : map item_of c.loop-item.left.now ≡ Known c.in-Known.unit ∷ xs = ap (λ (ys : List TheItem). map item_of ys) c.in-Some.ensures.cases.0 ∙ ap (λ (x : TheItem). item_of x ∷ xs) c.in-Known.is in
    let h = subst (λ (ys : List Item). ItemsSoFar s strings c.loop-item.found.items c.loop-item.number c.loop-item.start ys) left c.loop-item.invariant in
    record {
      known = unit_known s strings c.loop-item.found.items c.loop-item.number c.loop-item.start c.in-Known.unit xs h;
      fits = unit_fits s strings c.loop-item.found.items c.loop-item.number c.loop-item.start c.in-Known.unit xs h;
      ends = unit_ends s strings c.loop-item.found.items c.loop-item.number c.loop-item.start c.in-Known.unit xs h;
      text_ends = c.of-text_ends.ensures;
    }

-- where there is an error at all
on_err : {X E : Type 0} (r : Result X E) (P : Type 0) → P → OnErr r P
on_err (Ok x) P p = tt
on_err (Err e) P p = p

pub returns-in_err-check_unit-in-Known-clause-memory : goal.returns-in_err-check_unit-in-Known-clause-memory
returns-in_err-check_unit-in-Known-clause-memory c =
    let s = c.args.section.now in
    let strings = sections_of c.args.strings.now in
    let xs = map item_of c.in-Some.others.now in
    let left : map item_of c.loop-item.left.now ≡ Known c.in-Known.unit ∷ xs = ap (λ (ys : List TheItem). map item_of ys) c.in-Some.ensures.cases.0 ∙ ap (λ (x : TheItem). item_of x ∷ xs) c.in-Known.is in
    let h = subst (λ (ys : List Item). ItemsSoFar s strings c.loop-item.found.items c.loop-item.number c.loop-item.start ys) left c.loop-item.invariant in
    let known : unit_at s.items c.loop-item.number ≡ Some c.in-Known.unit = unit_known s strings c.loop-item.found.items c.loop-item.number c.loop-item.start c.in-Known.unit xs h in
    on_err c.from_residual.result ((n : ℕ) × IsSome (unit_at s.items n)) (c.loop-item.number, subst (λ (o : Option WholeUnit). IsSome o) (sym known) refl)

pub loop-item-preserved : goal.loop-item-preserved
loop-item-preserved c =
    let s = c.args.section.now in
    let strings = sections_of c.args.strings.now in
    let found = c.loop-item.found.items in
    let number = c.loop-item.number in
    let start = c.loop-item.start in
    let size = c.size-start.result in
    let xs = map item_of c.in-Some.others.now in
    let first : map item_of c.loop-item.left.now ≡ item_of c.in-Some.item.now ∷ xs = ap (λ (ys : List TheItem). map item_of ys) c.in-Some.ensures.cases.0 in
    let h = subst (λ (ys : List Item). ItemsSoFar s strings found number start ys) first c.loop-item.invariant in
    let new : c.match-item.found.items ≡ found ++ item_findings s.items strings number start (item_of c.in-Some.item.now) = elim c.match-item.branch [
      | in-Known+in_ok-check_unit-in-Known w ↦ ap (λ (f : Vec Finding Global). f.items) w.found-is ∙ w.in_ok-check_unit-in-Known.ensures ∙ ap (λ (x : TheItem). found ++ item_findings s.items strings number start (item_of x)) (sym w.in-Known.is)
      | in-Other w ↦ ap (λ (f : Vec Finding Global). f.items) w.found-is ∙ sym (append-nil found) ∙ ap (λ (x : TheItem). found ++ item_findings s.items strings number start (item_of x)) (sym w.in-Other.is)
    ] in
    one_checked s strings found c.match-item.found.items number start size (item_of c.in-Some.item.now) xs h new c.size-start.ensures
