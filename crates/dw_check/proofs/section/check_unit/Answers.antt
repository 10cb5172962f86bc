use Rattle.std.proofs.Common.{◌≡◌, ◌∙◌, ◌++◌, [], Bool, List, sym, ap, subst, append_assoc, Vec, rules}
use Rattle.std.specs.declared.alloc.Global.{Global}
use Rattle.std.specs.List.{AllByRecursion}
use Rattle.dw_abbrev.specs.Table.{declared}
use Rattle.dw_leb.specs.Number.{Unsigned}
use Rattle.dw_tree.specs.Tree.{declared_pairs}
use Rattle.dw_tree.specs.Lent.{EntryAt, attributes_of, entries_of, code_of}
use Rattle.dw_unit.specs.Unit.{tree_of}
use Rattle.dw_check.specs.declared.finding.Finding.{Finding}
use Rattle.dw_check.specs.Findings.{root_findings, entries_findings}
use Rattle.dw_check.specs.Repeats.{AreRepeatsFor, AreRepeatsOf}
use Rattle.dw_check.specs.Place.{unit_in}
use Rattle.dw_check.proofs.Entries.{IsOf, all_of}
use Rattle.dw_check.proofs.Kept.{kept_at}
use Rattle.dw_check.proofs.Repeating.{repeating_entry}
use Rattle.dw_check.proofs.section.check_unit.Goals as goal

pub loop-entry-init : goal.loop-entry-init
loop-entry-init c =
    let u = unit_in c.args.place.now in
    let es = entries_of (tree_of u.unit) in
    let root : c.check_root.new.found.items ≡ c.args.found.now.items ++ root_findings u = c.in_ok-check_root.ensures in
    let so_far : c.args.found.now.items ++ (root_findings u ++ entries_findings u es) ≡ c.check_root.new.found.items ++ entries_findings u es = sym (append_assoc c.args.found.now.items (root_findings u) (entries_findings u es)) ∙ ap (λ (xs : List Finding). xs ++ entries_findings u es) (sym root) in
    let given : es ≡ c.into_iter-entry-iterator.result = sym (c.into_iter-entry-iterator.ensures.into_iter_gives ∙ c.entries-entry-items.ensures) in
    record {
      so_far = so_far ∙ ap (λ (xs : List EntryAt). c.check_root.new.found.items ++ entries_findings u xs) given;
      repeats = search rules;
      begins = c.new-begins.ensures.known u.unit;
      left = subst (λ (xs : List EntryAt). AllByRecursion (IsOf u.unit) xs) given (all_of u.unit c.requires.fits);
    }

pub check_entry-requires-clause-repeating : goal.check_entry-requires-clause-repeating
check_entry-requires-clause-repeating c =
    let u = c.args.place.now.unit.now in
    let e = c.in-Some.entry in
    let repeats = c.in-Some-kept_repeats.repeats.now in
    let h = subst (λ (xs : List EntryAt). AllByRecursion (IsOf u) xs) c.in-Some.ensures.steps c.loop-entry.invariant.left in
    let code : c.code-code.result.value ≡ (code_of e.node).value = ap (λ (n : Unsigned). n.value) c.code-code.ensures in
    let kept : AreRepeatsFor [] (declared_pairs (declared u.table c.code-code.result.value)) repeats.items =
    kept_at {X = Vec Bool Global} (λ v. v.items) (λ n ms. AreRepeatsFor [] (declared_pairs (declared u.table n)) ms) c.loop-entry.kept.entries c.code-code.result.value repeats c.loop-entry.invariant.repeats (sym c.in-Some-kept_repeats.ensures) in
    subst (λ (ms : List Bool). AreRepeatsOf [] (attributes_of e) ms) (sym c.deref.ensures.value) (repeating_entry u.table e c.code-code.result.value h.0.0.0 h.0.0.1 code repeats.items kept)

pub check_first-requires-clause-repeating : goal.check_first-requires-clause-repeating
check_first-requires-clause-repeating c =
    let u = c.args.place.now.unit.now in
    let e = c.in-Some.entry in
    let h = subst (λ (xs : List EntryAt). AllByRecursion (IsOf u) xs) c.in-Some.ensures.steps c.loop-entry.invariant.left in
    let code : c.code-code.result.value ≡ (code_of e.node).value = ap (λ (n : Unsigned). n.value) c.code-code.ensures in
    repeating_entry u.table e c.code-code.result.value h.0.0.0 h.0.0.1 code
