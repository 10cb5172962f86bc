use Rattle.std.proofs.Common.{◌≡◌, ◌+◌, ◌++◌, List, drop, length}
use Rattle.std.specs.Prelude.{map}
use Rattle.dw_leb.specs.View.{uleb_of}
use Rattle.dw_form.specs.Form.{Attribute}
use Rattle.dw_form.specs.Lent.{attribute_of}
use Rattle.dw_abbrev.specs.Table.{declared}
use Rattle.dw_tree.specs.Tree.{values, declared_pairs}
use Rattle.dw_tree.specs.Steps.{settle}
use Rattle.dw_header.specs.Header.{context_of}
use Rattle.dw_unit.specs.Draft.{drafted_size, with_place}
use Rattle.dw_unit.proofs.given.put_entry.Given as goal

-- the values before this one are given
abbrev pub invariant-loop-value : goal.invariant-loop-value
invariant-loop-value l =
    record {
      before : List Attribute;
      all_is : before ++ drop l.value-index (map attribute_of l.values) ≡ map attribute_of l.values;
      counted : length before ≡ l.value-index;
      draft_is : l.draft ≡ with_place (settle l.fn.draft.table l.fn.draft.place.spot (uleb_of l.fn.code) before) l.fn.draft;
      fits : (values (context_of l.fn.draft.header) (drop (length before) (declared_pairs (declared l.fn.draft.table l.fn.code.value)))).Fits (drop l.value-index (map attribute_of l.values));
      size : drafted_size l.draft + length ((values (context_of l.fn.draft.header) (drop (length before) (declared_pairs (declared l.fn.draft.table l.fn.code.value)))).spell (drop l.value-index (map attribute_of l.values)))
          ≡ drafted_size l.fn.draft + (l.fn.code.width + length ((values (context_of l.fn.draft.header) (declared_pairs (declared l.fn.draft.table l.fn.code.value))).spell (map attribute_of l.values)));
    }
