use Rattle.std.proofs.Common.{[], refl}
use Rattle.dw_tree.proofs.Lists.{lists_empty}
use Rattle.dw_tree.proofs.draft.TreeDraft.new.Goals as goal

pub invariant_of-result : goal.invariant_of-result
invariant_of-result c = record {
  given = record {
    context_fits = c.requires.context;
    tokens = [];
    values = [];
    lists = lists_empty c.args.context c.args.table.value c.args.start c.new.result.items c.new-2.result.items c.new-3.result.items c.new-4.result.items c.new.ensures.items c.new-2.ensures.items c.new-3.ensures.items c.new-4.ensures.items;
    room = record { row = tt; place = tt };
    near = c.requires.near;
    counted = record { entries_are = refl; asked_are = refl };
  };
  partial = tt;
}
