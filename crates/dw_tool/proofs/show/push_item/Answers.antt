use Rattle.std.proofs.Common.{◌∙◌, Some, sym, ap}
use Rattle.dw_section.specs.declared.item.Item.{Item as TheItem}
use Rattle.dw_section.specs.ItemView.{item_of}
use Rattle.dw_tool.proofs.Placed.{no_start, start_is, unit_there}
use Rattle.dw_tool.proofs.show.push_item.Goals as goal

pub unreachable-requires : goal.unreachable-requires
unreachable-requires g c = no_start c.args.section.now.items c.args.number (item_of c.args.item.now) c.requires.there (sym c.start.ensures ∙ c.in_default.is)

pub push_unit-requires-clause-place : goal.push_unit-requires-clause-place
push_unit-requires-clause-place g c =
    record {
      known = unit_there c.args.section.now.items c.args.number c.in-Known.unit (c.requires.there ∙ ap (λ (x : TheItem). Some (item_of x)) c.in-Known.is);
      start_is = start_is c.args.section.now.items c.args.number c.in-Some.start (sym c.start.ensures ∙ c.in-Some.is);
    }

pub returns-in-Other : goal.returns-in-Other
returns-in-Other g c =
    let start = start_is c.args.section.now.items c.args.number c.in-Some.start (sym c.start.ensures ∙ c.in-Some.is) in
    rw c.in-Other.is (rw (start, c.size.ensures, c.in-Other.is) at c.push_other.ensures)
