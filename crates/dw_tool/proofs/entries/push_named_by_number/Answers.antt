use Rattle.std.proofs.Common.{subst, sym}
use Rattle.dw_tree.specs.Lent.{LentAttribute, number_of}
use Rattle.dw_strings.specs.TextView.{sections_of}
use Rattle.dw_tool.specs.Output.{Puts}
use Rattle.dw_tool.specs.Show.{named_quoted, target_of, target_text, text_of}
use Rattle.dw_tool.proofs.Placed.{entry_behind, nothing_named, text_behind}
use Rattle.dw_tool.proofs.entries.push_named_by_number.Goals as goal

pub returns-in-Entry : goal.returns-in-Entry
returns-in-Entry g c =
    let strings = sections_of c.args.origin.now.strings.now in
    let items = c.args.origin.now.section.now.items in
    let item = c.args.origin.now.from.item in
    entry_behind g.W.Write.contents c.push_reference.result strings items item (number_of c.args.number.now) _ _ (sym c.in-Entry.ensures.text)
    (subst (λ (a : LentAttribute). Puts g.W.Write.contents c.args.out.now c.push_reference.new.out (target_text items (target_of items item a)) c.push_reference.result) c.attribute.ensures c.push_reference.ensures)

pub returns-in-Text : goal.returns-in-Text
returns-in-Text g c =
    let strings = sections_of c.args.origin.now.strings.now in
    let items = c.args.origin.now.section.now.items in
    let item = c.args.origin.now.from.item in
    text_behind g.W.Write.contents c.push_text.result strings items item (number_of c.args.number.now) _ _ (sym c.in-Text.ensures.entry) (sym c.in-Text.ensures.text)
    (subst (λ (a : LentAttribute). Puts g.W.Write.contents c.args.out.now c.push_text.new.out (named_quoted (text_of strings items item a)) c.push_text.result) c.attribute-in-Text.ensures c.push_text.ensures)

pub returns-in-Nothing : goal.returns-in-Nothing
returns-in-Nothing g c =
    nothing_named g.W.Write.contents (sections_of c.args.origin.now.strings.now) c.args.origin.now.section.now.items c.args.origin.now.from.item (number_of c.args.number.now) c.args.out.now
    (sym c.in-Nothing.ensures.entry) (sym c.in-Nothing.ensures.text) c.requires.clear
