use Rattle.std.proofs.Common.{Option, ◌≡◌, ◌+◌, ◌∷◌, ◌++◌, [], ℕ, List, length, map, sym, ap, subst, ◌∙◌}
use Rattle.std.proofs.lemmas.List.{length-map, map-append}
use Rattle.std.specs.Prelude.{option_map, eqb}
use Rattle.std.specs.Map.{lookup}
use Rattle.dw_section.specs.declared.id.EntryId.{EntryId}
use Rattle.dw_section.specs.declared.item.Item.{Item as TheItem}
use Rattle.dw_section.specs.Item.{Item, ItemFits}
use Rattle.dw_section.specs.ItemView.{item_of}
use Rattle.dw_section.specs.Section.{WholeSection, section_bytes}
use Rattle.dw_section.specs.Reference.{type_in}
use Rattle.dw_section.specs.StringBase.{base_in}
use Rattle.dw_section.specs.SectionView.{id_of, first_id, FollowsType, kept_one}
use Rattle.dw_section.proofs.section.Section.keep.Goals as goal

pub invariant_of-self-2 : goal.invariant_of-self-2
invariant_of-self-2 c =
    let i = c.self.inside in
    let s : WholeSection = record { order = i.order; versions = i.versions; items = map item_of i.items.items } in
    let x : Item = item_of c.args.item in
    let items : map item_of c.add-3.new.list.items ≡ s.items ++ x ∷ [] =
    ap (λ (l : List TheItem). map item_of l) (c.add-3.ensures ∙ ap (λ (l : List TheItem). l ++ c.args.item ∷ []) c.make_room.ensures.items) ∙ map-append item_of i.items.items (c.args.item ∷ []) in
    let starts : c.add.new.list.items ≡ i.starts.items ++ i.end ∷ [] =
    c.add.ensures ∙ ap (λ (l : List ℕ). l ++ c.replace-start.result ∷ []) c.make_room.ensures.starts ∙ ap (λ (m : ℕ). i.starts.items ++ m ∷ []) c.replace-start.ensures.value in
    let bases : c.add-2.new.list.items ≡ i.bases.items ++ base_in x ∷ [] =
    c.add-2.ensures ∙ ap (λ (l : List (Option ℕ)). l ++ c.base_in.result ∷ []) c.make_room.ensures.bases ∙ ap (λ (b : Option ℕ). i.bases.items ++ b ∷ []) c.base_in.ensures in
    let fits : ItemFits s.versions s.order (length (section_bytes s)) x = subst (λ (w : WholeSection). ItemFits w.versions w.order (length (section_bytes w)) x) (sym c.self.view_is) c.requires in
    let number : length c.as_slice-number.result.now ≡ length s.items = ap (λ (l : List TheItem). length l) (c.as_slice-number.ensures.value ∙ c.make_room.ensures.items) ∙ sym (length-map i.items.items item_of) in
    let follows : FollowsType s i.starts.items i.bases.items i.types.entries i.end c.self.invariant x c.keep_type.new.types.entries = λ v. c.keep_type.ensures v
    ∙ ap (λ (es : List (ℕ × EntryId)). first_id (lookup (eqb v) es) (option_map id_of (type_in v (length c.as_slice-number.result.now) x))) c.make_room.ensures.types
    ∙ ap (λ (n : ℕ). first_id (lookup (eqb v) i.types.entries) (option_map id_of (type_in v n x))) number in
    kept_one s i.starts.items i.bases.items i.types.entries i.end c.self.invariant x (map item_of c.add-3.new.list.items) c.add.new.list.items c.add-2.new.list.items c.keep_type.new.types.entries c.replace-start.new.dest items starts bases follows (c.replace-start.ensures.after ∙ ap (λ (m : ℕ). i.end + m) c.size.ensures) fits
