-- The pieces in which the text of an entry is appended are its lines.
use Rattle.std.proofs.Common.{◌≡◌, ◌∙◌, ℕ, ◌+◌, ◌-◌, List, [], ◌∷◌, ◌++◌, Option, Some, None, option_map, unwrap_or, codes, refl, sym, ap, append_assoc, arith, length, take}
use Rattle.std.proofs.lemmas.List.{length-append, take_at}
use Rattle.dw_tree.specs.Lent.{LentAttribute, EntryAt}
use Rattle.dw_section.specs.Item.{Item}
use Rattle.dw_strings.specs.Text.{StringSections}
use Rattle.dw_tool.specs.Pieces.{depth_text, entry_head, next_attribute, next_attributes, padding}
use Rattle.dw_tool.specs.Show.{attribute_lines, entry_line, placed_value, tag_at}
use Rattle.dw_tool.specs.Text.{attribute_text, labelled, labelled_decimal, tag_text}

-- ---- names

-- a label has the name
pub label_is : (f : List ℕ → List ℕ) (o : Option (List ℕ)) (other label : List ℕ) → Some label ≡ option_map f o → label ≡ f (unwrap_or o other)
label_is f None other label e = absurd cc
label_is f (Some name) other label e = let same : label ≡ f name = cc in same

-- it is that name's without the padding
pub unpadded : (f : List ℕ → List ℕ) (o : Option (List ℕ)) (other label : List ℕ) → Some label ≡ option_map (λ name. f name ++ padding) o → take (length label - 24) label ≡ f (unwrap_or o other)
unpadded f o other label e =
    let own : List ℕ = f (unwrap_or o other) in
    let size : length own ≡ length (own ++ padding) - 24 = omega (arith, length-append own padding) in
    ap (λ (t : List ℕ). take (length t - 24) t) (label_is (λ name. f name ++ padding) o other label e) ∙ take_at own padding (length (own ++ padding) - 24) size

-- without a label there is no name
pub no_label : (f g : List ℕ → List ℕ) (o : Option (List ℕ)) (other : List ℕ) → None ≡ option_map f o → g other ≡ g (unwrap_or o other)
no_label f g None other e = refl
no_label f g (Some name) other e = absurd cc

-- the name before its value
pub name_before : (attribute : ℕ) (value : List ℕ) → (codes "\n  " ++ (attribute_text attribute ++ codes " ")) ++ value ≡ codes "\n  " ++ (attribute_text attribute ++ (codes " " ++ value))
name_before attribute value = ap (λ (t : List ℕ). codes "\n  " ++ t) (append_assoc (attribute_text attribute) (codes " ") value)

-- the depth before the offset
pub depth_before : (depth : ℕ) (behind : List ℕ) → depth_text depth ++ behind ≡ labelled_decimal (codes "<") depth ++ (codes "> " ++ behind)
depth_before depth behind = append_assoc (labelled_decimal (codes "<") depth) (codes "> ") behind

-- ---- newlines

abbrev pub newline : List ℕ
newline = codes "\n"

-- the newline before the lines of attributes, and the one behind the pieces of these
pub next_lines : (strings : StringSections) (items : List Item) (item : ℕ) (attributes : List LentAttribute)
    → newline ++ attribute_lines strings items item attributes ≡ next_attributes strings items item attributes ++ newline
next_lines strings items item [] = refl
next_lines strings items item (a ∷ rest) =
    let value : List ℕ = codes " " ++ placed_value strings items item a in
    let one : List ℕ = next_attribute strings items item a in
    let lines : List ℕ = attribute_lines strings items item rest in
    ap (λ (t : List ℕ). codes "\n  " ++ (t ++ lines)) (sym (append_assoc (attribute_text a.name) value newline))
    ∙ append_assoc one newline lines
    ∙ ap (λ (t : List ℕ). one ++ t) (next_lines strings items item rest)
    ∙ sym (append_assoc one (next_attributes strings items item rest) newline)

-- a newline that goes from the second text to the first
newline_before : (d o t n l : List ℕ) → (d ++ (o ++ t)) ++ (n ++ l) ≡ (d ++ (o ++ (t ++ n))) ++ l
newline_before d o t n l =
    append_assoc d (o ++ t) (n ++ l)
    ∙ ap (λ (x : List ℕ). d ++ x) (append_assoc o t (n ++ l) ∙ ap (λ (x : List ℕ). o ++ x) (sym (append_assoc t n l)) ∙ sym (append_assoc o (t ++ n) l))
    ∙ sym (append_assoc d (o ++ (t ++ n)) l)

-- the pieces of an entry are its text
pub pieces_are : (strings : StringSections) (items : List Item) (item start : ℕ) (e : EntryAt) (attributes : List LentAttribute)
    → entry_head start e ++ (next_attributes strings items item attributes ++ newline) ≡ entry_line start e ++ attribute_lines strings items item attributes
pieces_are strings items item start e attributes =
    ap (λ (t : List ℕ). entry_head start e ++ t) (sym (next_lines strings items item attributes))
    ∙ newline_before (labelled_decimal (codes "<") e.depth) (labelled (codes "> ") (start + e.offset)) (codes " " ++ tag_text (tag_at e)) newline (attribute_lines strings items item attributes)
