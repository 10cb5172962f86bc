-- The text of a type and a declarator: this project's own profile of C notation.
use Rattle.std.specs.Prelude.{ℕ, zero, suc, ℤ, pos, negsuc, Bool, true, false, List, [], ◌∷◌, ◌++◌, Option, Some, None, Ok, Err, unwrap_or, codes, decimal, ◌==◌, ◌||◌, if◌then◌else◌}
use Rattle.dw_leb.specs.Constants.{DW_AT_count, DW_AT_name, DW_AT_prototyped, DW_AT_type, DW_AT_upper_bound}
use Rattle.dw_leb.specs.Constants.{DW_FORM_data1, DW_FORM_data2, DW_FORM_data4, DW_FORM_data8, DW_FORM_udata}
use Rattle.dw_leb.specs.Constants.{DW_TAG_formal_parameter, DW_TAG_member, DW_TAG_subrange_type}
use Rattle.dw_leb.specs.Constants.{DW_TAG_unspecified_parameters, DW_TAG_variable}
use Rattle.dw_abbrev.specs.Table.{declared}
use Rattle.dw_form.specs.Form.{Value, Num, Sleb, Implicit}
use Rattle.dw_form.specs.Lent.{number_in}
use Rattle.dw_tree.specs.Lent.{LentAttribute, EntryAt, tag_of, code_of, attributes_of, children_of, first_named}
use Rattle.dw_unit.specs.Unit.{WholeUnit}
use Rattle.dw_section.specs.Item.{Item}
use Rattle.dw_section.specs.Lookup.{unit_at, entry}
use Rattle.dw_section.specs.Reference.{Target, named}
use Rattle.dw_section.specs.declared.id.EntryId.{EntryId}
use Rattle.dw_strings.specs.Text as texts
use Rattle.dw_ctype.specs.declared.kind.PointerKind.{PointerKind}
use Rattle.dw_ctype.specs.declared.kind.PointerKind.TheVariants.{Pointer}
use Rattle.dw_ctype.specs.declared.kind.Qualifier.{Qualifier}
use Rattle.dw_ctype.specs.declared.kind.Kind.{Kind}
use Rattle.dw_ctype.specs.declared.kind.Kind.TheVariants.{Named, Tagged, Marked, Qualified, Array, Function, Other}
use Rattle.dw_ctype.specs.declared.typed.Typed.{Typed}
use Rattle.dw_ctype.specs.declared.typed.Typed.TheVariants.{Missing, Bad, Entry}
use Rattle.dw_ctype.specs.Names.{kind, keyword, mark, qualifier}

-- the items of a section, and the sections of texts
pub record Source : Type 0 where
  pub items : List Item
  pub strings : texts.StringSections

-- ---- what entries say

abbrev pub tag : EntryAt → ℕ
tag e = tag_of (declared e.table (code_of e.node).value)

abbrev pub kind_of : EntryAt → Kind
kind_of e = kind (tag e)

-- the first attribute of a name
abbrev pub first : ℕ → EntryAt → Option LentAttribute
first name e = first_named name (attributes_of e)

abbrev pub resolved : Target → Typed
resolved (Ok id) = Entry id
resolved (Err why) = Bad

abbrev pub typed_by : List Item → ℕ → Option WholeUnit → Option LentAttribute → Typed
typed_by items i u None = Missing
typed_by items i None (Some a) = Bad
typed_by items i (Some u) (Some a) = resolved (named items i u a.form a.attr.value)

-- the type of an entry of an item: what its first DW_AT_type resolves to
abbrev pub type_of : List Item → ℕ → EntryAt → Typed
type_of items i e = typed_by items i (unit_at items i) (first DW_AT_type e)

abbrev pub readable : texts.Named → Option (List ℕ)
readable (Ok bytes) = Some bytes
readable (Err why) = None

abbrev pub named_by : Source → Option WholeUnit → Option LentAttribute → Option (List ℕ)
named_by s u None = None
named_by s None (Some a) = None
named_by s (Some u) (Some a) = readable (texts.named_text s.strings u a.form a.attr.value)

-- the text of its first DW_AT_name, where that can be looked up
abbrev pub name_of : Source → ℕ → EntryAt → Option (List ℕ)
name_of s i e = named_by s (unit_at s.items i) (first DW_AT_name e)

-- ---- behind qualifiers

abbrev pub unqualified : Kind → Option Kind → Option Kind
unqualified (Qualified q) further = further
unqualified k further = Some k

abbrev pub under_entry : (ℕ → EntryAt → Option Kind) → ℕ → Option EntryAt → Option Kind
under_entry further i None = None
under_entry further i (Some e) = further i e

abbrev pub under_type : (ℕ → EntryAt → Option Kind) → List Item → Typed → Option Kind
under_type further items Missing = None
under_type further items Bad = None
under_type further items (Entry id) = under_entry further id.item (entry items id)

-- how the first entry is written that is no qualifier, after at most so many steps from a qualifier to its type
abbrev pub under : List Item → ℕ → ℕ → EntryAt → Option Kind
under items zero i e = unqualified (kind_of e) None
under items (suc steps) i e = unqualified (kind_of e) (under_type (under items steps) items (type_of items i e))

-- ---- declarators

abbrev pub before_if_some : List ℕ → List ℕ → List ℕ
before_if_some text [] = []
before_if_some text (b ∷ bs) = text ++ b ∷ bs

-- a word, and where the declarator isn't empty a space and the declarator
abbrev pub worded : List ℕ → List ℕ → List ℕ
worded word x = word ++ before_if_some (codes " ") x

-- the declarator of an array or of a function stands in brackets behind a mark
abbrev pub is_bracketed : Option Kind → Bool
is_bracketed (Some Array) = true
is_bracketed (Some Function) = true
is_bracketed _ = false

abbrev pub bracketed : Bool → List ℕ → List ℕ
bracketed true y = codes "(" ++ (y ++ codes ")")
bracketed false y = y

abbrev pub marked : PointerKind → Option Kind → List ℕ → List ℕ
marked m k x = bracketed (is_bracketed k) (mark m ++ x)

-- ---- dimensions

-- data1, data2, data4, data8 and udata
abbrev pub is_unsigned : ℕ → Bool
is_unsigned form =
    form == DW_FORM_data1 ||
    (form == DW_FORM_data2 || (form == DW_FORM_data4 || (form == DW_FORM_data8 || form == DW_FORM_udata)))

abbrev pub unsigned : Option ℕ → Option ℤ
unsigned None = None
unsigned (Some n) = Some (pos n)

abbrev pub signed_in : Value → Option ℤ
signed_in (Sleb n) = Some n.value
signed_in (Implicit n) = Some n.value
signed_in _ = None

-- the number of an attribute: unsigned under those forms, signed under sdata and implicit_const
abbrev pub number : Option LentAttribute → Option ℤ
number None = None
number (Some a) = if is_unsigned a.form then unsigned (number_in a.attr.value) else signed_in a.attr.value

-- a negative size isn't shown
abbrev pub size_text : ℤ → List ℕ
size_text (pos n) = decimal n
size_text (negsuc n) = []

abbrev pub one_more : ℤ → ℤ
one_more (pos n) = pos (suc n)
one_more (negsuc zero) = pos 0
one_more (negsuc (suc n)) = negsuc n

-- by the count, else by the upper bound
abbrev pub size : Option ℤ → Option ℤ → List ℕ
size (Some count) upper = size_text count
size None (Some upper) = size_text (one_more upper)
size None None = []

abbrev pub dimension : EntryAt → List ℕ
dimension e = codes "[" ++ (size (number (first DW_AT_count e)) (number (first DW_AT_upper_bound e)) ++ codes "]")

-- of each child that is a subrange_type
abbrev pub dimensions_of : List EntryAt → List ℕ
dimensions_of [] = []
dimensions_of (e ∷ es) = if tag e == DW_TAG_subrange_type then dimension e ++ dimensions_of es else dimensions_of es

abbrev pub unless_empty : List ℕ → List ℕ → List ℕ
unless_empty other [] = other
unless_empty other (b ∷ bs) = b ∷ bs

abbrev pub dimensions : EntryAt → List ℕ
dimensions e = unless_empty (codes "[]") (dimensions_of (children_of e))

-- ---- parameters

-- of each child that is a formal_parameter or unspecified_parameters its text
abbrev pub parameter_texts : (EntryAt → List ℕ) → List EntryAt → List (List ℕ)
parameter_texts text [] = []
parameter_texts text (e ∷ es) =
    if tag e == DW_TAG_formal_parameter then text e ∷ parameter_texts text es
    else
    (if tag e == DW_TAG_unspecified_parameters then codes "..." ∷ parameter_texts text es
    else parameter_texts text es)

-- each behind a comma and a space
abbrev pub behind_commas : List (List ℕ) → List ℕ
behind_commas [] = []
behind_commas (y ∷ ys) = codes ", " ++ (y ++ behind_commas ys)

-- a value other than a fixed 0
abbrev pub is_set : Value → Bool
is_set (Num zero) = false
is_set _ = true

abbrev pub is_prototyped : Option LentAttribute → Bool
is_prototyped None = false
is_prototyped (Some a) = is_set a.attr.value

abbrev pub none_text : Bool → List ℕ
none_text true = codes "void"
none_text false = []

abbrev pub joined : Bool → List (List ℕ) → List ℕ
joined prototyped [] = none_text prototyped
joined prototyped (y ∷ ys) = y ++ behind_commas ys

abbrev pub parameters : (EntryAt → List ℕ) → EntryAt → List ℕ
parameters text e =
    codes "(" ++ (joined (is_prototyped (first DW_AT_prototyped e)) (parameter_texts text (children_of e)) ++ codes ")")

-- ---- types

-- a qualifier of a pointer stands with the declarator, any other one before the type
abbrev pub qualified : (List ℕ → List ℕ) → Qualifier → Option Kind → List ℕ → List ℕ
qualified say q (Some (Marked Pointer)) x = say (worded (qualifier q) x)
qualified say q _ x = qualifier q ++ (codes " " ++ say x)

-- the row of an entry's kind, where `say` is the text of types one level deeper
abbrev pub say_kind : (Typed → List ℕ → List ℕ) → Source → ℕ → EntryAt → Kind → List ℕ → List ℕ
say_kind say s i e Named x = worded (unwrap_or (name_of s i e) (codes "<noname>")) x
say_kind say s i e (Tagged k) x = worded (keyword k ++ unwrap_or (name_of s i e) (codes "{...}")) x
say_kind say s i e (Marked m) x =
    say (type_of s.items i e) (marked m (under_type (under s.items 64) s.items (type_of s.items i e)) x)
say_kind say s i e (Qualified q) x = qualified (say (type_of s.items i e)) q (under s.items 64 i e) x
say_kind say s i e Array x = say (type_of s.items i e) (x ++ dimensions e)
say_kind say s i e Function x = say (type_of s.items i e) (x ++ parameters (λ p. say (type_of s.items i p) []) e)
say_kind say s i e Other x = worded (codes "<tag>") x

abbrev pub say_entry : (Typed → List ℕ → List ℕ) → Source → ℕ → Option EntryAt → List ℕ → List ℕ
say_entry say s i None x = worded (codes "<bad>") x
say_entry say s i (Some e) x = say_kind say s i e (kind_of e) x

-- the text of a type and a declarator, down to so many levels
abbrev pub say : Source → ℕ → Typed → List ℕ → List ℕ
say s zero t x = codes "..."
say s (suc depth) Missing x = worded (codes "void") x
say s (suc depth) Bad x = worded (codes "<bad>") x
say s (suc depth) (Entry id) x = say_entry (say s depth) s id.item (entry s.items id) x

-- ---- the text of an entry

-- of a variable, formal_parameter or member its type, of any other entry itself
abbrev pub is_declared : ℕ → Bool
is_declared tag = tag == DW_TAG_variable || (tag == DW_TAG_formal_parameter || tag == DW_TAG_member)

abbrev pub subject : List Item → EntryId → EntryAt → Typed
subject items id e = if is_declared (tag e) then type_of items id.item e else Entry id

abbrev pub type_text : Source → EntryId → EntryAt → List ℕ → List ℕ
type_text s id e name = say s 64 (subject s.items id e) name
