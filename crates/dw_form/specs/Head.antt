-- The head of a value: what of its spelling is no content, and what finds its content in the pool.
use Rattle.std.specs.Prelude.{◌≡◌, ℕ, ◌+◌, ◌-◌, Bool, true, false, List, [], ◌++◌, length, take, drop, Option, Some, None, option_map, nat_lt, ◌==◌, if◌then◌else◌}
use Rattle.dw_leb.specs.declared.order.Order.{Order}
use Rattle.dw_leb.specs.declared.order.Order.TheVariants.{Little}
use Rattle.dw_leb.specs.Number.{Unsigned, Signed, fixed_bytes}
use Rattle.dw_leb.specs.Reader.{Outcome, Found, Broken}
use Rattle.dw_leb.specs.ReadNumber.{read_fixed, read_uleb}
use Rattle.dw_form.specs.declared.shape.Ctx.{Ctx}
use Rattle.dw_form.specs.declared.shape.Shape.{Shape}
use Rattle.dw_form.specs.declared.shape.Shape.TheVariants as shapes
use Rattle.dw_form.specs.Form.{Value, Num, Block, Text, Present, Implicit, Attribute, shape}
use Rattle.dw_form.specs.ReadForm.{read_shaped}
use Rattle.dw_form.specs.Pieces.{head_of, via_bytes, form_in}

-- a number in the eight bytes of a word
abbrev pub word : ℕ → List ℕ
word n = fixed_bytes Little 8 n

-- what finds the content that begins at a place of the pool: a block's length stands in its spelling, a text's doesn't
abbrev pub finder : ℕ → Value → List ℕ
finder start (Block width bytes) = word start
finder start (Text bytes) = word (length bytes) ++ word start
finder start v = []

abbrev pub head_bytes : Ctx → Shape → ℕ → Attribute → List ℕ
head_bytes k s start a = via_bytes a.via ++ (head_of k s a.value ++ finder start a.value)

abbrev pub head_if : Ctx → Option Shape → ℕ → Attribute → List ℕ
head_if k None start a = []
head_if k (Some s) start a = head_bytes k s start a

-- the head of a value under a form, whose content begins at a place of the pool
abbrev pub head : Ctx → ℕ → ℕ → Attribute → List ℕ
head k form start a = head_if k (shape (form_in form a.via) k.address_size k.format) start a

-- the bytes of a content, which begins at a place of the pool
pub record Lies (pool : List ℕ) (start : ℕ) (bytes : List ℕ) : Type 0 where
  pub before : List ℕ
  pub after : List ℕ
  pub split : pool ≡ before ++ (bytes ++ after)
  pub at : length before ≡ start

-- ---- a value by its head

abbrev pub and_so : {X Y : Type 0} → Option X → (X → Option Y) → Option Y
and_so None f = None
and_so (Some x) f = f x

abbrev pub value_found : {X : Type 0} → Outcome X → Option X
value_found (Found x size) = Some x
value_found (Broken offset reason) = None

abbrev pub both_found : {X : Type 0} → Outcome X → Option (X × ℕ)
both_found (Found x size) = Some (x, size)
both_found (Broken offset reason) = None

abbrev pub fixed_at : Order → ℕ → List ℕ → Option ℕ
fixed_at order n b = value_found (read_fixed order n b (length b))

abbrev pub uleb_at : List ℕ → Option Unsigned
uleb_at b = value_found (read_uleb b (length b))

abbrev pub in_width : ℕ → ℕ → Unsigned
in_width n x = record { value = x; width = n }

-- the length of a content, and in how many bytes it stands
abbrev pub count_at : Ctx → Shape → List ℕ → Option Unsigned
count_at k (shapes.Counted n) b = option_map (in_width n) (fixed_at k.order n b)
count_at k shapes.CountedUleb b = uleb_at b
count_at k shapes.Text b = option_map (in_width 8) (fixed_at Little 8 b)
count_at k _ b = None

abbrev pub part_at : List ℕ → ℕ → ℕ → Option (List ℕ)
part_at pool start n =
    if nat_lt (length pool) start then None
    else (if nat_lt (length pool - start) n then None else Some (take n (drop start pool)))

abbrev pub value_with : Shape → ℕ → List ℕ → Value
value_with shapes.Text width bytes = Text bytes
value_with _ width bytes = Block width bytes

abbrev pub with_part : Shape → ℕ → Option (List ℕ) → Option (Value × ℕ)
with_part s width None = None
with_part s width (Some bytes) = Some (value_with s width bytes, width + 8)

abbrev pub with_count : Shape → List ℕ → List ℕ → Unsigned → Option (Value × ℕ)
with_count s b pool u =
    and_so (fixed_at Little 8 (drop u.width b)) (λ start. with_part s u.width (part_at pool start u.value))

-- a text or block
abbrev pub placed_at : Ctx → Shape → List ℕ → List ℕ → Option (Value × ℕ)
placed_at k s b pool = and_so (count_at k s b) (with_count s b pool)

abbrev pub has_content : Shape → Bool
has_content (shapes.Counted n) = true
has_content shapes.CountedUleb = true
has_content shapes.Text = true
has_content _ = false

abbrev pub via_at : Bool → List ℕ → Option (Option Unsigned)
via_at true b = option_map (λ u. Some u) (uleb_at b)
via_at false b = Some None

abbrev pub via_width : Option Unsigned → ℕ
via_width None = 0
via_width (Some u) = u.width

abbrev pub behind_via : Option Unsigned → Option (Value × ℕ) → Option (Attribute × ℕ)
behind_via via None = None
behind_via via (Some x) = Some (record { via = via; value = x.0 }, via_width via + x.1)

-- the constant of the declaration is that of a value that names no form
abbrev pub own_constant : Option Unsigned → Option Signed → Option Signed
own_constant None c = c
own_constant (Some u) c = None

-- a value without content is spelled
abbrev pub spelled_at : Ctx → Option Signed → Shape → List ℕ → Option (Value × ℕ)
spelled_at k c s b = both_found (read_shaped k c s b (length b))

abbrev pub by_content : Ctx → Option Signed → List ℕ → List ℕ → Shape → Bool → Option (Value × ℕ)
by_content k c b pool s true = placed_at k s b pool
by_content k c b pool s false = spelled_at k c s b

abbrev pub by_shape : Ctx → Option Signed → List ℕ → List ℕ → Option Shape → Option (Value × ℕ)
by_shape k c b pool None = None
by_shape k c b pool (Some s) = by_content k c b pool s (has_content s)

abbrev pub by_via : Ctx → ℕ → Option Signed → List ℕ → List ℕ → Option Unsigned → Option (Attribute × ℕ)
by_via k form c b pool via =
    behind_via via
    (by_shape k (own_constant via c) (drop (via_width via) b) pool (shape (form_in form via) k.address_size k.format))

-- the value whose head stands at the front of heads, and the size of its head
unfoldable pub head_at : Ctx → ℕ → Option Signed → List ℕ → List ℕ → Option (Attribute × ℕ)
head_at k form c b pool = and_so (via_at (form == 0x16) b) (by_via k form c b pool)

-- ---- a value of no bytes

-- of a shape: that the attribute is there, or the constant of its declaration
abbrev pub bare_value : Option Shape → Option Signed → Option Value
bare_value (Some shapes.Present) c = Some Present
bare_value (Some shapes.Implicit) (Some x) = Some (Implicit x)
bare_value _ _ = None

abbrev pub bare_if : Option Unsigned → Value → Option Value
bare_if None Present = Some Present
bare_if None (Implicit x) = Some (Implicit x)
bare_if via v = None

-- the value, where it has no bytes and is of the form that its declaration gives
abbrev pub own_bare : Attribute → Option Value
own_bare a = bare_if a.via a.value

-- ---- a number by its head

abbrev pub number_if : Option Unsigned → Value → Option ℕ
number_if None (Num x) = Some x
number_if via v = None

-- the number that a value is, of a fixed size of at most eight bytes and of the form that its declaration gives
abbrev pub own_number : Attribute → Option ℕ
own_number a = number_if a.via a.value

-- the same of the value that a head gives, with the size of the head
abbrev pub number_by_head : Option (Attribute × ℕ) → Option (ℕ × ℕ)
number_by_head None = None
number_by_head (Some x) = option_map (λ n. (n, x.1)) (own_number x.0)
