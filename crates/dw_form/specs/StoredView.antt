-- What a stored value stands for.
use Rattle.std.specs.Prelude.{◌≡◌, ◌≤◌, ◌<◌, ◌+◌, ◌*◌, ◌^◌, ℕ, List, [], ◌++◌, length, take, drop, Option, Some, None, option_map, IfSome}
use Rattle.std.proofs.Common.{refl, ap, ◌∙◌, ◌-◌, arith}
use Rattle.std.proofs.lemmas.List.{length-drop, drop-append-le, take-append-le}
use Rattle.dw_leb.specs.Number.{Unsigned}
use Rattle.dw_leb.specs.View.{uleb_of, sleb_of}
use Rattle.dw_form.specs.Form.{Attribute, Value, Num, Wide, Uleb, Sleb, Block, Text, Present, Implicit}
use Rattle.dw_form.specs.declared.stored.Stored.{Stored}
use Rattle.dw_form.specs.declared.via.Via.{Via}
use Rattle.dw_form.specs.declared.span.Span.{Span}
use Rattle.dw_form.specs.declared.stored.Kept.{Kept}
use Rattle.dw_form.specs.declared.stored.Kept.TheVariants as kept

-- the form that an indirect value names
abbrev pub via_form : Via → Unsigned
via_form v = record { value = v.form; width = v.width }

abbrev pub kept_via : Kept → Option Via
kept_via (kept.Num via x) = via
kept_via (kept.Wide via low high) = via
kept_via (kept.Uleb via u) = via
kept_via (kept.Sleb via s) = via
kept_via (kept.Block width via span) = via
kept_via (kept.Text via span) = via
kept_via (kept.Present via) = via
kept_via (kept.Implicit via s) = via

-- the bytes of a span of the pool, and that it lies in a pool of n bytes
abbrev pub part : List ℕ → Span → List ℕ
part pool s = take s.len (drop s.start pool)

abbrev pub SpanFits : ℕ → Span → Type 0
SpanFits n s = s.start + s.len ≤ n

-- the value without its indirect form
abbrev pub kept_value : List ℕ → Kept → Value
kept_value pool (kept.Num via x) = Num x
kept_value pool (kept.Wide via low high) = Wide (low + 2 ^ 64 * high)
kept_value pool (kept.Uleb via u) = Uleb (uleb_of u)
kept_value pool (kept.Sleb via s) = Sleb (sleb_of s)
kept_value pool (kept.Block width via span) = Block width (part pool span)
kept_value pool (kept.Text via span) = Text (part pool span)
kept_value pool (kept.Present via) = Present
kept_value pool (kept.Implicit via s) = Implicit (sleb_of s)

-- the value that is stored, its bytes being a part of the pool
abbrev pub content : List ℕ → Stored → Attribute
content pool s = record { via = option_map via_form (kept_via s.kept); value = kept_value pool s.kept }

-- a text, or a block whose length field has a width
abbrev pub text_or_block : Option ℕ → List ℕ → Value
text_or_block None bytes = Text bytes
text_or_block (Some width) bytes = Block width bytes

-- the content of a text or block
abbrev pub value_bytes : Value → List ℕ
value_bytes (Block width bytes) = bytes
value_bytes (Text bytes) = bytes
value_bytes _ = []

-- the bytes of a value that go into the pool
abbrev pub bytes_in : Attribute → List ℕ
bytes_in a = value_bytes a.value

-- the span of a value lies in a pool of n bytes
abbrev pub KeptFits : ℕ → Kept → Type 0
KeptFits n (kept.Block width via span) = SpanFits n span
KeptFits n (kept.Text via span) = SpanFits n span
KeptFits n _ = Unit {0}

-- the same of the whole
abbrev pub StoredFits : ℕ → Stored → Type 0
StoredFits n s = KeptFits n s.kept

-- the number of the form that an indirect value names has 16 bits
abbrev pub NamesForm : Attribute → Type 0
NamesForm a = IfSome a.via (λ u. u.value < 2 ^ 16)

-- ---- a pool that grows at its end

span_stays : (pool more : List ℕ) (s : Span) → SpanFits (length pool) s → part (pool ++ more) s ≡ part pool s
span_stays pool more s within =
    let left : length (drop s.start pool) ≡ length pool - s.start = length-drop s.start pool in
    ap (take s.len) (drop-append-le s.start pool more (omega (arith, within)))
    ∙ take-append-le s.len (drop s.start pool) more (omega (arith, within, left))

kept_stays : (pool more : List ℕ) (v : Kept) → KeptFits (length pool) v
    → kept_value (pool ++ more) v ≡ kept_value pool v
kept_stays pool more (kept.Block width via span) within = ap (Block width) (span_stays pool more span within)
kept_stays pool more (kept.Text via span) within = ap Text (span_stays pool more span within)
kept_stays pool more (kept.Num via x) within = refl
kept_stays pool more (kept.Wide via low high) within = refl
kept_stays pool more (kept.Uleb via u) within = refl
kept_stays pool more (kept.Sleb via s) within = refl
kept_stays pool more (kept.Present via) within = refl
kept_stays pool more (kept.Implicit via s) within = refl

-- a stored value is the same in a pool that begins with its own
pub content_stays : (pool more : List ℕ) (s : Stored) → StoredFits (length pool) s
    → content (pool ++ more) s ≡ content pool s
content_stays pool more s within =
    ap (λ (v : Value). record { via = option_map via_form (kept_via s.kept); value = v })
    (kept_stays pool more s.kept within)

kept_fits : (m n : ℕ) (v : Kept) → m ≤ n → KeptFits m v → KeptFits n v
kept_fits m n (kept.Block width via span) longer within = omega (arith, longer, within)
kept_fits m n (kept.Text via span) longer within = omega (arith, longer, within)
kept_fits m n (kept.Num via x) longer within = tt
kept_fits m n (kept.Wide via low high) longer within = tt
kept_fits m n (kept.Uleb via u) longer within = tt
kept_fits m n (kept.Sleb via s) longer within = tt
kept_fits m n (kept.Present via) longer within = tt
kept_fits m n (kept.Implicit via s) longer within = tt

-- and lies in each longer pool
pub stored_fits : (m n : ℕ) (s : Stored) → m ≤ n → StoredFits m s → StoredFits n s
stored_fits m n s longer within = kept_fits m n s.kept longer within
