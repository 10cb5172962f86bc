-- What the laws say of tables at their places in a section.
use Rattle.std.specs.Prelude.{◌≡◌, ℕ, ◌<◌, List, [], ◌∷◌, ◌++◌, length, map, ◌⊎◌}
use Rattle.std.proofs.Common.{inl, inr, sym, refl, ◌∙◌, ◌+◌, arith}
use Rattle.std.proofs.lemmas.List.{length-append, drop_at}
use Rattle.dw_leb.specs.declared.errors.Reason.{Reason}
use Rattle.dw_leb.specs.Number.{Unsigned}
use Rattle.dw_leb.specs.Repeat.{item_bytes, items_bytes, ItemsFit}
use Rattle.dw_leb.specs.Reader.{Outcome, Found, Broken}
use Rattle.dw_leb.specs.Decide.{AreBytes, found, broken}
use Rattle.dw_leb.specs.DecideNumber.{uleb_some}
use Rattle.dw_abbrev.specs.Table.{Table, Described, is_null, described, declaration_parts, zero_of, table, TableAt, TableBreaks}
use Rattle.dw_abbrev.specs.ReadTable.{read_table_at}
use Rattle.dw_abbrev.specs.DecideTable.{code_head, table_take, table_fault, TableSays, table_says}

-- a section and an offset have exactly one of: one table that stands there, one break
pub record OneTable : Type 0 where
  pub one_table : (abbreviations : List ℕ) (offset : ℕ) (x y : Table) → TableAt abbreviations offset x
      → TableAt abbreviations offset y → x ≡ y
  pub one_break : (abbreviations : List ℕ) (offset m n : ℕ) (r s : Reason) → TableBreaks abbreviations offset m r
      → TableBreaks abbreviations offset n s → (m ≡ n) × (r ≡ s)
  pub not_both : (abbreviations : List ℕ) (offset : ℕ) (x : Table) (m : ℕ) (r : Reason) → TableAt abbreviations offset x
      → TableBreaks abbreviations offset m r → ⊥
  pub some : (abbreviations : List ℕ) (offset : ℕ) → AreBytes abbreviations
      → ((x : Table) × TableAt abbreviations offset x) ⊎ ((m : ℕ) × (r : Reason) × TableBreaks abbreviations offset m r)

-- a table that fits stands where it is written
abbrev pub WrittenStands : Type 0
WrittenStands =
    (before rest : List ℕ) (t : Table) → table.Fits t → TableAt (before ++ (table.spell t ++ rest)) (length before) t

-- ---- proofs

some_table : (abbreviations : List ℕ) (offset : ℕ) (o : Outcome Table) → TableSays abbreviations offset o
    → ((x : Table) × TableAt abbreviations offset x) ⊎ ((m : ℕ) × (r : Reason) × TableBreaks abbreviations offset m r)
some_table abbreviations offset (Found t size) h = inl (t, h)
some_table abbreviations offset (Broken at reason) h = inr (at, reason, h)

pub one_table_at : (abbreviations : List ℕ) (offset : ℕ) (x y : Table) → TableAt abbreviations offset x
    → TableAt abbreviations offset y → x ≡ y
one_table_at abbreviations offset x y h k =
    let e : found x (length (table.spell x)) ≡ found y (length (table.spell y)) =
    sym (table_take abbreviations offset x h) ∙ table_take abbreviations offset y k in
    cc

one_break_at : (abbreviations : List ℕ) (offset m n : ℕ) (r s : Reason) → TableBreaks abbreviations offset m r
    → TableBreaks abbreviations offset n s → (m ≡ n) × (r ≡ s)
one_break_at abbreviations offset m n r s h k =
    let e : broken Table m r ≡ broken Table n s =
    sym (table_fault abbreviations offset m r h) ∙ table_fault abbreviations offset n s k in
    let same : m ≡ n = cc in
    let why : r ≡ s = cc in
    (same, why)

pub no_break_at : (abbreviations : List ℕ) (offset : ℕ) (x : Table) (m : ℕ) (r : Reason)
    → TableAt abbreviations offset x → TableBreaks abbreviations offset m r → ⊥
no_break_at abbreviations offset x m r h k =
    let e : found x (length (table.spell x)) ≡ broken Table m r =
    sym (table_take abbreviations offset x h) ∙ table_fault abbreviations offset m r k in
    absurd cc

pub one_table : OneTable
one_table = record {
  one_table = one_table_at;
  one_break = one_break_at;
  not_both = no_break_at;
  some =
      λ abbreviations offset fit.
      some_table abbreviations offset (read_table_at abbreviations offset) (table_says abbreviations offset fit);
}

some_bytes : (before xs : List (Unsigned × Described)) (end : Unsigned)
    → ItemsFit code_head is_null (λ _. described) before xs end
    → 0 < length (items_bytes code_head is_null (λ _. described) before xs end)
some_bytes before [] end h = uleb_some end h.0.0
some_bytes before (x ∷ xs) end h =
    let rest = some_bytes (before ++ x ∷ []) xs end h.1 in
    omega (
      arith,
      rest,
      length-append (item_bytes code_head is_null (λ _. described) before x)
          (items_bytes code_head is_null (λ _. described) (before ++ x ∷ []) xs end),
    )

pub table_some : (t : Table) → table.Fits t → 0 < length (table.spell t)
unfolding table
table_some t h = some_bytes [] (map declaration_parts t.declarations) (zero_of t.last_zero) h

pub written_stands : WrittenStands
written_stands before rest t fits =
    let one : length (before ++ (table.spell t ++ rest)) ≡ length before + length (table.spell t ++ rest) =
    length-append before (table.spell t ++ rest) in
    let two : length (table.spell t ++ rest) ≡ length (table.spell t) + length rest =
    length-append (table.spell t) rest in
    record {
      inside = omega (arith, table_some t fits, one, two);
      fits = fits;
      rest = rest;
      split = drop_at before (table.spell t ++ rest) (length before) refl;
    }
