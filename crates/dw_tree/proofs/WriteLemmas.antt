-- Writing: what is spelled one behind the other.
use Rattle.std.proofs.Common.{◌≡◌, ℕ, List, [], ◌∷◌, ◌++◌, length, refl, sym, ap, subst, ◌∙◌, arith}
use Rattle.dw_form.specs.declared.shape.Ctx.{Ctx}
use Rattle.dw_form.specs.Form.{Attribute, attribute}
use Rattle.dw_abbrev.specs.Table.{Pair, Table}
use Rattle.dw_leb.specs.Number.{Unsigned}
use Rattle.dw_tree.specs.declared.row.Row.{Row}
use Rattle.dw_tree.specs.declared.row.RowKind.{RowKind}
use Rattle.dw_tree.specs.declared.row.RowKind.TheVariants.{Leaf, Branch, Null}
use Rattle.dw_tree.specs.Row.{row_bytes, rows_bytes}
use Rattle.dw_tree.specs.Spelling.{entry_bytes}
use Rattle.dw_tree.specs.Flat.{kind_token, token_at, tokens_at}
use Rattle.dw_form.specs.Pieces.{HasSpelling, spelling, has_spelling}
use Rattle.dw_tree.specs.RowHeads.{First, first_bytes, first_is}

pub no_items : {X : Type 0} (xs : List X) → length xs ≡ 0 → xs ≡ []
no_items [] h = refl
no_items (x ∷ xs) h = absurd (omega (arith, h))

-- ---- rows

-- an entry's row is its code and its values
pub entry_row_bytes : (k : Ctx) (t : Table) (kind : RowKind) (code : Unsigned) (vs : List Attribute) → (kind ≡ Null → ⊥) → row_bytes k t (kind_token kind code vs) ≡ entry_bytes k t code vs
entry_row_bytes k t Leaf code vs n = refl
entry_row_bytes k t Branch code vs n = refl
entry_row_bytes k t Null code vs n = absurd (n refl)

-- the next row
pub rows_next : (k : Ctx) (t : Table) (hs pool : List ℕ) (all : List Row) (row : Row) (others : List Row) → all ≡ row ∷ others
    → rows_bytes k t (tokens_at k t all hs pool) ≡ row_bytes k t (token_at k t hs pool row) ++ rows_bytes k t (tokens_at k t others hs pool)
rows_next k t hs pool all row others e = ap (λ (rs : List Row). rows_bytes k t (tokens_at k t rs hs pool)) e

-- what is lent of the first value has a spelling, and that is the one there
pub lent_spelling : (k : Ctx) (p : Pair) (hs pool : List ℕ) (x : First k p hs pool) (a : Attribute) → a ≡ x.value → HasSpelling k p.form.value a × (spelling k p.form.value a ≡ first_bytes k p hs pool)
lent_spelling k p hs pool x a e =
    let fits : (attribute k p.form.value p.constant).Fits a = subst (λ (b : Attribute). (attribute k p.form.value p.constant).Fits b) (sym e) x.fits in
    let own = has_spelling k p.form.value p.constant a fits in
    (own.0, own.1 ∙ (ap (attribute k p.form.value p.constant).spell e ∙ sym (first_is k p hs pool x)))
