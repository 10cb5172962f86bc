-- The dimensions and the parameters of entries, one after the other.
use Rattle.std.proofs.Common.{◌≡◌, ◌≢◌, ◌∙◌, ℕ, Bool, true, false, List, [], ◌∷◌, ◌++◌, refl, ap, append-nil, sym}
use Rattle.std.specs.Prelude.{◌==◌}
use Rattle.std.proofs.lemmas.Bool.{eq-eqb, ne_eqb}
use Rattle.dw_tree.specs.Lent.{EntryAt}
use Rattle.dw_ctype.specs.Types.{tag, dimension, dimensions_of}

-- the dimension of the first entry, if it is a subrange, and those of the others
pub dimensions_split : (e : EntryAt) (es all : List EntryAt) → all ≡ e ∷ es → dimensions_of all ≡ dimensions_of (e ∷ []) ++ dimensions_of es
dimensions_split e es all steps = ap dimensions_of steps ∙ by (tag e == 0x21) refl
  where
    by : (v : Bool) → (tag e == 0x21) ≡ v → dimensions_of (e ∷ es) ≡ dimensions_of (e ∷ []) ++ dimensions_of es
    by true is = rw is (ap (λ (l : List ℕ). l ++ dimensions_of es) (sym (append-nil (dimension e))))
    by false is = rw is refl

-- of an entry that is a subrange, and of one that is none
pub dimension_only : (e : EntryAt) → tag e ≡ 0x21 → dimension e ≡ dimensions_of (e ∷ [])
dimension_only e h = sym (append-nil (dimension e)) ∙ rw (eq-eqb (tag e) 0x21 h) refl

pub dimension_none : (e : EntryAt) → tag e ≢ 0x21 → [] ≡ dimensions_of (e ∷ [])
dimension_none e h = rw (ne_eqb (tag e) 0x21 h) refl
