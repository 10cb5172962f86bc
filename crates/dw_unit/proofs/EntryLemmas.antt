-- An entry that is given its values.
use Rattle.std.proofs.Common.{None, ◌≡◌, ◌≤◌, ◌<◌, ℕ, zero, suc, List, [], ◌∷◌, ◌++◌, length, drop, refl, ap, ◌∙◌, arith}
use Rattle.dw_leb.specs.Number.{Unsigned}
use Rattle.dw_form.specs.declared.shape.Ctx.{Ctx}
use Rattle.dw_form.specs.Form.{Attribute}
use Rattle.dw_abbrev.specs.Table.{Pair}
use Rattle.std.proofs.Common.{Bool, true, Option, Some}
use Rattle.std.proofs.lemmas.Bool.{ne_eqb, eq-eqb}
use Rattle.dw_abbrev.specs.Table.{Declaration, Table, declared}
use Rattle.dw_tree.specs.Place.{Spot}
use Rattle.dw_tree.specs.Steps.{settled, settle_by, settle, FirstsFit, FirstFits}

module _ (t : Table) (s : Spot) (code : Unsigned) (vs : List Attribute) (d : Declaration) (known : declared t code.value ≡ Some d) where
  -- some are still to come
  pub settle_open : length vs < length d.pairs → settle t s code vs ≡ record { spot = s; unfinished = Some (record { code = code; values = vs; partial = None }) }
  settle_open lt =
      ap (λ (o : Option Declaration). settle_by o s code vs) known
      ∙ ap (λ (b : Bool). settled b d.children s code vs) (ne_eqb (length vs) (length d.pairs) (λ e. omega (arith, lt, e)))

  -- or none
  pub settle_whole : length vs ≡ length d.pairs → settle t s code vs ≡ settled true d.children s code vs
  settle_whole same =
      ap (λ (o : Option Declaration). settle_by o s code vs) known
      ∙ ap (λ (b : Bool). settled b d.children s code vs) (eq-eqb (length vs) (length d.pairs) same)

-- the first values, and one more
pub prefix_more : (k : Ctx) (ps : List Pair) (vs : List Attribute) (v : Attribute) → FirstsFit k ps vs → FirstFits k (drop (length vs) ps) v → FirstsFit k ps (vs ++ v ∷ [])
prefix_more k [] [] v h n = absurd n
prefix_more k (p ∷ ps) [] v h n = (n, tt)
prefix_more k [] (w ∷ vs) v h n = absurd h
prefix_more k (p ∷ ps) (w ∷ vs) v h n = (h.0, prefix_more k ps vs v h.1 n)

pub drop_past : {X : Type 0} (xs : List X) (n : ℕ) → length xs ≤ n → drop n xs ≡ []
drop_past [] zero h = refl
drop_past [] (suc n) h = refl
drop_past (x ∷ xs) zero h = absurd (omega (arith, h))
drop_past (x ∷ xs) (suc n) h = drop_past xs n (omega (arith, h))
