-- A place before which no row stands.
use Rattle.std.proofs.Common.{◌≡◌, suc, false, List, [], ◌∷◌, length, refl, ◌∙◌, arith}
use Rattle.std.proofs.lemmas.Bool.{ne_eqb}
use Rattle.std.specs.Prelude.{◌==◌}
use Rattle.dw_tree.specs.Tree.{Forest, none, more}
use Rattle.dw_tree.specs.Row.{Token}
use Rattle.dw_tree.specs.Place.{Frame, spot_after, rows_before}
use Rattle.dw_tree.specs.Emptiness.{is_bare, is_bare_in}

pub bare_when : (xs : List Token) → xs ≡ rows_before (spot_after xs).above (spot_after xs).left → (length xs == 0) ≡ is_bare (spot_after xs)
bare_when [] e = refl
bare_when (x ∷ xs) e = ne_eqb (suc (length xs)) 0 (λ h. omega (arith, h)) ∙ by (spot_after (x ∷ xs)).above (spot_after (x ∷ xs)).left e
  where
    by : (fs : List Frame) (ts : Forest) → (x ∷ xs) ≡ rows_before fs ts → false ≡ is_bare_in fs ts
    by [] none e = absurd cc
    by [] (more y ts) e = refl
    by (f ∷ fs) ts e = refl
