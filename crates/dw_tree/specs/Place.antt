-- A tree with one open place, and the steps on it.
use Rattle.std.specs.Prelude.{◌≡◌, ℕ, List, [], ◌∷◌, ◌++◌, length, fold, Option}
use Rattle.std.proofs.Common.{refl, sym, ◌∙◌, ap, append_assoc}
use Rattle.std.specs.Coded.{Coded, code_by, coded×, coded_list, coded_option, coded_ℕ}
use Rattle.dw_leb.specs.Number.{Unsigned}
use Rattle.dw_form.specs.Form.{Attribute}
use Rattle.dw_tree.specs.Tree.{Tree, leaf, branch, Forest, none}
use Rattle.dw_tree.specs.Row.{Token, leaf_row, branch_row, null_row, rows_of, all_rows, push, rows-push}
use Rattle.dw_tree.specs.Codes.{unsigned_code, values_code, forest_code}

-- an open entry: its code and values, and the closed entries before it in its chain
pub record Frame : Type 0 where
  pub code : Unsigned
  pub values : List Attribute
  pub left : Forest

-- A place between entries: the open entries, the innermost first, and the closed entries before the place in its chain.
pub record Spot : Type 0 where
  pub above : List Frame
  pub left : Forest

abbrev pub nowhere : Spot
nowhere = record { above = []; left = none }

-- a closed entry is added
abbrev pub add : Tree → Spot → Spot
add x s = record { above = s.above; left = push s.left x }

-- an entry is opened
abbrev pub enter : Unsigned → List Attribute → Spot → Spot
enter code vs s = record { above = record { code = code; values = vs; left = s.left } ∷ s.above; left = none }

-- the innermost open entry is closed by a null of this width
abbrev pub leave_from : ℕ → List Frame → Forest → Spot
leave_from w [] ts = record { above = []; left = ts }
leave_from w (f ∷ fs) ts = record { above = fs; left = push f.left (branch f.code f.values ts w) }

abbrev pub leave : ℕ → Spot → Spot
leave w s = leave_from w s.above s.left

-- what a row does
abbrev pub step : Spot → Token → Spot
step s (leaf_row code vs) = add (leaf code vs) s
step s (branch_row code vs) = enter code vs s
step s (null_row w) = leave w s

abbrev pub spot_after : List Token → Spot
spot_after xs = fold step nowhere xs

-- the rows before a place
abbrev pub rows_before : List Frame → Forest → List Token
rows_before [] ts = all_rows ts
rows_before (f ∷ fs) ts = rows_before fs f.left ++ branch_row f.code f.values ∷ all_rows ts

-- where the rows of the open entries stand, the outermost first
abbrev pub open_rows : List Frame → List ℕ
open_rows [] = []
open_rows (f ∷ fs) = open_rows fs ++ length (rows_before fs f.left) ∷ []

pub rows_before-push : (fs : List Frame) (ts : Forest) (x : Tree)
    → rows_before fs (push ts x) ≡ rows_before fs ts ++ rows_of x
rows_before-push [] ts x = rows-push ts x
rows_before-push (f ∷ fs) ts x =
    ap (λ (xs : List Token). rows_before fs f.left ++ branch_row f.code f.values ∷ xs) (rows-push ts x)
    ∙ sym (append_assoc (rows_before fs f.left) (branch_row f.code f.values ∷ all_rows ts) (rows_of x))

-- a text, or a block whose length field has a width, that comes in pieces: the form that an indirect value names, and
-- its bytes so far
pub record PartialValue : Type 0 where
  pub via : Option Unsigned
  pub width : Option ℕ
  pub bytes : List ℕ

-- an entry whose values are being given: those given so far, and a partial one
pub record UnfinishedEntry : Type 0 where
  pub code : Unsigned
  pub values : List Attribute
  pub partial : Option PartialValue

pub record Place : Type 0 where
  pub spot : Spot
  pub unfinished : Option UnfinishedEntry

abbrev frame_code : Coded Frame
frame_code =
    code_by (Unsigned × (List Attribute × Forest)) (coded× unsigned_code (coded× values_code forest_code))
    (λ f. (f.code, (f.values, f.left))) (λ p. record { code = p.0; values = p.1.0; left = p.1.1 }) (λ _. refl)

abbrev spot_code : Coded Spot
spot_code =
    code_by (List Frame × Forest) (coded× (coded_list frame_code) forest_code) (λ s. (s.above, s.left))
    (λ p. record { above = p.0; left = p.1 }) (λ _. refl)

abbrev partial_code : Coded PartialValue
partial_code =
    code_by (Option Unsigned × (Option ℕ × List ℕ))
    (coded× (coded_option unsigned_code) (coded× (coded_option coded_ℕ) (coded_list coded_ℕ)))
    (λ b. (b.via, (b.width, b.bytes)))
    (λ p. record { via = p.0; width = p.1.0; bytes = p.1.1 }) (λ _. refl)

abbrev unfinished_code : Coded UnfinishedEntry
unfinished_code =
    code_by (Unsigned × (List Attribute × Option PartialValue))
    (coded× unsigned_code (coded× values_code (coded_option partial_code))) (λ r. (r.code, (r.values, r.partial)))
    (λ p. record { code = p.0; values = p.1.0; partial = p.1.1 }) (λ _. refl)

abbrev pub place_code : Coded Place
place_code =
    code_by (Spot × Option UnfinishedEntry) (coded× spot_code (coded_option unfinished_code))
    (λ s. (s.spot, s.unfinished)) (λ p. record { spot = p.0; unfinished = p.1 }) (λ _. refl)
