-- The rows of a tree: its entries and the nulls that end their children, in the order of their bytes.
use Rattle.std.specs.Prelude.{◌≡◌, ℕ, List, [], ◌∷◌, ◌++◌}
use Rattle.std.proofs.Common.{refl, sym, ◌∙◌, ap, append_assoc, append-nil}
use Rattle.dw_leb.specs.Number.{Unsigned, uleb}
use Rattle.dw_form.specs.declared.shape.Ctx.{Ctx}
use Rattle.dw_form.specs.Form.{Attribute}
use Rattle.dw_abbrev.specs.Table.{Table, zero_of}
use Rattle.dw_tree.specs.Tree.{Tree, leaf, branch, Forest, none, more}
use Rattle.dw_tree.specs.Spelling.{entry_bytes}

-- what a row has: an entry's code and values, or a null of a width
pub data Token : Type 0 where
  leaf_row : Unsigned → List Attribute → Token
  branch_row : Unsigned → List Attribute → Token
  null_row : ℕ → Token

-- the bytes of a row
abbrev pub row_bytes : Ctx → Table → Token → List ℕ
row_bytes k t (leaf_row code vs) = entry_bytes k t code vs
row_bytes k t (branch_row code vs) = entry_bytes k t code vs
row_bytes k t (null_row w) = uleb.spell (zero_of w)

abbrev pub rows_bytes : Ctx → Table → List Token → List ℕ
rows_bytes k t [] = []
rows_bytes k t (x ∷ xs) = row_bytes k t x ++ rows_bytes k t xs

-- the rows of a tree
abbrev mutual
  pub rows_of : Tree → List Token
  rows_of (leaf code vs) = leaf_row code vs ∷ []
  rows_of (branch code vs ts w) = branch_row code vs ∷ (all_rows ts ++ null_row w ∷ [])

  pub all_rows : Forest → List Token
  all_rows none = []
  all_rows (more x ts) = rows_of x ++ all_rows ts

-- one more tree at the end
abbrev pub push : Forest → Tree → Forest
push none x = more x none
push (more y ts) x = more y (push ts x)

abbrev pub join : Forest → Forest → Forest
join none us = us
join (more x ts) us = more x (join ts us)

-- What follows a place in the rows: the trees up to the null that ends their chain, its width, and the same of each
-- chain around it.
pub record Rest : Type 0 where
  pub here : Forest
  pub width : ℕ
  pub outer : List (Forest × ℕ)

abbrev pub put : Tree → Rest → Rest
put x r = record { here = more x r.here; width = r.width; outer = r.outer }

abbrev pub put_all : Forest → Rest → Rest
put_all ts r = record { here = join ts r.here; width = r.width; outer = r.outer }

abbrev pub wrap_in : Unsigned → List Attribute → Forest → ℕ → List (Forest × ℕ) → Rest
wrap_in code vs ts w [] = record { here = more (branch code vs ts w) none; width = 0; outer = [] }
wrap_in code vs ts w (o ∷ os) = record { here = more (branch code vs ts w) o.0; width = o.1; outer = os }

abbrev pub wrap : Unsigned → List Attribute → Rest → Rest
wrap code vs r = wrap_in code vs r.here r.width r.outer

abbrev pub sink : ℕ → Rest → Rest
sink w r = record { here = none; width = w; outer = (r.here, r.width) ∷ r.outer }

-- rows read back, from the last one to the first
abbrev pub rest_of : List Token → Rest
rest_of [] = record { here = none; width = 0; outer = [] }
rest_of (leaf_row code vs ∷ xs) = put (leaf code vs) (rest_of xs)
rest_of (branch_row code vs ∷ xs) = wrap code vs (rest_of xs)
rest_of (null_row w ∷ xs) = sink w (rest_of xs)

pub join-none : (ts : Forest) → join ts none ≡ ts
join-none none = refl
join-none (more x ts) = ap (more x) (join-none ts)

-- the rows of a tree are read back as that tree, whatever follows
mutual
  pub rest-rows : (x : Tree) (xs : List Token) → rest_of (rows_of x ++ xs) ≡ put x (rest_of xs)
  rest-rows (leaf code vs) xs = refl
  rest-rows (branch code vs ts w) xs =
      ap (λ (ys : List Token). wrap code vs (rest_of ys)) (append_assoc (all_rows ts) (null_row w ∷ []) xs)
      ∙ (ap (wrap code vs) (rest-all ts (null_row w ∷ xs))
      ∙ ap (λ (us : Forest). put (branch code vs us w) (rest_of xs)) (join-none ts))

  pub rest-all : (ts : Forest) (xs : List Token) → rest_of (all_rows ts ++ xs) ≡ put_all ts (rest_of xs)
  rest-all none xs = refl
  rest-all (more x ts) xs =
      ap rest_of (append_assoc (rows_of x) (all_rows ts) xs)
      ∙ (rest-rows x (all_rows ts ++ xs) ∙ ap (put x) (rest-all ts xs))

pub here-all : (ts : Forest) → (rest_of (all_rows ts)).here ≡ ts
here-all ts =
    ap (λ (xs : List Token). (rest_of xs).here) (sym (append-nil (all_rows ts)))
    ∙ (ap (λ (r : Rest). r.here) (rest-all ts []) ∙ join-none ts)

pub rows-push : (ts : Forest) (x : Tree) → all_rows (push ts x) ≡ all_rows ts ++ rows_of x
rows-push none x = append-nil (rows_of x)
rows-push (more y ts) x =
    ap (λ xs. rows_of y ++ xs) (rows-push ts x) ∙ sym (append_assoc (rows_of y) (all_rows ts) (rows_of x))

-- the first of a chain; an entry of code 0 where there is none
abbrev pub head_of : Forest → Tree
head_of none = leaf (record { value = 0; width = 0 }) []
head_of (more x ts) = x

pub tree_of_rows : (x : Tree) → head_of (rest_of (rows_of x)).here ≡ x
tree_of_rows x =
    ap (λ (xs : List Token). head_of (rest_of xs).here) (sym (append-nil (rows_of x)))
    ∙ ap (λ (r : Rest). head_of r.here) (rest-rows x [])
