-- What a unit keeps when one of its numbers becomes another.
use Rattle.std.proofs.Common.{◌≡◌, ℕ, ◌-◌, List, ◌++◌, length, sym, ap, subst, ◌∙◌, arith, length-append}
use Rattle.dw_leb.specs.Number.{length_field, initial_length}
use Rattle.dw_header.specs.Header.{fields, fields_of, context_of}
use Rattle.dw_tree.specs.Tree.{tree, nesting, nulls, unit_tree}
use Rattle.dw_tree.specs.Steps.{TreeAt}
use Rattle.dw_tree.specs.Put.{Edit, put}
use Rattle.dw_unit.specs.Unit.{WholeUnit, UnitFits, body_bytes, bytes_of, tree_of}
use Rattle.dw_unit.specs.UnitView.{IsUnit}
use Rattle.dw_unit.specs.Put.{put_in_unit}

-- a tree as the part says it
abbrev pub TreeFits : TreeAt → Type 0
TreeFits t = (unit_tree t.context t.table).Fits t.root

abbrev pub tree_size : TreeAt → ℕ
tree_size t = length ((unit_tree t.context t.table).spell t.root)

-- a unit with another tree
abbrev pub with_tree : WholeUnit → TreeAt → WholeUnit
with_tree u t = record { header = u.header; table = t.table; root = t.root; padding = u.padding }

module _ (u : WholeUnit) (old : TreeAt) (size : ℕ) (h : IsUnit u old size) (e : Edit) (new : TreeAt) (is : new ≡ put e old) (fits : TreeFits new) (same : tree_size new ≡ tree_size old) where
  put_is : new ≡ put e (tree_of u)
  put_is = is ∙ ap (put e) h.tree_is

  pub unit_is : with_tree u new ≡ put_in_unit e u
  unit_is = ap (with_tree u) put_is

  tree_fits : TreeFits (put e (tree_of u))
  tree_fits = subst TreeFits put_is fits

  size_kept : tree_size (put e (tree_of u)) ≡ tree_size (tree_of u)
  size_kept = ap tree_size (sym put_is) ∙ (same ∙ ap tree_size h.tree_is)

  body_kept : length (body_bytes (put_in_unit e u)) ≡ length (body_bytes u)
  body_kept =
      let ahead = (fields u.header.order u.header.format).spell (fields_of u.header) in
      let part = tree (context_of u.header) u.table (nesting - 1) in
      let v = put_in_unit e u in
      omega (
        arith,
        size_kept,
        length-append ahead (part.spell v.root ++ nulls u.padding),
        length-append ahead (part.spell u.root ++ nulls u.padding),
        length-append (part.spell v.root) (nulls u.padding),
        length-append (part.spell u.root) (nulls u.padding),
      )

  bytes_kept : length (bytes_of (put_in_unit e u)) ≡ length (bytes_of u)
  bytes_kept =
      let field : ℕ → List ℕ = λ n. (length_field u.header.order).spell (u.header.format, n) in
      let v = put_in_unit e u in
      omega (
        arith,
        body_kept,
        ap (λ (n : ℕ). length (field n)) body_kept,
        length-append (field (length (body_bytes v))) (body_bytes v),
        length-append (field (length (body_bytes u))) (body_bytes u),
      )

  unit_fits : UnitFits (put_in_unit e u)
  unit_fits = record {
    length_fits = subst (λ (n : ℕ). (initial_length u.header.order 0).Fits (u.header.format, n)) (sym body_kept) h.fits.length_fits;
    header_fits = h.fits.header_fits;
    tree_fits = tree_fits;
    padding_fits = h.fits.padding_fits;
  }

  pub new_fits : UnitFits (with_tree u new)
  new_fits = subst UnitFits (sym unit_is) unit_fits

  pub new_body : length (body_bytes (with_tree u new)) ≡ length (body_bytes u)
  new_body = ap (λ (v : WholeUnit). length (body_bytes v)) unit_is ∙ body_kept

  pub new_size : length (bytes_of (with_tree u new)) ≡ length (bytes_of u)
  new_size = ap (λ (v : WholeUnit). length (bytes_of v)) unit_is ∙ bytes_kept

  pub new_tree : new ≡ tree_of (with_tree u new)
  new_tree = put_is ∙ ap tree_of (sym unit_is)

  pub still_unit : IsUnit (with_tree u new) new size
  still_unit = record { fits = new_fits; tree_is = new_tree; sized = new_size ∙ h.sized }
