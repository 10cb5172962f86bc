-- The bytes before a place are those of its rows, so a draft's size counts what a feed took for it.
use Rattle.std.proofs.Common.{◌≡◌, ℕ, ◌+◌, List, [], ◌∷◌, ◌++◌, length, sym, ap, ap₂, ◌∙◌, append_assoc, arith, length-append}
use Rattle.dw_form.specs.declared.shape.Ctx.{Ctx}
use Rattle.dw_abbrev.specs.Table.{Table}
use Rattle.dw_header.specs.Header.{context_of}
use Rattle.dw_header.specs.HeaderPlace.{header_size}
use Rattle.dw_tree.specs.Tree.{Forest, nulls}
use Rattle.dw_tree.specs.Spelling.{entry_bytes, forest_bytes}
use Rattle.dw_tree.specs.Row.{branch_row, all_rows, rows_bytes}
use Rattle.dw_tree.specs.Place.{Frame, rows_before}
use Rattle.dw_tree.specs.Steps.{unfinished_bytes}
use Rattle.dw_unit.specs.Draft.{Drafted, drafted_size}
use Rattle.dw_tree.specs.RowBytes.{bytes_append, rows_are_forest}
use Rattle.dw_feed.specs.PlaceBytes.{open_bytes, place_bytes}

module _ (k : Ctx) (t : Table) where
  pub place_rows : (fs : List Frame) (ts : Forest)
      → rows_bytes k t (rows_before fs ts) ≡ open_bytes k t fs ++ forest_bytes k t ts
  place_rows [] ts = rows_are_forest k t ts
  place_rows (f ∷ fs) ts =
      let o : List ℕ = open_bytes k t fs in
      let l : List ℕ = forest_bytes k t f.left in
      let e : List ℕ = entry_bytes k t f.code f.values in
      let c : List ℕ = forest_bytes k t ts in
      bytes_append k t (rows_before fs f.left) (branch_row f.code f.values ∷ all_rows ts)
      ∙ (ap₂ (λ (bs cs : List ℕ). bs ++ (e ++ cs)) (place_rows fs f.left) (rows_are_forest k t ts)
      ∙ (sym (append_assoc (o ++ l) e c) ∙ ap (λ (bs : List ℕ). bs ++ c) (append_assoc o l e)))

-- a draft's size is that of its header and of the bytes before its place
pub draft_size : (d : Drafted)
    → drafted_size d
    ≡ header_size d.header
    + length
    (place_bytes (context_of d.header) d.table d.place.spot.above d.place.spot.left d.place.unfinished d.padding)
draft_size d =
    let k : Ctx = context_of d.header in
    let o : List ℕ = open_bytes k d.table d.place.spot.above in
    let c : List ℕ = forest_bytes k d.table d.place.spot.left in
    let s : List ℕ = unfinished_bytes k d.table d.place.unfinished in
    omega (
      arith,
      ap length (place_rows k d.table d.place.spot.above d.place.spot.left),
      length-append o c,
      length-append o (c ++ (s ++ nulls d.padding)),
      length-append c (s ++ nulls d.padding),
      length-append s (nulls d.padding),
    )
