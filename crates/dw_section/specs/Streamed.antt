-- A section read item by item, said over the bytes alone: no plain reader. A loop keeps `SoFar`. Each item's answer is
-- that of a unit which stands alone, over the bytes from the item's first on.
use Rattle.std.proofs.Common.{false, ◌≡◌, ℕ, ◌+◌, ◌<◌, List, [], ◌∷◌, ◌++◌, length, refl, sym, ap, subst, ◌∙◌, append_assoc, arith, inl, inr}
use Rattle.std.proofs.lemmas.List.{length-append, append-nil}
use Rattle.dw_leb.specs.declared.errors.Reason.{Reason}
use Rattle.dw_leb.specs.declared.errors.Reason.TheVariants.{Truncated}
use Rattle.dw_leb.specs.declared.errors.SectionId.{SectionId}
use Rattle.dw_leb.specs.declared.errors.SectionId.TheVariants.{Info}
use Rattle.dw_leb.specs.declared.order.Order.{Order}
use Rattle.dw_leb.specs.declared.order.Format.{Format}
use Rattle.dw_header.specs.declared.versions.Versions.{Versions}
use Rattle.dw_leb.specs.Number.{initial_length, length_limit, length_size}
use Rattle.dw_section.specs.Item.{Item, item_bytes, version_and_type, ShowsKind, HasInitialLength, ItemFits, HoldsTable, ItemFails}
use Rattle.dw_section.specs.Section.{items_bytes, ItemsFit, HoldsTables, SectionIs, SectionFails}

-- of all the bytes these items are read, and those are left
pub record SoFar (versions : Versions) (order : Order) (abbreviations all : List ℕ) (before : List Item) (left : List ℕ)
    : Type 0 where
  pub fit : ItemsFit versions order 0 before
  pub tables : HoldsTables abbreviations before
  pub split : all ≡ items_bytes before ++ left

pub none_yet : (versions : Versions) (order : Order) (abbreviations all : List ℕ)
    → SoFar versions order abbreviations all [] all
none_yet versions order abbreviations all = record { fit = tt; tables = tt; split = refl }

pub items_end : (xs : List Item) (x : Item) → items_bytes (xs ++ x ∷ []) ≡ items_bytes xs ++ item_bytes x
items_end [] x = append-nil (item_bytes x)
items_end (y ∷ ys) x =
    ap (λ (b : List ℕ). item_bytes y ++ b) (items_end ys x)
    ∙ sym (append_assoc (item_bytes y) (items_bytes ys) (item_bytes x))

pub fit_end : (versions : Versions) (order : Order) (start : ℕ) (xs : List Item) (x : Item)
    → ItemsFit versions order start xs → ItemFits versions order (start + length (items_bytes xs)) x
    → ItemsFit versions order start (xs ++ x ∷ [])
fit_end versions order start [] x fit here = (subst (λ (q : ℕ). ItemFits versions order q x) (omega arith) here, tt)
fit_end versions order start (y ∷ ys) x fit here = (
  fit.0,
  fit_end versions order (start + length (item_bytes y)) ys x fit.1
      (subst (λ (q : ℕ). ItemFits versions order q x) (omega (arith, length-append (item_bytes y) (items_bytes ys)))
      here),
)

tables_end : (abbreviations : List ℕ) (xs : List Item) (x : Item) → HoldsTables abbreviations xs
    → HoldsTable abbreviations x → HoldsTables abbreviations (xs ++ x ∷ [])
tables_end abbreviations [] x h here = (here, tt)
tables_end abbreviations (y ∷ ys) x h here = (h.0, tables_end abbreviations ys x h.1 here)

pub one_more : (versions : Versions) (order : Order) (abbreviations all : List ℕ) (before : List Item) (left : List ℕ)
    (x : Item) (rest : List ℕ) → SoFar versions order abbreviations all before left
    → ItemFits versions order (length (items_bytes before)) x → HoldsTable abbreviations x → left ≡ item_bytes x ++ rest
    → SoFar versions order abbreviations all (before ++ x ∷ []) rest
one_more versions order abbreviations all before left x rest h fits place split = record {
  fit = fit_end versions order 0 before x h.fit (subst (λ (q : ℕ). ItemFits versions order q x) (omega arith) fits);
  tables = tables_end abbreviations before x h.tables place;
  split =
      h.split ∙ ap (λ (b : List ℕ). items_bytes before ++ b) split
      ∙ sym (append_assoc (items_bytes before) (item_bytes x) rest)
      ∙ ap (λ (b : List ℕ). b ++ rest) (sym (items_end before x));
}

pub at_end : (versions : Versions) (order : Order) (abbreviations all : List ℕ) (before : List Item)
    → SoFar versions order abbreviations all before [] → SectionIs versions order abbreviations before all
at_end versions order abbreviations all before h =
    record { fit = h.fit; tables = h.tables; spelled = h.split ∙ append-nil (items_bytes before) }

pub first_fault : (versions : Versions) (order : Order) (abbreviations all : List ℕ) (before : List Item)
    (left : List ℕ) (s : SectionId) (offset : ℕ) (reason : Reason) → SoFar versions order abbreviations all before left
    → 0 < length left
    → ItemFails versions order abbreviations (length (items_bytes before)) left s offset reason
    → SectionFails versions order abbreviations all s offset reason
first_fault versions order abbreviations all before left s offset reason h some fails = record {
  before = before;
  rest = left;
  fit = h.fit;
  tables = h.tables;
  split = h.split;
  some = some;
  fails = subst (λ (q : ℕ). ItemFails versions order abbreviations q left s offset reason) (omega arith) fails;
}

-- ---- an item that breaks before it is known to be a unit; `left` begins with the item's first byte

-- in its length
pub length_fault : (versions : Versions) (order : Order) (abbreviations : List ℕ) (start : ℕ) (left : List ℕ) (own : ℕ)
    (reason : Reason) → (initial_length order start).Break left length_limit own reason
    → ItemFails versions order abbreviations start left Info (start + own) reason
length_fault versions order abbreviations start left own reason breaks = inl (own, refl, breaks)

-- in what shows its kind
pub kind_fault : (versions : Versions) (order : Order) (abbreviations : List ℕ) (start : ℕ) (left : List ℕ)
    (format : Format) (n : ℕ) (rest : List ℕ) (own : ℕ) (reason : Reason)
    → HasInitialLength order start left format n rest
    → (version_and_type versions order n).Break rest n own reason
    → ItemFails versions order abbreviations start left Info (start + length_size format + own) reason
kind_fault versions order abbreviations start left format n rest own reason begins breaks =
    inr (inl (format, n, rest, own, begins, refl, breaks))

-- in its bytes, where it is no unit that is read
pub other_cut : (versions : Versions) (order : Order) (abbreviations : List ℕ) (start : ℕ) (left : List ℕ)
    (format : Format) (n : ℕ) (rest : List ℕ) → HasInitialLength order start left format n rest
    → ShowsKind versions order n rest false → length rest < n
    → ItemFails versions order abbreviations start left Info (start + length_size format) Truncated
other_cut versions order abbreviations start left format n rest begins shows less =
    inr (inr (inl (format, n, rest, begins, shows, less, refl, refl)))
