-- The findings of a section, item by item.
use Rattle.std.proofs.Common.{◌≡◌, ◌∙◌, ℕ, zero, suc, ◌+◌, ◌<◌, ◌^◌, List, [], ◌∷◌, ◌++◌, drop, length, Some, refl, sym, ap, subst, arith, append_assoc}
use Rattle.std.specs.Prelude.{slice_get}
use Rattle.std.proofs.lemmas.List.{append-nil}
use Rattle.dw_unit.specs.Unit.{WholeUnit, UnitFits, bytes_of}
use Rattle.dw_section.specs.Item.{Item, Known, item_bytes}
use Rattle.dw_section.specs.ItemPlace.{item_end}
use Rattle.dw_section.specs.Section.{WholeSection, SectionFits, ItemsFit}
use Rattle.dw_section.specs.Reference.{items_from}
use Rattle.dw_section.specs.Lookup.{known_of, unit_at}
use Rattle.dw_strings.specs.Text.{StringSections}
use Rattle.dw_check.specs.declared.finding.Finding.{Finding}
use Rattle.dw_check.specs.Findings.{item_findings, items_findings, findings}

-- the first of those that are left
first_left : (xs ys : List Item) (i : ℕ) (x : Item) → drop i xs ≡ x ∷ ys → slice_get xs i ≡ Some x
first_left [] ys zero x e = absurd cc
first_left [] ys (suc i) x e = absurd cc
first_left (y ∷ xs) ys zero x e = let same : y ≡ x = cc in ap Some same
first_left (y ∷ xs) ys (suc i) x e = first_left xs ys i x e

-- the others
others_left : (xs ys : List Item) (i : ℕ) (x : Item) → drop i xs ≡ x ∷ ys → drop (suc i) xs ≡ ys
others_left [] ys zero x e = absurd cc
others_left [] ys (suc i) x e = absurd cc
others_left (y ∷ xs) ys zero x e = let same : xs ≡ ys = cc in same
others_left (y ∷ xs) ys (suc i) x e = others_left xs ys i x e

-- what was found so far, and what is still to be found in the items that are left, of which the first has this number and start
pub record ItemsSoFar (s : WholeSection) (strings : StringSections) (found : List Finding) (number start : ℕ) (left : List Item) : Type 0 where
  pub so_far : findings strings s ≡ found ++ items_findings s.items strings (items_from number start left)
  pub left_are : drop number s.items ≡ left
  pub fit : ItemsFit s.versions s.order start left

pub none_checked : (s : WholeSection) (strings : StringSections) → SectionFits s → ItemsSoFar s strings [] 0 0 s.items
none_checked s strings fits = record { so_far = refl; left_are = refl; fit = fits }

pub one_checked : (s : WholeSection) (strings : StringSections) (found new : List Finding) (number start size : ℕ) (x : Item) (xs : List Item)
    → ItemsSoFar s strings found number start (x ∷ xs) → new ≡ found ++ item_findings s.items strings number start x → size ≡ length (item_bytes x) → ItemsSoFar s strings new (number + 1) (start + size) xs
one_checked s strings found new number start size x xs h is sized =
    let rest : ℕ → ℕ → List Finding = λ n q. items_findings s.items strings (items_from n q xs) in
    let n : suc number ≡ number + 1 = omega arith in
    let q : start + length (item_bytes x) ≡ start + size = omega (arith, sized) in
    record {
      so_far = h.so_far
          ∙ sym (append_assoc found (item_findings s.items strings number start x) (rest (suc number) (start + length (item_bytes x))))
          ∙ ap (λ (f : List Finding). f ++ rest (suc number) (start + length (item_bytes x))) (sym is)
          ∙ ap (λ (m : ℕ). new ++ rest m (start + length (item_bytes x))) n
          ∙ ap (λ (m : ℕ). new ++ rest (number + 1) m) q;
      left_are = subst (λ (m : ℕ). drop m s.items ≡ xs) n (others_left s.items xs number x h.left_are);
      fit = subst (λ (m : ℕ). ItemsFit s.versions s.order m xs) q h.fit.1;
    }

pub all_checked : (s : WholeSection) (strings : StringSections) (found : List Finding) (number start : ℕ) → ItemsSoFar s strings found number start [] → found ≡ findings strings s
all_checked s strings found number start h = sym (append-nil found) ∙ sym h.so_far

module _ (s : WholeSection) (strings : StringSections) (found : List Finding) (number start : ℕ) (u : WholeUnit) (xs : List Item) (h : ItemsSoFar s strings found number start (Known u ∷ xs)) where
  -- the unit that comes next is the item of this number
  pub unit_known : unit_at s.items number ≡ Some u
  unit_known = ap known_of (first_left s.items xs number (Known u) h.left_are)

  pub unit_fits : UnitFits u
  unit_fits = h.fit.0.fits

  pub unit_ends : start + length (bytes_of u) < 2 ^ 64
  unit_ends = omega (arith, item_end s.versions s.order start (Known u) h.fit.0)
