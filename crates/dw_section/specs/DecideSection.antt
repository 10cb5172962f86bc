-- Sections: the plain reader takes what is spelled, faults where it fails, and does nothing else.
use Rattle.std.proofs.Common.{◌≡◌, ℕ, zero, suc, ◌+◌, ◌<◌, List, [], ◌∷◌, ◌++◌, length, drop, refl, sym, ap, subst, ◌∙◌, append_assoc, arith}
use Rattle.std.proofs.lemmas.List.{drop_at, length-append, append-nil}
use Rattle.dw_leb.specs.declared.errors.Reason.{Reason}
use Rattle.dw_leb.specs.declared.errors.SectionId.{SectionId}
use Rattle.dw_leb.specs.declared.order.Order.{Order}
use Rattle.dw_leb.specs.Decide.{AreBytes, AreBytes-behind}
use Rattle.dw_header.specs.declared.versions.Versions.{Versions}
use Rattle.dw_section.specs.Item.{Item, item_bytes, ItemFits, HoldsTable, ItemFails}
use Rattle.dw_section.specs.ItemPlace.{item_some}
use Rattle.dw_section.specs.Section.{items_bytes, ItemsFit, HoldsTables, SectionIs, FailsBehind, SectionFails}
use Rattle.dw_section.specs.ReadSection.{ItemAnswer, IsItem, IsFault, read_item, SectionAnswer, Items, Fails, put_before, behind_item, read_items, read_section}
use Rattle.dw_section.specs.DecideItem.{item_take, item_fault, ItemSays, item_says}

abbrev put_all : List Item → SectionAnswer → SectionAnswer
put_all [] a = a
put_all (x ∷ xs) a = put_before x (put_all xs a)

put_items : (xs : List Item) → put_all xs (Items []) ≡ Items xs
put_items [] = refl
put_items (x ∷ xs) = ap (put_before x) (put_items xs)

put_fails : (xs : List Item) (s : SectionId) (offset : ℕ) (reason : Reason)
    → put_all xs (Fails s offset reason) ≡ Fails s offset reason
put_fails [] s offset reason = refl
put_fails (x ∷ xs) s offset reason = ap (put_before x) (put_fails xs s offset reason)

module _ (versions : Versions) (order : Order) (abbreviations : List ℕ) where
  -- one item at the front of some bytes, and then the others
  item_before : (fuel start : ℕ) (x : Item) (rest : List ℕ) → ItemFits versions order start x
      → HoldsTable abbreviations x
      → read_items versions order abbreviations (suc fuel) start (item_bytes x ++ rest)
      ≡ put_before x (read_items versions order abbreviations fuel (start + length (item_bytes x)) rest)
  item_before fuel start x rest fits place =
      by (item_bytes x ++ rest) refl
      (omega (arith, item_some versions order start x fits, length-append (item_bytes x) rest))
    where
      next : List ℕ → ItemAnswer → SectionAnswer
      next bytes a = behind_item start bytes (read_items versions order abbreviations fuel) a

      by : (bytes : List ℕ) → item_bytes x ++ rest ≡ bytes → 0 < length bytes
          → read_items versions order abbreviations (suc fuel) start bytes
          ≡ put_before x (read_items versions order abbreviations fuel (start + length (item_bytes x)) rest)
      by [] e lt = absurd (omega (arith, lt))
      by (b ∷ bytes) e lt =
          ap (next (b ∷ bytes))
          (ap (read_item versions order abbreviations start) (sym e)
          ∙ item_take versions order abbreviations start x rest fits place)
          ∙ ap
          (λ (c : List ℕ).
          put_before x (read_items versions order abbreviations fuel (start + length (item_bytes x)) c))
          (ap (drop (length (item_bytes x))) (sym e) ∙ drop_at (item_bytes x) rest (length (item_bytes x)) refl)

  -- items at the front, and then what is left
  items_before : (xs : List Item) (fuel start : ℕ) (rest : List ℕ) → ItemsFit versions order start xs
      → HoldsTables abbreviations xs → length (items_bytes xs ++ rest) < fuel
      → (left : ℕ) × (length rest < left)
      × (read_items versions order abbreviations fuel start (items_bytes xs ++ rest)
      ≡ put_all xs (read_items versions order abbreviations left (start + length (items_bytes xs)) rest))
  items_before [] fuel start rest fits places lt =
      (fuel, lt, ap (λ (m : ℕ). read_items versions order abbreviations fuel m rest) (omega arith))
  items_before (x ∷ xs) zero start rest fits places lt = absurd (omega (arith, lt))
  items_before (x ∷ xs) (suc fuel) start rest fits places lt =
      let tail : List ℕ = items_bytes xs ++ rest in
      let whole : (item_bytes x ++ items_bytes xs) ++ rest ≡ item_bytes x ++ tail =
      append_assoc (item_bytes x) (items_bytes xs) rest in
      let some : 0 < length (item_bytes x) = item_some versions order start x fits.0 in
      let less : length tail < fuel = omega (arith, lt, some, ap length whole, length-append (item_bytes x) tail) in
      let later = items_before xs fuel (start + length (item_bytes x)) rest fits.1 places.1 less in
      let moved : start + length (item_bytes x) + length (items_bytes xs)
      ≡ start + length (item_bytes x ++ items_bytes xs) =
      omega (arith, length-append (item_bytes x) (items_bytes xs)) in (
        later.0,
        later.1,
        ap (read_items versions order abbreviations (suc fuel) start) whole
            ∙ item_before fuel start x tail fits.0 places.0 ∙ ap (put_before x) later.2
            ∙ ap (λ (m : ℕ). put_before x (put_all xs (read_items versions order abbreviations later.0 m rest))) moved,
      )

  no_bytes : (fuel start : ℕ) → 0 < fuel → read_items versions order abbreviations fuel start [] ≡ Items []
  no_bytes zero start lt = absurd (omega (arith, lt))
  no_bytes (suc fuel) start lt = refl

  first_fails : (fuel start : ℕ) (bytes : List ℕ) (s : SectionId) (offset : ℕ) (reason : Reason) → 0 < length bytes
      → length bytes < fuel
      → ItemFails versions order abbreviations start bytes s offset reason
      → read_items versions order abbreviations fuel start bytes ≡ Fails s offset reason
  first_fails zero start bytes s offset reason some lt h = absurd (omega (arith, lt))
  first_fails (suc fuel) start [] s offset reason some lt h = absurd (omega (arith, some))
  first_fails (suc fuel) start (b ∷ bytes) s offset reason some lt h =
      ap (behind_item start (b ∷ bytes) (read_items versions order abbreviations fuel))
      (item_fault versions order abbreviations start (b ∷ bytes) s offset reason h)

  -- ---- what is spelled is read

  pub section_take : (items : List Item) (bytes : List ℕ) → SectionIs versions order abbreviations items bytes
      → read_section versions order abbreviations bytes ≡ Items items
  unfolding read_section
  section_take items bytes h =
      let same : bytes ≡ items_bytes items ++ [] = h.spelled ∙ sym (append-nil (items_bytes items)) in
      let all = items_before items (suc (length bytes)) 0 [] h.fit h.tables (omega (arith, ap length same)) in
      ap (λ (b : List ℕ). read_items versions order abbreviations (suc (length bytes)) 0 b) same ∙ all.2
      ∙ ap (put_all items) (no_bytes all.0 _ (omega (arith, all.1))) ∙ put_items items

  -- ---- what fails is refused, with that fault

  pub section_fault : (bytes : List ℕ) (s : SectionId) (offset : ℕ) (reason : Reason)
      → SectionFails versions order abbreviations bytes s offset reason
      → read_section versions order abbreviations bytes ≡ Fails s offset reason
  unfolding read_section
  section_fault bytes s offset reason h =
      let all = items_before h.before (suc (length bytes)) 0 h.rest h.fit h.tables (omega (arith, ap length h.split)) in
      ap (λ (b : List ℕ). read_items versions order abbreviations (suc (length bytes)) 0 b) h.split ∙ all.2
      ∙ ap (put_all h.before)
      (first_fails all.0 (0 + length (items_bytes h.before)) h.rest s offset reason h.some all.1 h.fails)
      ∙ put_fails h.before s offset reason

  -- ---- and nothing else

  abbrev pub ItemsSay : ℕ → List ℕ → SectionAnswer → Type 0
  ItemsSay start bytes (Items xs) =
      ItemsFit versions order start xs × HoldsTables abbreviations xs × (bytes ≡ items_bytes xs)
  ItemsSay start bytes (Fails s offset reason) = FailsBehind versions order abbreviations start bytes s offset reason

  put_says : (start : ℕ) (bytes : List ℕ) (x : Item) (rest : List ℕ) → ItemFits versions order start x
      → HoldsTable abbreviations x → bytes ≡ item_bytes x ++ rest → (a : SectionAnswer)
      → ItemsSay (start + length (item_bytes x)) rest a → ItemsSay start bytes (put_before x a)
  put_says start bytes x rest fits place split (Items xs) h =
      ((fits, h.0), (place, h.1), split ∙ ap (λ (c : List ℕ). item_bytes x ++ c) h.2)
  put_says start bytes x rest fits place split (Fails s offset reason) h = record {
    before = x ∷ h.before;
    rest = h.rest;
    fit = (fits, h.fit);
    tables = (place, h.tables);
    split =
        split ∙ ap (λ (c : List ℕ). item_bytes x ++ c) h.split
        ∙ sym (append_assoc (item_bytes x) (items_bytes h.before) h.rest);
    some = h.some;
    fails =
        subst (λ (m : ℕ). ItemFails versions order abbreviations m h.rest s offset reason)
        (omega (arith, length-append (item_bytes x) (items_bytes h.before))) h.fails;
  }

  items_say : (fuel start : ℕ) (bytes : List ℕ) → AreBytes abbreviations → AreBytes bytes → length bytes < fuel
      → ItemsSay start bytes (read_items versions order abbreviations fuel start bytes)
  items_say zero start bytes fit_s fit lt = absurd (omega (arith, lt))
  items_say (suc fuel) start [] fit_s fit lt = (tt, tt, refl)
  items_say (suc fuel) start (b ∷ more) fit_s fit lt =
      by (λ m rest ok less. items_say fuel m rest fit_s ok less)
      (read_item versions order abbreviations start (b ∷ more))
      (item_says versions order abbreviations start (b ∷ more) fit_s fit)
    where
      by :
          ((m : ℕ) (rest : List ℕ) → AreBytes rest → length rest < fuel
          → ItemsSay m rest (read_items versions order abbreviations fuel m rest))
          → (a : ItemAnswer) → ItemSays versions order abbreviations start (b ∷ more) a
          → ItemsSay start (b ∷ more) (behind_item start (b ∷ more) (read_items versions order abbreviations fuel) a)
      by later (IsFault s offset reason) h =
          record {
            before = [];
            rest = b ∷ more;
            fit = tt;
            tables = tt;
            split = refl;
            some = omega arith;
            fails = subst (λ (m : ℕ). ItemFails versions order abbreviations m (b ∷ more) s offset reason)
                (omega arith) h;
          }
      by later (IsItem x size) (fits, place, (rest, split, sized)) =
          let d : drop size (b ∷ more) ≡ rest = ap (drop size) split ∙ drop_at (item_bytes x) rest size sized in
          let some : 0 < length (item_bytes x) = item_some versions order start x fits in
          let less : length rest < fuel = omega (arith, lt, some, ap length split, length-append (item_bytes x) rest) in
          rw (d, ← sized)
          (put_says start (b ∷ more) x rest fits place split
          (read_items versions order abbreviations fuel (start + length (item_bytes x)) rest)
          (later (start + length (item_bytes x)) rest
          (AreBytes-behind (item_bytes x) rest (subst (λ (c : List ℕ). AreBytes c) split fit)) less))

  abbrev pub SectionSays : List ℕ → SectionAnswer → Type 0
  SectionSays bytes (Items xs) = SectionIs versions order abbreviations xs bytes
  SectionSays bytes (Fails s offset reason) = SectionFails versions order abbreviations bytes s offset reason

  said : (bytes : List ℕ) (a : SectionAnswer) → ItemsSay 0 bytes a → SectionSays bytes a
  said bytes (Items xs) h = record { fit = h.0; tables = h.1; spelled = h.2 }
  said bytes (Fails s offset reason) h = h

  pub section_says : (bytes : List ℕ) → AreBytes abbreviations → AreBytes bytes
      → SectionSays bytes (read_section versions order abbreviations bytes)
  unfolding read_section
  section_says bytes fit_s fit =
      said bytes (read_items versions order abbreviations (suc (length bytes)) 0 bytes)
      (items_say (suc (length bytes)) 0 bytes fit_s fit (omega arith))
