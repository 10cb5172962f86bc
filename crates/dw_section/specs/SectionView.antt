-- What the program keeps of a section besides its items: where they start, the bases of their strings, its size, and
-- the entries of types by their signatures.
use Rattle.std.proofs.Common.{◌≡◌, ℕ, ◌+◌, ◌<◌, ◌^◌, eqb, List, [], ◌∷◌, ◌++◌, length, map, Option, Some, None, refl, sym, ap, subst, ◌∙◌, arith}
use Rattle.std.specs.Prelude.{option_map, ◌==◌, if◌then◌else◌}
use Rattle.std.specs.Map.{lookup}
use Rattle.std.proofs.lemmas.List.{length-append, map-append}
use Rattle.dw_leb.specs.declared.order.Order.{Order}
use Rattle.dw_header.specs.declared.versions.Versions.{Versions}
use Rattle.dw_section.specs.declared.id.EntryId.{EntryId}
use Rattle.dw_section.specs.Item.{Item, item_bytes, ItemFits}
use Rattle.dw_section.specs.ItemPlace.{item_end}
use Rattle.dw_section.specs.Section.{items_bytes, ItemsFit, WholeSection, SectionFits, section_bytes}
use Rattle.dw_section.specs.Reference.{ItemAt, TypeAt, items_at, type_in, earlier, first_type}
use Rattle.dw_section.specs.Lookup.{starts_from, items_from_end, type_end}
use Rattle.dw_section.specs.StringBase.{base_in}
use Rattle.dw_section.specs.Streamed.{items_end, fit_end}

abbrev pub id_of : TypeAt → EntryId
id_of t = record { item = t.number; offset = t.offset }

abbrev pub first_id : Option EntryId → Option EntryId → Option EntryId
first_id None later = later
first_id (Some id) later = Some id

-- the entry of a type that has this signature
abbrev pub id_under : ℕ → ℕ → EntryId → Option EntryId
id_under v signature id = if signature == v then Some id else None

pub record IsSection (s : WholeSection) (starts : List ℕ) (bases : List (Option ℕ)) (types : List (ℕ × EntryId))
    (end : ℕ) : Type 0 where
  pub fits : SectionFits s
  pub starts_are : starts ≡ starts_from 0 s.items
  pub bases_are : bases ≡ map base_in s.items
  pub types_are : (v : ℕ) → lookup (eqb v) types ≡ option_map id_of (first_type (items_at s.items) v)
  pub end_is : end ≡ length (section_bytes s)

-- ---- one more item

starts_end : (xs : List Item) (start : ℕ) (x : Item)
    → starts_from start (xs ++ x ∷ []) ≡ starts_from start xs ++ (start + length (items_bytes xs)) ∷ []
starts_end [] start x = ap (λ (m : ℕ). m ∷ []) (omega arith)
starts_end (y ∷ ys) start x =
    let same : start + length (item_bytes y) + length (items_bytes ys)
    ≡ start + length (item_bytes y ++ items_bytes ys) =
    omega (arith, length-append (item_bytes y) (items_bytes ys)) in
    ap (λ (l : List ℕ). start ∷ l)
    (starts_end ys (start + length (item_bytes y)) x
    ∙ ap (λ (m : ℕ). starts_from (start + length (item_bytes y)) ys ++ m ∷ []) same)

earlier_none : (o : Option TypeAt) → earlier o None ≡ o
earlier_none None = refl
earlier_none (Some t) = refl

pub ids_earlier : (a b : Option TypeAt)
    → option_map id_of (earlier a b) ≡ first_id (option_map id_of a) (option_map id_of b)
ids_earlier None b = refl
ids_earlier (Some t) b = refl

module _ (s : WholeSection) (starts : List ℕ) (bases : List (Option ℕ)) (types : List (ℕ × EntryId)) (end : ℕ)
    (h : IsSection s starts bases types end) (x : Item) where
  -- a look-up in the types gives the first of both
  abbrev pub FollowsType : List (ℕ × EntryId) → Type 0
  FollowsType more =
      (v : ℕ) → lookup (eqb v) more ≡ first_id (lookup (eqb v) types) (option_map id_of (type_in v (length s.items) x))

  types_end : (more : List (ℕ × EntryId)) → FollowsType more → (v : ℕ)
      → lookup (eqb v) more ≡ option_map id_of (first_type (items_at (s.items ++ x ∷ [])) v)
  types_end more follows v =
      let n : length s.items ≡ 0 + length s.items = omega arith in
      follows v
      ∙ ap (λ (o : Option EntryId). first_id o (option_map id_of (type_in v (length s.items) x))) (h.types_are v)
      ∙ sym (ids_earlier (first_type (items_at s.items) v) (type_in v (length s.items) x))
      ∙ ap (λ (o : Option TypeAt). option_map id_of (earlier (first_type (items_at s.items) v) o))
      (sym (earlier_none (type_in v (length s.items) x)))
      ∙ ap (λ (m : ℕ). option_map id_of (earlier (first_type (items_at s.items) v) (earlier (type_in v m x) None))) n
      ∙ ap (option_map id_of)
      (sym
      (type_end (items_at s.items)
      (record { number = 0 + length s.items; start = 0 + length (items_bytes s.items); item = x }) v))
      ∙ ap (λ (l : List ItemAt). option_map id_of (first_type l v)) (sym (items_from_end s.items 0 0 x))

  pub kept_one : (xs : List Item) (more_starts : List ℕ) (more_bases : List (Option ℕ)) (more : List (ℕ × EntryId))
      (more_end : ℕ) → xs ≡ s.items ++ x ∷ [] → more_starts ≡ starts ++ end ∷ [] → more_bases ≡ bases ++ base_in x ∷ []
      → FollowsType more
      → more_end ≡ end + length (item_bytes x) → ItemFits s.versions s.order (length (section_bytes s)) x
      → IsSection (record { order = s.order; versions = s.versions; items = xs }) more_starts more_bases more more_end
  kept_one xs more_starts more_bases more more_end xs_are starts_are bases_are follows end_is fits =
      subst
      (λ (l : List Item).
      IsSection (record { order = s.order; versions = s.versions; items = l }) more_starts more_bases more
      more_end)
      (sym xs_are) (record {
        fits =
            fit_end s.versions s.order 0 s.items x h.fits
            (subst (λ (q : ℕ). ItemFits s.versions s.order q x) (omega arith) fits);
        starts_are =
            starts_are ∙ ap (λ (l : List ℕ). l ++ end ∷ []) h.starts_are
            ∙ ap (λ (m : ℕ). starts_from 0 s.items ++ m ∷ []) (h.end_is ∙ omega arith) ∙ sym (starts_end s.items 0 x);
        bases_are =
            bases_are ∙ ap (λ (l : List (Option ℕ)). l ++ base_in x ∷ []) h.bases_are
            ∙ sym (map-append base_in s.items (x ∷ []));
        types_are = types_end more follows;
        end_is =
            omega (
              arith,
              end_is,
              h.end_is,
              ap length (items_end s.items x),
              length-append (items_bytes s.items) (item_bytes x),
            );
      })

-- it ends below 2 ^ 63
items_end_below : (versions : Versions) (order : Order) (start : ℕ) (xs : List Item) → start < 2 ^ 63
    → ItemsFit versions order start xs → start + length (items_bytes xs) < 2 ^ 63
items_end_below versions order start [] lt fit = omega (arith, lt)
items_end_below versions order start (x ∷ xs) lt fit =
    omega (
      arith,
      items_end_below versions order (start + length (item_bytes x)) xs (item_end versions order start x fit.0) fit.1,
      length-append (item_bytes x) (items_bytes xs),
    )

pub section_end : (s : WholeSection) → SectionFits s → length (section_bytes s) < 2 ^ 63
section_end s fits = let below = items_end_below s.versions s.order 0 s.items (omega arith) fits in omega (arith, below)
