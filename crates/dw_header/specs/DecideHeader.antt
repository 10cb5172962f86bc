-- Headers: each reader decides its part.
use Rattle.std.proofs.Common.{◌≡◌, ◌≢◌, ◌∙◌, ℕ, Bool, true, false, List, [], ◌∷◌, ◌++◌, Some, refl, sym, ap, append_assoc, inl, inr}
use Rattle.std.specs.Prelude.{◌==◌}
use Rattle.dw_leb.specs.Part.{Part, ◌then◌, judged, nothing}
use Rattle.dw_leb.specs.declared.order.Order.{Order}
use Rattle.dw_leb.specs.declared.order.Format.{Format}
use Rattle.dw_leb.specs.declared.errors.Reason.{Reason}
use Rattle.dw_leb.specs.declared.errors.Reason.TheVariants.{Truncated}
use Rattle.dw_leb.specs.Number.{offset_size, fixed, length_field, length_limit}
use Rattle.dw_leb.specs.Reader.{returned}
use Rattle.dw_leb.specs.Decide.{Decides, then_decides, judged_decides, seen_decides, nothing_decides}
use Rattle.dw_leb.specs.PartLaws.{Stays, then_stays, judged_stays, nothing_stays}
use Rattle.dw_leb.specs.DecideNumber.{initial_length_stays}
use Rattle.dw_leb.specs.Digits.{fixed_decides, Short_stays}
use Rattle.dw_header.specs.declared.versions.Versions.{Versions}
use Rattle.dw_header.specs.Header.{added_sizes, numbers, bad_version_under, bad_type, bad_address_size, no_more, first_and_rest, Fields, five_part, five_view, four_part, four_view, fields_behind, version_of, with_version, fields, fields_under}
use Rattle.dw_header.specs.FittingHeaders.{five_back, five_there, four_back, version_there}
use Rattle.dw_header.specs.HeaderPlace.{SpelledHeaderUnder, HeaderBreaksUnder}
use Rattle.dw_header.specs.ReadHeader.{read_numbers, five_from, read_five, four_from, read_four, read_behind, read_fields}

first_and_rest_back : (xs : List ℕ) (a : ℕ × List ℕ) → first_and_rest xs ≡ Some a → (a.0 ∷ a.1) ≡ xs
first_and_rest_back [] a e = absurd cc
first_and_rest_back (x ∷ xs) a e = let c : (x, xs) ≡ a = cc in ap (λ (y : ℕ × List ℕ). y.0 ∷ y.1) (sym c)

no_more_back : (xs : List ℕ) (a : Unit {0}) → no_more xs ≡ Some a → [] ≡ xs
no_more_back [] a e = refl
no_more_back (x ∷ xs) a e = absurd cc

pub numbers_decides : (order : Order) (ns : List ℕ) → Decides (numbers order ns) (read_numbers order ns)
numbers_decides order [] =
    seen_decides nothing (returned tt) no_more (λ _. [])
    (record { back = λ x a e fits. no_more_back x a e; there = λ a fits. refl }) nothing_decides
numbers_decides order (n ∷ ns) =
    seen_decides (fixed order n then λ _. numbers order ns) _ first_and_rest _
    (record { back = λ x a e fits. first_and_rest_back x a e; there = λ a fits. refl })
    (then_decides _ _ _ _ (fixed_decides order n) (λ _. numbers_decides order ns))

numbers_stays : (order : Order) (ns : List ℕ) → Stays (numbers order ns).Break
numbers_stays order [] = nothing_stays
numbers_stays order (n ∷ ns) =
    then_stays (fixed order n) (λ _. numbers order ns) (Short_stays n) (λ _. numbers_stays order ns)

-- ---- what follows the version

five_decides : (order : Order) (format : Format) → Decides (fields_behind order format false) (read_five order format)
five_decides order format =
    seen_decides (five_part order format) _ (λ f. five_view f.kind f.address_size f.abbrev_offset) five_from
    (record {
      back = λ f x e fits. five_back f.kind f.address_size f.abbrev_offset x e;
      there = λ x fits. five_there order format x fits;
    })
    (then_decides _ _ _ _ (judged_decides _ _ bad_type (fixed_decides order 1)) λ kind.
    then_decides _ _ _ _ (judged_decides _ _ bad_address_size (fixed_decides order 1)) λ _.
    then_decides _ _ _ _ (fixed_decides order (offset_size format)) λ _.
    numbers_decides order (added_sizes format kind))

four_decides : (order : Order) (format : Format) → Decides (fields_behind order format true) (read_four order format)
four_decides order format =
    seen_decides (four_part order format) _ (λ f. four_view f.kind f.address_size f.abbrev_offset) four_from
    (record { back = λ f x e fits. four_back f.kind f.address_size f.abbrev_offset x e; there = λ x fits. refl })
    (then_decides _ _ _ _ (fixed_decides order (offset_size format))
    λ _. judged_decides _ _ bad_address_size (fixed_decides order 1))

behind_decides : (order : Order) (format : Format) (four : Bool)
    → Decides (fields_behind order format four) (read_behind order format four)
behind_decides order format true = four_decides order format
behind_decides order format false = five_decides order format

abbrev fields4 : Order → Format → ℕ → Part (ℕ × List ℕ)
fields4 order format kind = fixed order (offset_size format) then λ _. numbers order (added_sizes format kind)

abbrev fields3 : Order → Format → ℕ → Part (ℕ × (ℕ × List ℕ))
fields3 order format kind = judged (fixed order 1) bad_address_size then λ _. fields4 order format kind

five_stays : (order : Order) (format : Format) → Stays (five_part order format).Break
five_stays order format =
    then_stays (judged (fixed order 1) bad_type) (fields3 order format)
    (judged_stays (fixed order 1) bad_type (Short_stays 1)) λ kind.
    then_stays (judged (fixed order 1) bad_address_size) (λ _. fields4 order format kind)
    (judged_stays (fixed order 1) bad_address_size (Short_stays 1)) λ _.
    then_stays (fixed order (offset_size format)) (λ _. numbers order (added_sizes format kind))
    (Short_stays (offset_size format)) λ _.
    numbers_stays order (added_sizes format kind)

four_stays : (order : Order) (format : Format) → Stays (four_part order format).Break
four_stays order format =
    then_stays (fixed order (offset_size format)) (λ _. judged (fixed order 1) bad_address_size)
    (Short_stays (offset_size format)) λ _. judged_stays (fixed order 1) bad_address_size (Short_stays 1)

behind_stays : (order : Order) (format : Format) (four : Bool) → Stays (fields_behind order format four).Break
behind_stays order format true = four_stays order format
behind_stays order format false = five_stays order format

-- ---- all fields

version_back : (x : Fields) (a : ℕ × Fields) → with_version x ≡ Some a → a.1 ≡ x
version_back x a e = let c : (version_of x.kind, x) ≡ a = cc in ap (λ (y : ℕ × Fields). y.1) (sym c)

version_seen : (v : ℕ) (f : Fields) → version_of f.kind ≡ v → with_version f ≡ Some (v, f)
version_seen v f e = ap (λ (n : ℕ). Some (n, f)) e

pub fields_decides : (versions : Versions) (order : Order) (format : Format)
    → Decides (fields_under versions order format) (read_fields versions order format)
unfolding read_fields
fields_decides versions order format =
    seen_decides
    (judged (fixed order 2) (bad_version_under versions) then λ version. fields_behind order format (version == 4)) _
    with_version (λ x. x.1)
    (record {
      back = λ x a e fits. version_back x a e;
      there = λ a fits. version_seen a.0 a.1 (version_there versions order format a.0 a.1 fits.0.1 fits.1);
    })
    (then_decides _ _ _ _ (judged_decides _ _ (bad_version_under versions) (fixed_decides order 2))
    λ version. behind_decides order format (version == 4))

pub fields_stays : (versions : Versions) (order : Order) (format : Format)
    → Stays (fields_under versions order format).Break
fields_stays versions order format =
    then_stays (judged (fixed order 2) (bad_version_under versions))
    (λ version. fields_behind order format (version == 4))
    (judged_stays (fixed order 2) (bad_version_under versions) (Short_stays 2)) λ version.
    behind_stays order format (version == 4)

-- ---- with the initial length before it

pub header_stays : (versions : Versions) (order : Order) (bytes tail : List ℕ) (offset : ℕ) (reason : Reason)
    → reason ≢ Truncated → HeaderBreaksUnder versions order bytes offset reason
    → HeaderBreaksUnder versions order (bytes ++ tail) offset reason
header_stays versions order bytes tail offset reason ne (inl one) =
    inl (initial_length_stays order 0 bytes tail length_limit offset reason ne one)
header_stays versions order bytes tail offset reason ne (inr (format, n, rest, own, fits, split, sum, breaks)) =
    inr (
      format,
      n,
      rest ++ tail,
      own,
      fits,
      ap (λ (b : List ℕ). b ++ tail) split ∙ append_assoc ((length_field order).spell (format, n)) rest tail,
      sum,
      fields_stays versions order format rest tail n own reason ne breaks,
    )

pub headed_stays : (versions : Versions) (order : Order) (bytes tail : List ℕ) (format : Format) (n : ℕ) (x : Fields)
    (rest : List ℕ) → SpelledHeaderUnder versions order bytes format n x rest
    → SpelledHeaderUnder versions order (bytes ++ tail) format n x (rest ++ tail)
headed_stays versions order bytes tail format n x rest h = record {
  length_fits = h.length_fits;
  fields_fit = h.fields_fit;
  within = h.within;
  split =
      ap (λ (b : List ℕ). b ++ tail) h.split
      ∙ append_assoc ((length_field order).spell (format, n)) ((fields order format).spell x ++ rest) tail
      ∙ ap (λ (b : List ℕ). (length_field order).spell (format, n) ++ b)
      (append_assoc ((fields order format).spell x) rest tail);
}
