-- A header and its unit_length: what the plain reader reads stands there.
use Rattle.std.specs.Prelude.{◌≡◌, ℕ, ◌+◌, ◌-◌, ◌≤◌, ◌<◌, ◌^◌, List, ◌++◌, length, drop}
use Rattle.std.proofs.Common.{refl, sym, ap, subst, ◌∙◌, append_assoc, arith, inl, inr}
use Rattle.std.proofs.lemmas.List.{drop_at, length-append}
use Rattle.dw_leb.specs.declared.order.Order.{Order}
use Rattle.dw_leb.specs.declared.order.Format.{Format}
use Rattle.dw_leb.specs.Number.{length_field, initial_length, length_limit, length_size}
use Rattle.dw_leb.specs.Reader.{Outcome, Found, Broken}
use Rattle.dw_leb.specs.ReadNumber.{read_length}
use Rattle.dw_leb.specs.Decide.{Says, AreBytes, AreBytes-behind}
use Rattle.dw_leb.specs.DecideNumber.{initial_length_decides, initial-size, initial_end}
use Rattle.dw_header.specs.declared.versions.Versions.{Versions}
use Rattle.dw_header.specs.Header.{Header, Fields, fields, fields_under, fields_of}
use Rattle.dw_header.specs.HeaderPlace.{HeaderBreaksUnder, HeaderAtUnder, header_size}
use Rattle.dw_header.specs.ReadHeader.{read_fields, Heading, head_fields, head_length, read_head}
use Rattle.dw_header.specs.DecideHeader.{fields_decides}

abbrev pub HeadSays : Versions → Order → List ℕ → Outcome Heading → Type 0
HeadSays versions order bytes (Found x size) = HeaderAtUnder versions order bytes x.0 x.1
HeadSays versions order bytes (Broken offset reason) = HeaderBreaksUnder versions order bytes offset reason

fields_say : (versions : Versions) (order : Order) (bytes : List ℕ) (format : Format) (n : ℕ) (after : List ℕ)
    (size : ℕ) → (initial_length order 0).Fits (format, n) → bytes ≡ (length_field order).spell (format, n) ++ after
    → length ((length_field order).spell (format, n)) ≡ size
    → (o : Outcome Fields) → Says (fields_under versions order format) after n o
    → HeadSays versions order bytes (head_fields order format n size o)
fields_say versions order bytes format n after size fits split sized (Broken own reason) h =
    inr (format, n, after, own, fits, split, ap (λ (k : ℕ). k + own) (sym sized), h)
fields_say versions order bytes format n after size fits split sized (Found x more) h = (
  refl,
  h.rest,
  record {
    length_fits = fits;
    fields_fit = h.fits;
    split = split ∙ ap (λ (b : List ℕ). (length_field order).spell (format, n) ++ b) h.split;
    within = omega (arith, h.is_size, h.within);
  },
)

length_say : (versions : Versions) (order : Order) (bytes : List ℕ) → AreBytes bytes → (o : Outcome (Format × ℕ))
    → Says (initial_length order 0) bytes length_limit o
    → HeadSays versions order bytes (head_length versions order bytes o)
length_say versions order bytes fit (Broken offset reason) h = inl h
length_say versions order bytes fit (Found x size) h =
    let s : List ℕ = (length_field order).spell x in
    let d : drop size bytes ≡ h.rest = ap (λ (t : List ℕ). drop size t) h.split ∙ drop_at s h.rest size h.is_size in
    let fit2 : AreBytes h.rest = AreBytes-behind s h.rest (rw h.split at fit) in
    rw d
    (fields_say versions order bytes x.0 x.1 h.rest size h.fits h.split h.is_size
    (read_fields versions order x.0 h.rest x.1) ((fields_decides versions order x.0).says h.rest x.1 fit2))

pub head_says : (versions : Versions) (order : Order) (bytes : List ℕ) → AreBytes bytes
    → HeadSays versions order bytes (read_head versions order bytes)
head_says versions order bytes fit =
    length_say versions order bytes fit (read_length order 0 bytes length_limit)
    ((initial_length_decides order 0).says bytes length_limit fit)

-- ---- a header that stands at the front

module _ (versions : Versions) (order : Order) (bytes : List ℕ) (h : Header) (n : ℕ)
    (stands : HeaderAtUnder versions order bytes h n) where
  same_fields : length ((fields order h.format).spell (fields_of h))
      ≡ length ((fields h.order h.format).spell (fields_of h))
  same_fields = ap (λ (q : Order). length ((fields q h.format).spell (fields_of h))) (sym stands.0)

  -- its bytes, and how many of the unit_length are left behind it
  pub head_size : length ((length_field order).spell (h.format, n))
      + length ((fields order h.format).spell (fields_of h))
      ≡ header_size h
  head_size = omega (arith, same_fields, initial-size order 0 h.format n)

  pub head_left : n - length ((fields order h.format).spell (fields_of h)) ≡ n - (header_size h - length_size h.format)
  head_left = omega (arith, same_fields)

  -- what follows it
  pub head_rest : drop (header_size h) bytes ≡ stands.1
  head_rest =
      let l : List ℕ = (length_field order).spell (h.format, n) in
      let f : List ℕ = (fields order h.format).spell (fields_of h) in
      ap (drop (header_size h)) (stands.2.split ∙ sym (append_assoc l f stands.1))
      ∙ drop_at (l ++ f) stands.1 (header_size h) (length-append l f ∙ head_size)

  pub head_rest_bytes : AreBytes bytes → AreBytes stands.1
  head_rest_bytes fit =
      let l : List ℕ = (length_field order).spell (h.format, n) in
      let f : List ℕ = (fields order h.format).spell (fields_of h) in
      AreBytes-behind f stands.1 (AreBytes-behind l (f ++ stands.1) (subst AreBytes stands.2.split fit))

  -- it lies within the bytes ..
  pub head_room : header_size h ≤ length bytes
  head_room =
      let l : List ℕ = (length_field order).spell (h.format, n) in
      let f : List ℕ = (fields order h.format).spell (fields_of h) in
      omega (
        arith,
        same_fields,
        initial-size order 0 h.format n,
        ap length stands.2.split,
        length-append l (f ++ stands.1),
        length-append f stands.1,
      )

  -- .. and within its unit ..
  pub head_within : header_size h ≤ length_size h.format + n
  head_within = omega (arith, same_fields, stands.2.within)

  -- .. whose end lies below 2 ^ 63
  pub head_end : length_size h.format + n < 2 ^ 63
  head_end = let near = initial_end order 0 h.format n stands.2.length_fits in omega (arith, near)
