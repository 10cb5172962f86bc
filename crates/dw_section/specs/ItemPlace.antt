-- Items where they stand, without a reader: from a unit at the front to an item, from bytes of no known kind to one,
-- and which bytes show the kind.
use Rattle.std.proofs.Common.{Bool, true, false, ◌≡◌, ℕ, ◌+◌, ◌-◌, ◌^◌, ◌<◌, ◌≤◌, List, ◌++◌, length, take, Some, None, refl, sym, ap, subst, ◌∙◌, append_assoc, arith, inl, inr}
use Rattle.std.specs.Prelude.{nat_le, ◌==◌, ◌&&◌}
use Rattle.std.proofs.lemmas.Bool.{leb-true, le-leb, lt-ltb}
use Rattle.std.proofs.lemmas.List.{length-append, length-take-le, append-nil}
use Rattle.std.proofs.Math.Seq.{take-append-add}
use Rattle.dw_leb.specs.declared.errors.Reason.{Reason}
use Rattle.dw_leb.specs.declared.errors.Reason.TheVariants.{Truncated}
use Rattle.dw_leb.specs.declared.order.Order.{Order}
use Rattle.dw_leb.specs.declared.order.Format.{Format}
use Rattle.dw_leb.specs.declared.order.Format.TheVariants.{Dwarf32, Dwarf64}
use Rattle.dw_leb.specs.Part.{Taken, optional}
use Rattle.dw_leb.specs.Number.{Short, fixed, length_field, initial_length, length_size, fixed_bytes}
use Rattle.dw_leb.specs.ReadNumber.{read_length}
use Rattle.dw_leb.specs.PartLaws.{one_front}
use Rattle.dw_leb.specs.Digits.{length-fixed}
use Rattle.dw_leb.specs.DecideNumber.{initial_length_decides, initial_end, initial-size}
use Rattle.dw_header.specs.declared.kind.Kind.{Kind}
use Rattle.dw_header.specs.declared.kind.Kind.TheVariants.{Compile, Partial, TypeUnit, Skeleton, Four}
use Rattle.dw_header.specs.declared.versions.Versions.{Versions}
use Rattle.dw_header.specs.declared.versions.Versions.TheVariants.{Five, FourAndFive}
use Rattle.dw_header.specs.Header.{Accepts, fields, context_of}
use Rattle.dw_tree.specs.Tree.{nulls, unit_tree}
use Rattle.dw_unit.specs.Unit.{WholeUnit, UnitFrontUnder, body_bytes}
use Rattle.dw_section.specs.Item.{Item, Known, Other, item_bytes, least_length, version_and_type_if, version_and_type, is_type, is_known, ShowsKind, HasInitialLength, ItemFits}

-- ---- a length at a start

-- what is taken at a start is taken at 0 too
pub fits_alone : (order : Order) (start : ℕ) (format : Format) (n : ℕ) → (initial_length order start).Fits (format, n)
    → (initial_length order 0).Fits (format, n)
fits_alone order start format n h =
    let near = initial_end order start format n h in
    (h.0, rw (lt-ltb (0 + length_size format + n) (2 ^ 63) (omega (arith, near))) refl)

-- what is taken at 0 is taken at a start where the item's end stays below 2 ^ 63
pub fits_at : (order : Order) (start : ℕ) (format : Format) (n : ℕ) → (initial_length order 0).Fits (format, n)
    → start + length_size format + n < 2 ^ 63 → (initial_length order start).Fits (format, n)
fits_at order start format n h near = (h.0, rw (lt-ltb (start + length_size format + n) (2 ^ 63) near) refl)

pub length_some : (f : Format) → 0 < length_size f
length_some Dwarf32 = omega arith
length_some Dwarf64 = omega arith

-- ---- what shows the kind

-- more bytes don't change it
pub shows_more : (versions : Versions) (order : Order) (n : ℕ) (bytes more : List ℕ) (known : Bool)
    → ShowsKind versions order n bytes known → ShowsKind versions order n (bytes ++ more) known
shows_more versions order n bytes more known t = record {
  seen = t.seen;
  size = t.size;
  taken = record {
    rest = t.taken.rest ++ more;
    fits = t.taken.fits;
    split =
        ap (λ (b : List ℕ). b ++ more) t.taken.split
        ∙ append_assoc ((version_and_type versions order n).spell t.seen) t.taken.rest more;
    is_size = t.taken.is_size;
    within = t.taken.within;
  };
  is = t.is;
}

-- bytes that are long enough show by their first n what all of them show
pub shows_less : (versions : Versions) (order : Order) (n : ℕ) (bytes : List ℕ) (known : Bool) → n ≤ length bytes
    → ShowsKind versions order n bytes known → ShowsKind versions order n (take n bytes) known
shows_less versions order n bytes known le t =
    let s : List ℕ = (version_and_type versions order n).spell t.seen in
    let n_is : n ≡ length s + (n - length s) = omega (arith, t.taken.is_size, t.taken.within) in
    record {
      seen = t.seen;
      size = t.size;
      taken = record {
        rest = take (n - length s) t.taken.rest;
        fits = t.taken.fits;
        split =
            ap (λ (b : List ℕ). take n b) t.taken.split ∙ ap (λ (m : ℕ). take m (s ++ t.taken.rest)) n_is
            ∙ take-append-add s t.taken.rest (n - length s);
        is_size = t.taken.is_size;
        within = t.taken.within;
      };
      is = t.is;
    }

-- A version 5 and a type that is known show a known kind ..
shows_five : (versions : Versions) (order : Order) (n type : ℕ) (rest : List ℕ) → 3 ≤ n → type < 256
    → is_type (Some type) ≡ true
    → ShowsKind versions order n (fixed_bytes order 2 5 ++ (fixed_bytes order 1 type ++ rest)) true
shows_five versions order n type rest low small known = record {
  seen = Some (5, Some type);
  size = 3;
  taken =
      subst (λ (b : Bool). Taken (version_and_type_if order b (nat_le 3 n)) bytes n (Some (5, Some type)) 3)
      (sym (le-leb (least_length versions) n (room versions)))
      (subst (λ (b : Bool). Taken (version_and_type_if order true b) bytes n (Some (5, Some type)) 3)
      (sym (le-leb 3 n low)) there);
  is = five versions;
}
  where
    bytes : List ℕ
    bytes = fixed_bytes order 2 5 ++ (fixed_bytes order 1 type ++ rest)

    room : (v : Versions) → least_length v ≤ n
    room Five = low
    room FourAndFive = omega (arith, low)

    five : (v : Versions) → is_known v (Some (5, Some type)) ≡ true
    five Five = known
    five FourAndFive = known

    there : Taken (version_and_type_if order true true) bytes n (Some (5, Some type)) 3
    there = record {
      rest = rest;
      fits = (omega arith, small);
      split = sym (append_assoc (fixed_bytes order 2 5) (fixed_bytes order 1 type) rest);
      is_size =
          length-append (fixed_bytes order 2 5) (fixed_bytes order 1 type)
          ∙ ap (λ (m : ℕ). m + length (fixed_bytes order 1 type)) (length-fixed order 2 5)
          ∙ ap (λ (m : ℕ). 2 + m) (length-fixed order 1 type);
      within = low;
    }

-- .. and so does a version 4 where it is asked for
shows_four : (order : Order) (n : ℕ) (rest : List ℕ) → 2 ≤ n
    → ShowsKind FourAndFive order n (fixed_bytes order 2 4 ++ rest) true
shows_four order n rest low = record {
  seen = Some (4, None);
  size = 2;
  taken =
      subst
      (λ (b : Bool). Taken (version_and_type_if order b (nat_le 3 n)) (fixed_bytes order 2 4 ++ rest) n (Some (4, None)) 2)
      (sym (le-leb 2 n low)) there;
  is = refl;
}
  where
    there : Taken (version_and_type_if order true (nat_le 3 n)) (fixed_bytes order 2 4 ++ rest) n (Some (4, None)) 2
    there = record {
      rest = rest;
      fits = (omega arith, tt);
      split = ap (λ (b : List ℕ). b ++ rest) (sym (append-nil (fixed_bytes order 2 4)));
      is_size = ap length (append-nil (fixed_bytes order 2 4)) ∙ length-fixed order 2 4;
      within = low;
    }

abbrev rest_of_unit : WholeUnit → List ℕ
rest_of_unit u = (unit_tree (context_of u.header) u.table).spell u.root ++ nulls u.padding

-- behind its length a unit of version 5 begins with its version and type
shows_front : (versions : Versions) (order : Order) (type : ℕ) (body fields rest more : List ℕ) → type < 256
    → is_type (Some type) ≡ true → body ≡ (fixed_bytes order 2 5 ++ (fixed_bytes order 1 type ++ fields)) ++ rest
    → ShowsKind versions order (length body) (body ++ more) true
shows_front versions order type body fields rest more small known is =
    let v : List ℕ = fixed_bytes order 2 5 in
    let w : List ℕ = fixed_bytes order 1 type in
    let split : body ++ more ≡ v ++ (w ++ (fields ++ (rest ++ more))) =
    ap (λ (b : List ℕ). b ++ more) is ∙ append_assoc (v ++ (w ++ fields)) rest more
    ∙ append_assoc v (w ++ fields) (rest ++ more)
    ∙ ap (λ (b : List ℕ). v ++ b) (append_assoc w fields (rest ++ more)) in
    let low : 3 ≤ length body =
    omega (
      arith,
      ap length is,
      length-append (v ++ (w ++ fields)) rest,
      length-append v (w ++ fields),
      length-append w fields,
      length-fixed order 2 5,
      length-fixed order 1 type,
    ) in
    subst (λ (b : List ℕ). ShowsKind versions order (length body) b true) (sym split)
    (shows_five versions order (length body) type (fields ++ (rest ++ more)) low small known)

shows_front_four : (order : Order) (body fields rest more : List ℕ) → body ≡ (fixed_bytes order 2 4 ++ fields) ++ rest
    → ShowsKind FourAndFive order (length body) (body ++ more) true
shows_front_four order body fields rest more is =
    let v : List ℕ = fixed_bytes order 2 4 in
    let split : body ++ more ≡ v ++ (fields ++ (rest ++ more)) =
    ap (λ (b : List ℕ). b ++ more) is ∙ append_assoc (v ++ fields) rest more
    ∙ append_assoc v fields (rest ++ more) in
    let low : 2 ≤ length body =
    omega
    (arith, ap length is, length-append (v ++ fields) rest, length-append v fields, length-fixed order 2 4) in
    subst (λ (b : List ℕ). ShowsKind FourAndFive order (length body) b true) (sym split)
    (shows_four order (length body) (fields ++ (rest ++ more)) low)

kind_shows : (versions : Versions) (order : Order) (format : Format) (k : Kind) (a o : ℕ) (rest more : List ℕ)
    → Accepts versions k
    → ShowsKind versions order
    (length ((fields order format).spell (record { kind = k; address_size = a; abbrev_offset = o }) ++ rest))
    (((fields order format).spell (record { kind = k; address_size = a; abbrev_offset = o }) ++ rest) ++ more) true
kind_shows versions order format Compile a o rest more ok =
    shows_front versions order 1 _ _ rest more (omega arith) refl refl
kind_shows versions order format Partial a o rest more ok =
    shows_front versions order 3 _ _ rest more (omega arith) refl refl
kind_shows versions order format (TypeUnit s t) a o rest more ok =
    shows_front versions order 2 _ _ rest more (omega arith) refl refl
kind_shows versions order format (Skeleton id) a o rest more ok =
    shows_front versions order 4 _ _ rest more (omega arith) refl refl
kind_shows FourAndFive order format Four a o rest more ok = shows_front_four order _ _ rest more refl
kind_shows Five order format Four a o rest more ok = absurd ok

-- a unit of a version that is accepted shows a known kind
pub unit_shows : (versions : Versions) (u : WholeUnit) (more : List ℕ) → Accepts versions u.header.kind
    → ShowsKind versions u.header.order (length (body_bytes u)) (body_bytes u ++ more) true
unit_shows versions u more ok =
    kind_shows versions u.header.order u.header.format u.header.kind u.header.address_size u.header.abbrev_offset
    (rest_of_unit u) more ok

-- what shows the kind is never past the item's end: it breaks for want of bytes alone
pub version_and_type_cut : (versions : Versions) (order : Order) (n : ℕ) (bytes : List ℕ) (offset : ℕ) (reason : Reason)
    → (version_and_type versions order n).Break bytes n offset reason → reason ≡ Truncated
version_and_type_cut versions order n bytes offset reason = by (nat_le (least_length versions) n) (nat_le 3 n) refl refl
  where
    least : (v : Versions) → 2 ≤ least_length v
    least Five = omega arith
    least FourAndFive = omega arith

    of_short : (m lim : ℕ) (b : List ℕ) (o : ℕ) → m ≤ lim → Short m b lim o reason → reason ≡ Truncated
    of_short m lim b o le (at, inl past) = absurd (omega (arith, le, past.0))
    of_short m lim b o le (at, inr cut) = cut.2

    of_type : (v : Bool) (lim : ℕ) (b : List ℕ) (o : ℕ) → (v ≡ true → 1 ≤ lim)
        → (optional v (fixed order 1)).Break b lim o reason → reason ≡ Truncated
    of_type true lim b o le h = of_short 1 lim b o (le refl) h
    of_type false lim b o le h = absurd h

    room_of : (v w : Bool) → v && w ≡ true → w ≡ true
    room_of true w e = e
    room_of false w e = absurd cc

    by : (v w : Bool) → nat_le (least_length versions) n ≡ v → nat_le 3 n ≡ w
        → (version_and_type_if order v w).Break bytes n offset reason → reason ≡ Truncated
    by false w e f h = absurd h
    by true w e f (inl one) =
        of_short 2 n bytes offset (omega (arith, leb-true (least_length versions) n e, least versions)) one
    by true w e f (inr two) =
        of_type (two.0 == 5 && w) (n - length (fixed_bytes order 2 two.0)) two.2.rest two.2.own
        (λ t.
        let three = leb-true 3 n (f ∙ room_of (two.0 == 5) w t) in omega (arith, three, length-fixed order 2 two.0))
        two.2.breaks

-- ---- an item at the front

-- behind a length that is taken at the start, a unit at the front is an item
pub known_there : (versions : Versions) (order : Order) (start : ℕ) (left : List ℕ) (format : Format) (n : ℕ)
    (rest : List ℕ) (u : WholeUnit) (size : ℕ) → HasInitialLength order start left format n rest
    → UnitFrontUnder versions order left u size
    → ItemFits versions order start (Known u)
known_there versions order start left format n rest u size begins h =
    let body : List ℕ = body_bytes u in
    let len : Order → List ℕ = λ o. (length_field o).spell (u.header.format, length body) in
    let alone : (initial_length order 0).Fits (u.header.format, length body) =
    subst (λ (o : Order). (initial_length o 0).Fits (u.header.format, length body)) h.order_is
    h.fits.length_fits in
    let split : left ≡ len order ++ (body ++ h.rest) =
    h.split ∙ append_assoc (len u.header.order) body h.rest
    ∙ ap (λ (o : Order). len o ++ (body ++ h.rest)) h.order_is in
    let front =
    one_front (initial_length order 0) (read_length order 0) (initial_length_decides order 0) (format, n)
    (u.header.format, length body) rest (body ++ h.rest) (fits_alone order start format n begins.fits) alone
    (sym begins.split ∙ split) in
    record {
      order_is = h.order_is;
      accepted = h.accepted;
      fits = h.fits;
      length_fits = subst (λ (x : Format × ℕ). (initial_length order start).Fits x) front.0 begins.fits;
    }

-- behind a length that is taken at the start, as many bytes that show no known kind are an item
pub other_there : (versions : Versions) (order : Order) (start : ℕ) (left : List ℕ) (format : Format) (n : ℕ)
    (rest : List ℕ) → HasInitialLength order start left format n rest → ShowsKind versions order n rest false
    → n ≤ length rest
    → ItemFits versions order start (Other (take (length_size format + n) left))
other_there versions order start left format n rest begins shows le =
    let s : List ℕ = (length_field order).spell (format, n) in
    let content : List ℕ = take n rest in
    let len : length content ≡ n = length-take-le n rest le in
    let size : length_size format ≡ length s = sym (initial-size order start format n) in
    let front : take (length_size format + n) left ≡ s ++ content =
    ap (λ (m : ℕ). take (m + n) left) size ∙ ap (λ (b : List ℕ). take (length s + n) b) begins.split
    ∙ take-append-add s rest n in
    record {
      format = format;
      content = content;
      begins =
          record {
            fits = rw len begins.fits;
            split = front ∙ ap (λ (m : ℕ). (length_field order).spell (format, m) ++ content) (sym len);
          };
      kind = rw len (shows_less versions order n rest false le shows);
    }

-- an item has at least a byte
pub item_some : (versions : Versions) (order : Order) (start : ℕ) (x : Item) → ItemFits versions order start x
    → 0 < length (item_bytes x)
item_some versions order start (Known u) h =
    omega (
      arith,
      length-append ((length_field u.header.order).spell (u.header.format, length (body_bytes u))) (body_bytes u),
      initial-size u.header.order 0 u.header.format (length (body_bytes u)),
      length_some u.header.format,
    )
item_some versions order start (Other bytes) h =
    omega (
      arith,
      ap length h.begins.split,
      length-append ((length_field order).spell (h.format, length h.content)) h.content,
      initial-size order 0 h.format (length h.content),
      length_some h.format,
    )

-- and it ends below 2 ^ 63
pub item_end : (versions : Versions) (order : Order) (start : ℕ) (x : Item) → ItemFits versions order start x
    → start + length (item_bytes x) < 2 ^ 63
item_end versions order start (Known u) h =
    let n : ℕ = length (body_bytes u) in
    omega (
      arith,
      initial_end order start u.header.format n h.length_fits,
      length-append ((length_field u.header.order).spell (u.header.format, n)) (body_bytes u),
      initial-size u.header.order 0 u.header.format n,
    )
item_end versions order start (Other bytes) h =
    let n : ℕ = length h.content in
    omega (
      arith,
      initial_end order start h.format n h.begins.fits,
      ap length h.begins.split,
      length-append ((length_field order).spell (h.format, n)) h.content,
      initial-size order 0 h.format n,
    )
