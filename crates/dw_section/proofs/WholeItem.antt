-- An item of a known kind whose bytes are at hand, read as those of a unit.
use Rattle.std.proofs.Common.{true, ◌≡◌, ℕ, ◌+◌, List, [], ◌∷◌, ◌++◌, length, Option, None, Err, sym, ap, subst, ◌∙◌, append_assoc, append-nil, arith, inr, refl}
use Rattle.std.proofs.lemmas.List.{length-append}
use Rattle.std.specs.Io.KnownBytes.{Consumes}
use Rattle.dw_leb.specs.declared.errors.ReadError.{ReadError}
use Rattle.dw_leb.specs.declared.errors.ReadError.TheVariants as reads
use Rattle.dw_leb.specs.declared.order.Order.{Order}
use Rattle.dw_leb.specs.declared.order.Format.{Format}
use Rattle.dw_leb.specs.Part.{Taken}
use Rattle.dw_leb.specs.Number.{length_field, initial_length, length_limit, length_size}
use Rattle.dw_leb.specs.DecideNumber.{initial-size, initial_within}
use Rattle.dw_leb.specs.Watch.{KeptSome, reader_fault}
use Rattle.dw_header.specs.declared.versions.Versions.{Versions}
use Rattle.dw_unit.specs.Unit.{WholeUnit, bytes_of, body_bytes, UnitAtUnder, UnitFrontUnder}
use Rattle.dw_unit.specs.UnitView.{IsUnitErrorUnder}
use Rattle.dw_unit.specs.DecideUnit.{unit_stays}
use Rattle.dw_feed.specs.Feed.{behind, InUnit, IsFeedErrorUnder}
use Rattle.dw_feed.specs.Taking.{left_of, takes_of, behind_taken, had_before}
use Rattle.dw_feed.specs.Cut.{same_length, whole_fault}
use Rattle.dw_section.specs.Item.{Known, HasInitialLength}
use Rattle.dw_section.specs.ItemPlace.{fits_alone}
use Rattle.dw_section.specs.Reads.{TakesItem, TakesNoItem, HasKind, moved_error}
use Rattle.dw_section.proofs.ItemReads.{begins_more, known_some, known_taken, known_error}

no_rest : (xs : List ℕ) → length xs ≡ 0 → xs ≡ []
no_rest [] e = refl
no_rest (x ∷ xs) e = absurd (omega (arith, e))

module _ (versions : Versions) (order : Order) (start n field : ℕ) (bytes : List ℕ) (begun : HasKind versions order start n field bytes true) (whole : length bytes ≡ field + n) (abbreviations : List ℕ) (old : Option (List ℕ)) where
  abbrev pub all : List ℕ
  all = bytes ++ left_of old

  took : Consumes (behind bytes old) old bytes
  took = behind_taken bytes old

  begins_all : HasInitialLength order start all begun.format n (begun.rest ++ left_of old)
  begins_all = begins_more order start bytes begun.format n begun.rest (left_of old) begun.begins

  -- the length field, as that of a unit that stands alone
  alone : (bs rest : List ℕ) → HasInitialLength order start bs begun.format n rest → Taken (initial_length order 0) bs length_limit (begun.format, n) (length_size begun.format)
  alone bs rest b =
      let size = initial-size order 0 begun.format n in
      record { rest = rest; fits = fits_alone order start begun.format n b.fits; split = b.split; is_size = size; within = omega (arith, initial_within order 0 begun.format n, size) }

  -- a unit at the front of them is as long as the length field says
  unit_size : (u : WholeUnit) (size : ℕ) → UnitFrontUnder versions order bytes u size → length (bytes_of u) ≡ length_size begun.format + n
  unit_size u size h =
      let body : List ℕ = body_bytes u in
      let len : Order → List ℕ = λ o. (length_field o).spell (u.header.format, length body) in
      let fits : (initial_length order 0).Fits (u.header.format, length body) = subst (λ (o : Order). (initial_length o 0).Fits (u.header.format, length body)) h.order_is h.fits.length_fits in
      let split : bytes ≡ len order ++ (body ++ h.rest) = h.split ∙ append_assoc (len u.header.order) body h.rest ∙ ap (λ (o : Order). len o ++ (body ++ h.rest)) h.order_is in
      let one = same_length order (u.header.format, length body) (begun.format, n) (body ++ h.rest) begun.rest fits (fits_alone order start begun.format n begun.begins.fits) (sym split ∙ begun.begins.split) in
      let same : length_size u.header.format + length body ≡ length_size begun.format + n = ap (λ (y : Format × ℕ). length_size y.0 + y.1) one.0 in
      omega (arith, length-append (len u.header.order) body, initial-size u.header.order 0 u.header.format (length body), same)

  pub whole_taken : (u : WholeUnit) (size : ℕ) → UnitAtUnder versions abbreviations order bytes u size → TakesItem versions order abbreviations start (behind bytes old) old (Known u)
  whole_taken u size at =
      let none : at.front.rest ≡ [] = no_rest at.front.rest (omega (arith, ap length at.front.split, length-append (bytes_of u) at.front.rest, unit_size u size at.front, whole, begun.field_is)) in
      let is : bytes ≡ bytes_of u = at.front.split ∙ ap (λ (x : List ℕ). bytes_of u ++ x) none ∙ append-nil (bytes_of u) in
      known_taken versions order start n field bytes begun abbreviations old old u (
        all,
        had_before (behind bytes old) old bytes took,
        subst (λ (k : ℕ). UnitAtUnder versions abbreviations order all u k) (sym at.front.is_size) (unit_stays versions abbreviations order bytes (left_of old) u size at),
        subst (λ (b : List ℕ). Consumes (behind bytes old) old b) is took,
      )
      ([], sym is ∙ sym (append-nil bytes))

  inside : InUnit order all (length bytes)
  inside = inr ((begun.format, n), alone all (begun.rest ++ left_of old) begins_all, omega (arith, whole, begun.field_is))

  stays : (e : ReadError) → IsUnitErrorUnder versions abbreviations order bytes e → IsFeedErrorUnder versions abbreviations order all e
  stays (reads.Fault f) h = whole_fault versions order bytes ((begun.format, n), alone bytes begun.rest begun.begins, omega (arith, whole, begun.field_is)) abbreviations (left_of old) f.section f.offset f.reason h
  stays reads.NoMemory h = tt
  stays (reads.Io kind) h = absurd h

  pub whole_error : (e : ReadError) → IsUnitErrorUnder versions abbreviations order bytes e → TakesNoItem versions order abbreviations start (behind bytes old) old (moved_error start e)
  whole_error e is =
      known_error versions order start n field bytes begun abbreviations old old e
      (all, takes_of (behind bytes old) old bytes took, stays e is, inside, (left_of old, refl))

  pub whole_kept : (e : ReadError) → KeptSome {X = Unit {0}} (behind bytes old) old (Err (moved_error start e))
  whole_kept (reads.Fault f) = tt
  whole_kept reads.NoMemory = (bytes, known_some versions order start n field bytes begun bytes ([], sym (append-nil bytes)), took)
  whole_kept (reads.Io kind) = tt

-- no reader fails where the bytes are at hand
pub whole_clear : (versions : Versions) (abbreviations : List ℕ) (order : Order) (bytes : List ℕ) (start : ℕ) (e : ReadError) → IsUnitErrorUnder versions abbreviations order bytes e → reader_fault {X = Unit {0}} (Err (moved_error start e)) ≡ None
whole_clear versions abbreviations order bytes start (reads.Fault f) h = refl
whole_clear versions abbreviations order bytes start reads.NoMemory h = refl
whole_clear versions abbreviations order bytes start (reads.Io kind) h = absurd h
