-- An item that is read from a reader: what was taken of it, and from there to what the read says.
use Rattle.std.proofs.Common.{Bool, true, false, ◌≡◌, ◌⊎◌, ℕ, ◌+◌, ◌-◌, ◌<◌, ◌≤◌, List, [], ◌∷◌, ◌++◌, length, take, drop, Option, Some, None, Result, Ok, Err, refl, sym, ap, subst, ◌∙◌, append_assoc, append-nil, arith, inl, inr}
use Rattle.std.specs.Prelude.{nat_le, OnOk, IfErr, ◌==◌, ◌&&◌}
use Rattle.std.proofs.lemmas.Bool.{leb-true, leb-false}
use Rattle.std.proofs.lemmas.List.{length-append, take_all}
use Rattle.std.proofs.Math.Seq.{drop-append_seam}
use Rattle.std.specs.Io.KnownBytes.{Consumes, IsAtEnd}
use Rattle.dw_leb.specs.declared.errors.Reason.{Reason}
use Rattle.dw_leb.specs.declared.errors.Reason.TheVariants.{Truncated}
use Rattle.dw_leb.specs.declared.errors.Fault.{Fault as TheFault}
use Rattle.dw_leb.specs.declared.errors.ReadError.{ReadError}
use Rattle.dw_leb.specs.declared.errors.ReadError.TheVariants as reads
use Rattle.dw_leb.specs.declared.errors.SectionId.{SectionId}
use Rattle.dw_leb.specs.declared.errors.SectionId.TheVariants.{Info, Abbrev}
use Rattle.dw_leb.specs.declared.order.Order.{Order}
use Rattle.dw_leb.specs.declared.order.Format.{Format}
use Rattle.dw_leb.specs.declared.order.Format.TheVariants.{Dwarf32, Dwarf64}
use Rattle.dw_leb.specs.Part.{Taken, optional}
use Rattle.dw_leb.specs.Number.{Short, fixed, fixed_bytes, length_field, initial_length, length_limit, length_size}
use Rattle.dw_leb.specs.Digits.{length-fixed}
use Rattle.dw_leb.specs.DecideNumber.{initial-size, initial_within, initial_length_stays}
use Rattle.dw_leb.specs.Transfers.{consumes_more}
use Rattle.dw_leb.specs.Watch.{KeptSome, reader_fault}
use Rattle.dw_header.specs.declared.versions.Versions.{Versions}
use Rattle.dw_header.specs.declared.versions.Versions.TheVariants.{Five, FourAndFive}
use Rattle.dw_unit.specs.Unit.{WholeUnit, body_bytes, bytes_of, FailsUnder}
use Rattle.dw_feed.specs.Feed.{Had, BeginsUnit, behind, StartsWith, Takes, InField, InUnit, IsField, FailsUpTo, FailsInField, TakesUnitUnder, TakesNoUnitBehind}
use Rattle.dw_feed.specs.Taking.{left_of, left_at_end, takes_of, behind_taken, field_longer}
use Rattle.dw_feed.specs.Cut.{field_never_truncated, field_size, same_length}
use Rattle.dw_section.specs.Item.{Item, Known, Other, item_bytes, least_length, version_and_type_if, version_and_type, ShowsKind, HasInitialLength, ItemFits, IsKnown, ItemFails}
use Rattle.dw_section.specs.ItemPlace.{fits_alone, item_some, length_some, shows_more, known_there, other_there}
use Rattle.dw_section.specs.Push.{with_item}
use Rattle.dw_section.specs.Section.{WholeSection, section_bytes}
use Rattle.dw_section.specs.Streamed.{length_fault, kind_fault, other_cut}
use Rattle.dw_section.specs.FedItems.{fault_there}
use Rattle.dw_section.specs.Reads.{TakesItem, AddsItem, EndsAt, TakesNoItem, InItem, IsItemError, HasLength, HasKind, moved_offset, moved, moved_error, fault_at}

-- ---- bytes that were taken before

-- what is taken behind them is taken with them
pub consumes_from : (old mid new : Option (List ℕ)) (taken xs : List ℕ) → Consumes old mid taken → Consumes (behind taken mid) new xs → Consumes old new xs
consumes_from None mid new taken xs h k = tt
consumes_from (Some all) None new taken xs h k = absurd h
consumes_from (Some all) (Some rest) new taken xs h k = subst (λ (b : List ℕ). Consumes (Some b) new xs) (sym h) k

had_from : (old mid : Option (List ℕ)) (taken all : List ℕ) → Consumes old mid taken → Had (behind taken mid) all → Had old all
had_from None mid taken all h k = tt
had_from (Some bytes) None taken all h k = absurd h
had_from (Some bytes) (Some rest) taken all h k = h ∙ k

abbrev takes_from : (old mid new : Option (List ℕ)) (taken all : List ℕ) → Consumes old mid taken → Takes (behind taken mid) new all → Takes old new all
takes_from old mid new taken all h k = record { taken = k.taken; rest = k.rest; had = had_from old mid taken all h k.had; split = k.split; consumed = consumes_from old mid new taken k.taken h k.consumed }

pub item_from : (versions : Versions) (order : Order) (abbreviations : List ℕ) (start : ℕ) (old mid new : Option (List ℕ)) (taken : List ℕ) (x : Item) → Consumes old mid taken
    → TakesItem versions order abbreviations start (behind taken mid) new x → TakesItem versions order abbreviations start old new x
item_from versions order abbreviations start old mid new taken x h k = record { fits = k.fits; place = k.place; consumed = consumes_from old mid new taken (item_bytes x) h k.consumed }

pub adds_from : (versions : Versions) (order : Order) (abbreviations : List ℕ) (start : ℕ) (old mid new : Option (List ℕ)) (taken : List ℕ) (s t : WholeSection) → Consumes old mid taken
    → AddsItem versions order abbreviations start (behind taken mid) new s t → AddsItem versions order abbreviations start old new s t
adds_from versions order abbreviations start old mid new taken s t h (x, is, k) = (x, is, item_from versions order abbreviations start old mid new taken x h k)

pub found_from : (versions : Versions) (order : Order) (abbreviations : List ℕ) (start : ℕ) (old mid new : Option (List ℕ)) (taken : List ℕ) (s t : WholeSection) (r : Result (Unit {0}) ReadError) → Consumes old mid taken
    → OnOk r (AddsItem versions order abbreviations start (behind taken mid) new s t) → OnOk r (AddsItem versions order abbreviations start old new s t)
found_from versions order abbreviations start old mid new taken s t (Ok x) h k = adds_from versions order abbreviations start old mid new taken s t h k
found_from versions order abbreviations start old mid new taken s t (Err e) h k = tt

pub no_item_from : (versions : Versions) (order : Order) (abbreviations : List ℕ) (start : ℕ) (old mid new : Option (List ℕ)) (taken : List ℕ) (e : ReadError) → Consumes old mid taken
    → TakesNoItem versions order abbreviations start (behind taken mid) new e → TakesNoItem versions order abbreviations start old new e
no_item_from versions order abbreviations start old mid new taken e h (all, takes, is, inside) = (all, takes_from old mid new taken all h takes, is, inside)

pub kept_error : (X Y : Type 0) (old mid new : Option (List ℕ)) (taken : List ℕ) (e : ReadError) → Consumes old mid taken → KeptSome {X = X} (behind taken mid) new (Err e) → KeptSome {X = Y} old new (Err e)
kept_error X Y old mid new taken (reads.Fault f) h k = tt
kept_error X Y old mid new taken reads.NoMemory h k = (k.0, k.1, consumes_from old mid new taken k.0 h k.2)
kept_error X Y old mid new taken (reads.Io kind) h k = tt

pub kept_from : (X : Type 0) (old mid new : Option (List ℕ)) (taken : List ℕ) (r : Result X ReadError) → Consumes old mid taken → KeptSome (behind taken mid) new r → KeptSome old new r
kept_from X old mid new taken (Ok x) h k = tt
kept_from X old mid new taken (Err e) h k = kept_error X X old mid new taken e h k

-- ---- the length

pub begins_more : (order : Order) (start : ℕ) (bytes : List ℕ) (format : Format) (n : ℕ) (rest more : List ℕ) → HasInitialLength order start bytes format n rest → HasInitialLength order start (bytes ++ more) format n (rest ++ more)
begins_more order start bytes format n rest more b = record { fits = b.fits; split = ap (λ (x : List ℕ). x ++ more) b.split ∙ append_assoc ((length_field order).spell (format, n)) rest more }

pub begins_size : (order : Order) (start : ℕ) (bytes : List ℕ) (format : Format) (n : ℕ) (rest : List ℕ) → HasInitialLength order start bytes format n rest → length bytes ≡ length_size format + length rest
begins_size order start bytes format n rest b = omega (arith, ap length b.split, length-append ((length_field order).spell (format, n)) rest, initial-size order start format n)

pub length_few : (f : Format) → length_size f ≤ 12
length_few Dwarf32 = omega arith
length_few Dwarf64 = omega arith

pub begins_some : (order : Order) (start : ℕ) (bytes : List ℕ) (format : Format) (n : ℕ) (rest : List ℕ) → HasInitialLength order start bytes format n rest → 0 < length bytes
begins_some order start bytes format n rest b = omega (arith, begins_size order start bytes format n rest b, length_some format)

-- bytes that begin an item, and are no more than its length tells, are inside of it
begun_inside : (order : Order) (start : ℕ) (bytes : List ℕ) (format : Format) (n : ℕ) (rest more : List ℕ) → HasInitialLength order start bytes format n rest → length rest ≤ n → InItem order start (bytes ++ more) (length bytes)
begun_inside order start bytes format n rest more b le = inr (format, n, rest ++ more, begins_more order start bytes format n rest more b, omega (arith, begins_size order start bytes format n rest b, le))

-- a whole length field that is read
pub field_taken : (order : Order) (start : ℕ) (bytes : List ℕ) (format : Format) (n : ℕ) → InField bytes (length bytes) → Taken (initial_length order start) bytes length_limit (format, n) (length_size format) → HasLength order start n bytes
field_taken order start bytes format n inside h =
    let alone : Taken (initial_length order 0) bytes length_limit (format, n) (length_size format) = record { rest = h.rest; fits = fits_alone order start format n h.fits; split = h.split; is_size = h.is_size; within = h.within } in
    let size : length bytes ≡ length_size format = field_size order bytes format n inside alone in
    let s : List ℕ = (length_field order).spell (format, n) in
    let none : h.rest ≡ [] = no_rest h.rest (omega (arith, size, ap length h.split, length-append s h.rest, initial-size order start format n)) in
    record { format = format; begins = record { fits = h.fits; split = h.split ∙ ap (λ (x : List ℕ). s ++ x) none } }
  where
    no_rest : (xs : List ℕ) → length xs ≡ 0 → xs ≡ []
    no_rest [] e = refl
    no_rest (x ∷ xs) e = absurd (omega (arith, e))

-- one that is refused, or cut where the reader has no more
pub field_refused : (versions : Versions) (order : Order) (abbreviations : List ℕ) (start : ℕ) (old new : Option (List ℕ)) (bytes : List ℕ) (reason : Reason) → Consumes old new bytes → InField bytes (length bytes) → IsField bytes ⊎ IsAtEnd new
    → 0 < length bytes → (initial_length order start).Break bytes length_limit 0 reason → TakesNoItem versions order abbreviations start old new (fault_at start reason)
field_refused versions order abbreviations start old new bytes reason took inside why some breaks =
    let there : (initial_length order start).Break (bytes ++ left_of new) length_limit 0 reason = elim why [
      | inl is ↦ initial_length_stays order start bytes (left_of new) length_limit 0 reason (field_never_truncated order start bytes 0 reason is breaks) breaks
      | inr end ↦ subst (λ (x : List ℕ). (initial_length order start).Break x length_limit 0 reason) (sym (append-nil bytes) ∙ ap (λ (x : List ℕ). bytes ++ x) (sym (left_at_end new end))) breaks
    ] in
    let zero : start + 0 ≡ start = omega arith in (
      bytes ++ left_of new,
      takes_of old new bytes took,
      (
        omega (arith, some, length-append bytes (left_of new)),
        subst (λ (q : ℕ). ItemFails versions order abbreviations start (bytes ++ left_of new) Info q reason) zero (length_fault versions order abbreviations start (bytes ++ left_of new) 0 reason there),
      ),
      inl (field_longer bytes (left_of new) (length bytes) inside),
    )

-- the reader failed in it, or there was no memory
pub field_failed : (versions : Versions) (order : Order) (abbreviations : List ℕ) (start : ℕ) (old new : Option (List ℕ)) (e : ReadError) → FailsInField old new e → TakesNoItem versions order abbreviations start old new e
field_failed versions order abbreviations start old new (reads.Fault f) h = absurd h
field_failed versions order abbreviations start old new reads.NoMemory h = (h.0, h.1, tt, inl h.2)
field_failed versions order abbreviations start old new (reads.Io kind) h = (h.0, h.1, tt, inl h.2)

-- the same behind bytes of the item that were taken
pub rest_failed : (versions : Versions) (order : Order) (abbreviations : List ℕ) (start : ℕ) (old new : Option (List ℕ)) (taken : List ℕ) (most : ℕ) (e : ReadError) → FailsUpTo old new most e
    → (format : Format) (n : ℕ) (rest : List ℕ) → HasInitialLength order start taken format n rest → length rest + most ≤ n → TakesNoItem versions order abbreviations start (behind taken old) new e
rest_failed versions order abbreviations start old new taken most e h format n rest b le = by e h
  where
    took : (got : List ℕ) → Consumes old new got → Takes (behind taken old) new ((taken ++ got) ++ left_of new)
    took got h = takes_of (behind taken old) new (taken ++ got) (consumes_more (behind taken old) old new taken got (behind_taken taken old) h)

    inside : (got : List ℕ) → length got ≤ most → InItem order start ((taken ++ got) ++ left_of new) (length (taken ++ got))
    inside got few = begun_inside order start (taken ++ got) format n (rest ++ got) (left_of new) (begins_more order start taken format n rest got b) (omega (arith, le, few, length-append rest got))

    by : (f : ReadError) → FailsUpTo old new most f → TakesNoItem versions order abbreviations start (behind taken old) new f
    by (reads.Fault f) k = absurd k
    by reads.NoMemory (got, few, k) = ((taken ++ got) ++ left_of new, took got k, tt, inside got few)
    by (reads.Io kind) (got, few, k) = ((taken ++ got) ++ left_of new, took got k, tt, inside got few)

-- ---- an item that is added to a section

-- it fits where the section ends
pub fits_there : (versions : Versions) (order : Order) (start : ℕ) (s : WholeSection) (x : Item) → EndsAt versions order start s → ItemFits versions order start x → ItemFits s.versions s.order (length (section_bytes s)) x
fits_there versions order start s x (v, o, at) h =
    subst (λ (w : Versions). ItemFits w s.order (length (section_bytes s)) x) (sym v)
    (subst (λ (w : Order). ItemFits versions w (length (section_bytes s)) x) (sym o)
    (subst (λ (q : ℕ). ItemFits versions order q x) (sym at) h))

-- it is no longer than it says
item_inside : (versions : Versions) (order : Order) (start : ℕ) (x : Item) (more : List ℕ) → ItemFits versions order start x → InItem order start (item_bytes x ++ more) (length (item_bytes x))
item_inside versions order start (Known u) more h =
    let body : List ℕ = body_bytes u in
    let len : Order → List ℕ = λ o. (length_field o).spell (u.header.format, length body) in
    inr (
      u.header.format,
      length body,
      body ++ more,
      record { fits = h.length_fits; split = append_assoc (len u.header.order) body more ∙ ap (λ (o : Order). len o ++ (body ++ more)) h.order_is },
      omega (arith, length-append (len u.header.order) body, initial-size u.header.order 0 u.header.format (length body)),
    )
item_inside versions order start (Other bytes) more h =
    inr (
      h.format,
      length h.content,
      h.content ++ more,
      begins_more order start bytes h.format (length h.content) h.content more h.begins,
      omega (arith, begins_size order start bytes h.format (length h.content) h.content h.begins),
    )

module _ (versions : Versions) (order : Order) (abbreviations : List ℕ) (start : ℕ) (old new : Option (List ℕ)) (x : Item) (k : TakesItem versions order abbreviations start old new x) where
  pub kept_found : (s t : WholeSection) (r : Result (Unit {0}) ReadError) → OnOk r (t ≡ with_item s x) → OnOk r (AddsItem versions order abbreviations start old new s t)
  kept_found s t (Ok u) is = (x, is, k)
  kept_found s t (Err e) h = tt

  -- there is no memory for it
  pub kept_broken : (r : Result (Unit {0}) ReadError) → IfErr r (λ e. e ≡ reads.NoMemory) → IfErr r (TakesNoItem versions order abbreviations start old new)
  kept_broken (Ok u) h = tt
  kept_broken (Err e) is = subst (λ (m : ReadError). TakesNoItem versions order abbreviations start old new m) (sym is) (
    item_bytes x ++ left_of new,
    takes_of old new (item_bytes x) k.consumed,
    tt,
    item_inside versions order start x (left_of new) k.fits,
  )

  pub kept_memory : (r : Result (Unit {0}) ReadError) → IfErr r (λ e. e ≡ reads.NoMemory) → KeptSome old new r
  kept_memory (Ok u) h = tt
  kept_memory (Err e) is = subst (λ (m : ReadError). KeptSome {X = Unit {0}} old new (Err m)) (sym is) (item_bytes x, item_some versions order start x k.fits, k.consumed)

pub kept_clear : (r : Result (Unit {0}) ReadError) → IfErr r (λ e. e ≡ reads.NoMemory) → None ≡ reader_fault r
kept_clear (Ok u) h = refl
kept_clear (Err e) is = subst (λ (m : ReadError). None ≡ reader_fault {X = Unit {0}} (Err m)) (sym is) refl

-- ---- what shows the kind

-- where all bytes of it are there, it doesn't break
pub version_and_type_whole : (versions : Versions) (order : Order) (n : ℕ) (bytes : List ℕ) (offset : ℕ) (reason : Reason) → (n ≤ length bytes) ⊎ (3 ≤ length bytes) → (version_and_type versions order n).Break bytes n offset reason → ⊥
version_and_type_whole versions order n bytes offset reason enough = by (nat_le (least_length versions) n) (nat_le 3 n) refl refl
  where
    least : (v : Versions) → 2 ≤ least_length v
    least Five = omega arith
    least FourAndFive = omega arith

    of_short : (m lim : ℕ) (b : List ℕ) (o : ℕ) → m ≤ lim → m ≤ length b → Short m b lim o reason → ⊥
    of_short m lim b o le there (at, inl past) = omega (arith, le, past.0)
    of_short m lim b o le there (at, inr cut) = omega (arith, there, cut.1)

    of_type : (v : Bool) (lim : ℕ) (b : List ℕ) (o : ℕ) → (v ≡ true → 1 ≤ lim) → (v ≡ true → 1 ≤ length b) → (optional v (fixed order 1)).Break b lim o reason → ⊥
    of_type true lim b o le there h = of_short 1 lim b o (le refl) (there refl) h
    of_type false lim b o le there h = h

    room_of : (v w : Bool) → v && w ≡ true → w ≡ true
    room_of true w e = e
    room_of false w e = absurd cc

    many : (m : ℕ) → m ≤ n → m ≤ 3 → m ≤ length bytes
    many m le three = elim enough [ inl a ↦ omega (arith, le, a) | inr b ↦ omega (arith, three, b) ]

    by : (v w : Bool) → nat_le (least_length versions) n ≡ v → nat_le 3 n ≡ w → (version_and_type_if order v w).Break bytes n offset reason → ⊥
    by false w e f h = h
    by true w e f (inl one) =
        let two : 2 ≤ n = omega (arith, leb-true (least_length versions) n e, least versions) in
        of_short 2 n bytes offset two (many 2 two (omega arith)) one
    by true w e f (inr two) =
        of_type (two.0 == 5 && w) (n - length (fixed_bytes order 2 two.0)) two.2.rest two.2.own
        (λ t. let three = leb-true 3 n (f ∙ room_of (two.0 == 5) w t) in omega (arith, three, length-fixed order 2 two.0))
        (λ t.
        let three = leb-true 3 n (f ∙ room_of (two.0 == 5) w t) in
        omega (arith, many 3 three (omega arith), ap length two.2.split, length-append (fixed_bytes order 2 two.0) two.2.rest, length-fixed order 2 two.0))
        two.2.breaks

-- the input ends before it shows the kind
pub kind_cut : (versions : Versions) (order : Order) (abbreviations : List ℕ) (start n field : ℕ) (old new : Option (List ℕ)) (bytes got : List ℕ) (begun : HasLength order start n bytes) → field ≡ length bytes → length got ≤ n
    → Consumes old new got → ((n ≤ length got) ⊎ (3 ≤ length got)) ⊎ IsAtEnd new → (own : ℕ) (reason : Reason) → (version_and_type versions order n).Break got n own reason
    → TakesNoItem versions order abbreviations start (behind bytes old) new (fault_at (start + field + own) reason)
kind_cut versions order abbreviations start n field old new bytes got begun field_is inside took (inl whole) own reason breaks = absurd (version_and_type_whole versions order n got own reason whole breaks)
kind_cut versions order abbreviations start n field old new bytes got begun field_is inside took (inr end) own reason breaks =
    let f : Format = begun.format in
    let all : List ℕ = (bytes ++ got) ++ left_of new in
    let is : bytes ++ got ≡ all = sym (append-nil (bytes ++ got)) ∙ ap (λ (x : List ℕ). (bytes ++ got) ++ x) (sym (left_at_end new end)) in
    let there : HasInitialLength order start all f n got = subst (λ (x : List ℕ). HasInitialLength order start x f n got) is (begins_more order start bytes f n [] got begun.begins) in
    let at : start + length_size f + own ≡ start + field + own = omega (arith, field_is, begins_size order start bytes f n [] begun.begins) in (
      all,
      takes_of (behind bytes old) new (bytes ++ got) (consumes_more (behind bytes old) old new bytes got (behind_taken bytes old) took),
      (
        begins_some order start all f n got there,
        subst (λ (q : ℕ). ItemFails versions order abbreviations start all Info q reason) at (kind_fault versions order abbreviations start all f n got own reason there breaks),
      ),
      begun_inside order start (bytes ++ got) f n got (left_of new) (begins_more order start bytes f n [] got begun.begins) inside,
    )

-- what was taken shows it
pub kind_taken : (versions : Versions) (order : Order) (start n field : ℕ) (bytes got : List ℕ) (known : Bool) → HasLength order start n bytes → field ≡ length bytes → length got ≤ n → ShowsKind versions order n got known
    → HasKind versions order start n field (bytes ++ got) known
kind_taken versions order start n field bytes got known begun field_is le shows = record {
  format = begun.format;
  rest = got;
  begins = begins_more order start bytes begun.format n [] got begun.begins;
  field_is = field_is ∙ begins_size order start bytes begun.format n [] begun.begins ∙ omega arith;
  inside = le;
  shows = shows;
}

-- what was taken behind so many bytes of a length field
pub behind_field : (bytes got now : List ℕ) (field : ℕ) → field ≡ length bytes → now ≡ bytes ++ got → take (length now - field) (drop field now) ≡ got
behind_field bytes got now field field_is is =
    let rest : drop field now ≡ got = ap (λ (k : ℕ). drop k now) field_is ∙ ap (drop (length bytes)) is ∙ drop-append_seam bytes got in
    ap (take (length now - field)) rest ∙ take_all (length now - field) got (omega (arith, field_is, ap length is, length-append bytes got))

-- and shows the kind
pub kind_now : (versions : Versions) (order : Order) (start n field : ℕ) (bytes got front now : List ℕ) (seen known : Bool) → HasLength order start n bytes → field ≡ length bytes → length got ≤ n → front ≡ bytes ++ got
    → ShowsKind versions order n (take (length front - field) (drop field front)) seen → seen ≡ known → now ≡ bytes ++ got → HasKind versions order start n field now known
kind_now versions order start n field bytes got front now seen known begun field_is le front_is shows is now_is =
    let marked : ShowsKind versions order n got seen = subst (λ (b : List ℕ). ShowsKind versions order n b seen) (behind_field bytes got front field field_is front_is) shows in
    let there : ShowsKind versions order n got known = subst (λ (v : Bool). ShowsKind versions order n got v) is marked in
    subst (λ (b : List ℕ). HasKind versions order start n field b known) (sym now_is) (kind_taken versions order start n field bytes got known begun field_is le there)

pub both_taken : (old mid : Option (List ℕ)) (bytes got now : List ℕ) → now ≡ bytes ++ got → Consumes old mid got → Consumes (behind bytes old) mid now
both_taken old mid bytes got now is took = subst (λ (b : List ℕ). Consumes (behind bytes old) mid b) (sym is) (consumes_more (behind bytes old) old mid bytes got (behind_taken bytes old) took)

-- ---- an item of no known kind

module _ (versions : Versions) (order : Order) (start n field : ℕ) (old new : Option (List ℕ)) (bytes got : List ℕ) (begun : HasKind versions order start n field bytes false) (took : Consumes old new got) (abbreviations : List ℕ) where
  all_begins : HasInitialLength order start (bytes ++ got) begun.format n (begun.rest ++ got)
  all_begins = begins_more order start bytes begun.format n begun.rest got begun.begins

  both : Consumes (behind bytes old) new (bytes ++ got)
  both = consumes_more (behind bytes old) old new bytes got (behind_taken bytes old) took

  all_show : ShowsKind versions order n (begun.rest ++ got) false
  all_show = shows_more versions order n begun.rest got false begun.shows

  pub other_inside : length bytes ≤ field + n
  other_inside = omega (arith, begun.field_is, begun.inside, begins_size order start bytes begun.format n begun.rest begun.begins)

  pub other_taken : (now : List ℕ) → now ≡ bytes ++ got → length now ≡ field + n → TakesItem versions order abbreviations start (behind bytes old) new (Other now)
  other_taken now is size =
      let enough : n ≤ length (begun.rest ++ got) = omega (arith, size, ap length is, begun.field_is, begins_size order start (bytes ++ got) begun.format n (begun.rest ++ got) all_begins) in
      let whole : take (length_size begun.format + n) (bytes ++ got) ≡ bytes ++ got = take_all (length_size begun.format + n) (bytes ++ got) (omega (arith, size, ap length is, begun.field_is)) in
      subst (λ (b : List ℕ). TakesItem versions order abbreviations start (behind bytes old) new (Other b)) (sym is) (record {
        fits = subst (λ (b : List ℕ). ItemFits versions order start (Other b)) whole (other_there versions order start (bytes ++ got) begun.format n (begun.rest ++ got) all_begins all_show enough);
        place = tt;
        consumed = both;
      })

  pub other_ended : length (bytes ++ got) < field + n → IsAtEnd new → TakesNoItem versions order abbreviations start (behind bytes old) new (fault_at (start + field) Truncated)
  other_ended less end =
      let all : List ℕ = (bytes ++ got) ++ left_of new in
      let is : bytes ++ got ≡ all = sym (append-nil (bytes ++ got)) ∙ ap (λ (x : List ℕ). (bytes ++ got) ++ x) (sym (left_at_end new end)) in
      let there : HasInitialLength order start all begun.format n (begun.rest ++ got) = subst (λ (x : List ℕ). HasInitialLength order start x begun.format n (begun.rest ++ got)) is all_begins in
      let short : length (begun.rest ++ got) < n = omega (arith, less, begun.field_is, begins_size order start (bytes ++ got) begun.format n (begun.rest ++ got) all_begins) in
      let at : start + length_size begun.format ≡ start + field = omega (arith, begun.field_is) in (
        all,
        takes_of (behind bytes old) new (bytes ++ got) both,
        (
          begins_some order start all begun.format n (begun.rest ++ got) there,
          subst (λ (q : ℕ). ItemFails versions order abbreviations start all Info q Truncated) at (other_cut versions order abbreviations start all begun.format n (begun.rest ++ got) there all_show short),
        ),
        begun_inside order start (bytes ++ got) begun.format n (begun.rest ++ got) (left_of new) all_begins (omega (arith, short)),
      )

-- ---- an item of a known kind

-- a fault of a unit that stands alone is the item's, moved
pub item_error : (versions : Versions) (order : Order) (abbreviations : List ℕ) (start : ℕ) (all : List ℕ) (f : TheFault) → IsKnown versions order start all → 0 < length all → FailsUnder versions order abbreviations all f.section f.offset f.reason
    → IsItemError versions order abbreviations start all (reads.Fault (moved start f))
item_error versions order abbreviations start all f known some fails = (some, by f.section f.offset f.reason fails)
  where
    by : (s : SectionId) (offset : ℕ) (reason : Reason) → FailsUnder versions order abbreviations all s offset reason → ItemFails versions order abbreviations start all s (moved_offset s start offset) reason
    by Info offset reason h = fault_there versions order abbreviations start all offset reason known h
    by Abbrev offset reason h = (known, h)

module _ (versions : Versions) (order : Order) (start n field : ℕ) (bytes : List ℕ) (begun : HasKind versions order start n field bytes true) where
  abbrev pub known_begins : (all : List ℕ) → StartsWith bytes all → IsKnown versions order start all
  known_begins all (more, is) = (
    begun.format,
    n,
    begun.rest ++ more,
    subst (λ (x : List ℕ). HasInitialLength order start x begun.format n (begun.rest ++ more)) (sym is) (begins_more order start bytes begun.format n begun.rest more begun.begins),
    shows_more versions order n begun.rest more true begun.shows,
  )

  pub known_some : (all : List ℕ) → StartsWith bytes all → 0 < length all
  known_some all (more, is) = omega (arith, ap length is, length-append bytes more, begins_some order start bytes begun.format n begun.rest begun.begins)

  pub known_begun : BeginsUnit order bytes
  known_begun =
      let size = initial-size order 0 begun.format n in (
        (begun.format, n),
        record { rest = begun.rest; fits = fits_alone order start begun.format n begun.begins.fits; split = begun.begins.split; is_size = size; within = omega (arith, initial_within order 0 begun.format n, size) },
        omega (arith, begins_size order start bytes begun.format n begun.rest begun.begins, begun.inside),
      )

  -- ---- the unit

  module _ (abbreviations : List ℕ) (old new : Option (List ℕ)) where
    pub known_taken : (u : WholeUnit) → TakesUnitUnder versions abbreviations order (behind bytes old) new u → StartsWith bytes (bytes_of u) → TakesItem versions order abbreviations start (behind bytes old) new (Known u)
    known_taken u (all, had, at, took) front =
        let known = known_begins (bytes_of u) front in record {
          fits = known_there versions order start (bytes_of u) known.0 known.1 known.2 u (length (bytes_of u)) known.3
              (record { order_is = at.front.order_is; accepted = at.front.accepted; fits = at.front.fits; rest = []; split = sym (append-nil (bytes_of u)); is_size = refl });
          place = at.table_at;
          consumed = took;
        }

    -- what is inside of the unit that stands alone is inside of the item
    inside_there : (all : List ℕ) (k : ℕ) → StartsWith bytes all → InUnit order all k → InItem order start all k
    inside_there all k front (inl field) = inl field
    inside_there all k front (inr (x, stands, le)) =
        let there = known_begins all front in
        let one = same_length order x (begun.format, n) stands.rest there.2 stands.fits (fits_alone order start begun.format n begun.begins.fits) (sym stands.split ∙ there.3.split) in
        inr (begun.format, n, there.2, there.3, subst (λ (y : Format × ℕ). k ≤ length_size y.0 + y.1) one.0 le)

    pub known_error : (e : ReadError) → TakesNoUnitBehind versions abbreviations order bytes old new e → TakesNoItem versions order abbreviations start (behind bytes old) new (moved_error start e)
    known_error (reads.Fault f) (all, takes, is, inside, front) = (all, takes, item_error versions order abbreviations start all f (known_begins all front) (known_some all front) is, inside_there all (length takes.taken) front inside)
    known_error reads.NoMemory (all, takes, is, inside, front) = (all, takes, tt, inside_there all (length takes.taken) front inside)
    known_error (reads.Io kind) (all, takes, is, inside, front) = (all, takes, tt, inside_there all (length takes.taken) front inside)

-- a moved error is of the same kind
pub moved_kept : (X Y : Type 0) (start : ℕ) (old mid new : Option (List ℕ)) (e m : ReadError) → m ≡ moved_error start e → mid ≡ old → KeptSome {X = X} mid new (Err e) → KeptSome {X = Y} old new (Err m)
moved_kept X Y start old mid new e m is same h = subst (λ (x : ReadError). KeptSome {X = Y} old new (Err x)) (sym is) (by e (subst (λ (o : Option (List ℕ)). KeptSome {X = X} o new (Err e)) same h))
  where
    by : (x : ReadError) → KeptSome {X = X} old new (Err x) → KeptSome {X = Y} old new (Err (moved_error start x))
    by (reads.Fault f) k = tt
    by reads.NoMemory k = k
    by (reads.Io kind) k = tt
