-- A section that is read item by item: what its loop keeps, and from there to what the read says.
use Rattle.std.proofs.Common.{◌≡◌, ◌<◌, ◌-◌, ◌^◌, ℕ, List, [], ◌∷◌, ◌++◌, length, Option, Some, None, Err, refl, sym, ap, subst, ◌∙◌, append_assoc, append-nil, arith}
use Rattle.std.proofs.lemmas.List.{length-append}
use Rattle.std.specs.Io.KnownBytes.{Consumes, IsAtEnd}
use Rattle.dw_leb.specs.declared.errors.ReadError.{ReadError}
use Rattle.dw_leb.specs.declared.errors.ReadError.TheVariants as reads
use Rattle.dw_leb.specs.declared.order.Order.{Order}
use Rattle.dw_leb.specs.Transfers.{consumes_none, consumes_more}
use Rattle.dw_leb.specs.Watch.{KeptSome}
use Rattle.dw_header.specs.declared.versions.Versions.{Versions}
use Rattle.dw_feed.specs.Feed.{Had}
use Rattle.dw_feed.specs.Taking.{left_of, left_at_end, had_before}
use Rattle.dw_section.specs.Item.{Item, item_bytes}
use Rattle.dw_section.specs.ItemPlace.{item_some}
use Rattle.dw_section.specs.Section.{WholeSection, SectionFits, HoldsTables, section_bytes}
use Rattle.dw_section.specs.SectionView.{section_end}
use Rattle.dw_section.specs.Push.{with_item}
use Rattle.dw_section.specs.Streamed.{SoFar, items_end, one_more, at_end, first_fault}
use Rattle.dw_section.specs.Reads.{TakesSection, TakesNoSection, IsSectionError, TakesItem, EndsAt, TakesNoItem, IsItemError}

-- exactly the bytes of its items were taken of the reader
pub record TakenSoFar (versions : Versions) (order : Order) (abbreviations : List ℕ) (old now : Option (List ℕ)) (s : WholeSection) : Type 0 where
  pub order_is : s.order ≡ order
  pub versions_is : s.versions ≡ versions
  pub fits : SectionFits s
  pub tables : HoldsTables abbreviations s.items
  pub consumed : Consumes old now (section_bytes s)

pub none_taken : (versions : Versions) (order : Order) (abbreviations : List ℕ) (old : Option (List ℕ)) → TakenSoFar versions order abbreviations old old (record { order = order; versions = versions; items = [] })
none_taken versions order abbreviations old = record { order_is = refl; versions_is = refl; fits = tt; tables = tt; consumed = consumes_none old }

module _ (versions : Versions) (order : Order) (abbreviations : List ℕ) (old now new : Option (List ℕ)) (s : WholeSection) (h : TakenSoFar versions order abbreviations old now s) where
  abbrev start : ℕ
  start = length (section_bytes s)

  so_far : (left : List ℕ) → SoFar versions order abbreviations (section_bytes s ++ left) s.items left
  so_far left = record {
    fit = subst (λ (o : Order). SectionFits (record { order = o; versions = versions; items = s.items })) h.order_is (subst (λ (v : Versions). SectionFits (record { order = s.order; versions = v; items = s.items })) h.versions_is h.fits);
    tables = h.tables;
    split = refl;
  }

  -- the next item begins where the others end
  pub ends_there : (at : ℕ) → at ≡ start → EndsAt versions order at s
  ends_there at is = (h.versions_is, h.order_is, sym is)

  both_taken : (x : Item) → TakesItem versions order abbreviations start now new x → Consumes old new (section_bytes (with_item s x))
  both_taken x k = subst (λ (b : List ℕ). Consumes old new b) (sym (items_end s.items x)) (consumes_more old now new (section_bytes s) (item_bytes x) h.consumed k.consumed)

  with_next : (x : Item) → TakesItem versions order abbreviations start now new x → SoFar versions order abbreviations (section_bytes s ++ item_bytes x) (s.items ++ x ∷ []) []
  with_next x k = one_more versions order abbreviations (section_bytes s ++ item_bytes x) s.items (item_bytes x) x [] (so_far (item_bytes x)) k.fits k.place (sym (append-nil (item_bytes x)))

  pub one_taken : (x : Item) → TakesItem versions order abbreviations start now new x → TakenSoFar versions order abbreviations old new (with_item s x)
  one_taken x k =
      let more = with_next x k in record {
        order_is = h.order_is;
        versions_is = h.versions_is;
        fits = subst (λ (o : Order). SectionFits (with_item (record { order = o; versions = s.versions; items = s.items }) x)) (sym h.order_is)
            (subst (λ (v : Versions). SectionFits (with_item (record { order = order; versions = v; items = s.items }) x)) (sym h.versions_is) more.fit);
        tables = more.tables;
        consumed = both_taken x k;
      }

  -- each item has bytes, and no section passes 2 ^ 63
  pub grows : (x : Item) → TakesItem versions order abbreviations start now new x → 2 ^ 63 - length (section_bytes (with_item s x)) < 2 ^ 63 - start
  grows x k = omega (arith, ap length (items_end s.items x), length-append (section_bytes s) (item_bytes x), item_some versions order start x k.fits, section_end s h.fits)

  -- the reader has no more
  pub all_taken : Consumes now new [] → IsAtEnd new → TakesSection versions order abbreviations old new s
  all_taken took end =
      let bytes : List ℕ = section_bytes s in
      let all : Consumes old new bytes = subst (λ (b : List ℕ). Consumes old new b) (append-nil bytes) (consumes_more old now new bytes [] h.consumed took) in
      let none : bytes ++ left_of new ≡ bytes = ap (λ (b : List ℕ). bytes ++ b) (left_at_end new end) ∙ append-nil bytes in
      let so = so_far [] in record {
        order_is = h.order_is;
        versions_is = h.versions_is;
        all = bytes;
        had = subst (λ (b : List ℕ). Had old b) none (had_before old new bytes all);
        is = at_end versions order abbreviations bytes s.items (subst (λ (b : List ℕ). SoFar versions order abbreviations b s.items []) (append-nil bytes) so);
        consumed = all;
        end = end;
      }

  -- the next item breaks, or a growth is refused there, or the reader fails
  had_behind : (all : List ℕ) → Had now all → Had old (section_bytes s ++ all)
  had_behind all = by old now h.consumed
    where
      by : (a b : Option (List ℕ)) → Consumes a b (section_bytes s) → Had b all → Had a (section_bytes s ++ all)
      by None b took had = tt
      by (Some x) None took had = absurd took
      by (Some x) (Some y) took had = took ∙ ap (λ (z : List ℕ). section_bytes s ++ z) had

  pub item_fails : (e : ReadError) → TakesNoItem versions order abbreviations start now new e → TakesNoSection versions order abbreviations old new e
  item_fails e (all, takes, is, inside) =
      let bytes : List ℕ = section_bytes s in (
        bytes ++ all,
        record {
          taken = bytes ++ takes.taken;
          rest = takes.rest;
          had = had_behind all takes.had;
          split = ap (λ (b : List ℕ). bytes ++ b) takes.split ∙ sym (append_assoc bytes takes.taken takes.rest);
          consumed = consumes_more old now new bytes takes.taken h.consumed takes.consumed;
        },
        by e is,
        record { before = s.items; rest = all; own = takes.taken; fit = (so_far all).fit; tables = h.tables; split = refl; taken_are = refl; inside = inside },
      )
    where
      by : (f : ReadError) → IsItemError versions order abbreviations start all f → IsSectionError versions order abbreviations (section_bytes s ++ all) f
      by (reads.Fault f) (some, fails) = first_fault versions order abbreviations (section_bytes s ++ all) s.items all f.section f.offset f.reason (so_far all) some fails
      by reads.NoMemory i = tt
      by (reads.Io kind) i = tt

  pub item_kept : (X Y : Type 0) (e : ReadError) → KeptSome {X = X} now new (Err e) → KeptSome {X = Y} old new (Err e)
  item_kept X Y (reads.Fault f) k = tt
  item_kept X Y reads.NoMemory k = (section_bytes s ++ k.0, omega (arith, k.1, length-append (section_bytes s) k.0), consumes_more old now new (section_bytes s) k.0 h.consumed k.2)
  item_kept X Y (reads.Io kind) k = tt

-- what is said of the same abbreviation section and start
pub said_there : (P : List ℕ → ℕ → Type 0) (tables abbreviations : List ℕ) (at there : ℕ) → tables ≡ abbreviations → at ≡ there → P tables at → P abbreviations there
said_there P tables abbreviations at there same is h = subst (λ (q : ℕ). P abbreviations q) is (subst (λ (t : List ℕ). P t at) same h)
