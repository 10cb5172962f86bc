-- The laws of sections: their proofs, from the plain reader alone.
use Rattle.std.proofs.Common.{◌≡◌, ◌⊎◌, ℕ, ◌+◌, List, ◌++◌, length, refl, sym, ap, ◌∙◌, append_assoc, arith, inl, inr}
use Rattle.std.proofs.lemmas.List.{length-append}
use Rattle.dw_leb.specs.declared.errors.Reason.{Reason}
use Rattle.dw_leb.specs.declared.errors.SectionId.{SectionId}
use Rattle.dw_leb.specs.declared.order.Order.{Order}
use Rattle.dw_header.specs.declared.versions.Versions.{Versions}
use Rattle.dw_section.specs.Item.{Item}
use Rattle.dw_section.specs.Section.{items_bytes, SectionIs, SectionFails, section_bytes}
use Rattle.dw_section.specs.ReadSection.{SectionAnswer, Items, Fails, read_section}
use Rattle.dw_section.specs.DecideItem.{item_stays}
use Rattle.dw_section.specs.DecideSection.{SectionSays, section_take, section_fault, section_says}
use Rattle.dw_section.specs.Laws.{OneSection, OneFault, NotBoth, SomeAnswer, FaultsStay, WrittenIsRead, ReadIsWritten}

items_value : (xs ys : List Item) → Items xs ≡ Items ys → xs ≡ ys
items_value xs ys e = cc

fails_value : (s z : SectionId) (m n : ℕ) (r q : Reason) → Fails s m r ≡ Fails z n q → (s ≡ z) × (m ≡ n) × (r ≡ q)
fails_value s z m n r q e = (cc, cc, cc)

items_fails : (xs : List Item) (s : SectionId) (n : ℕ) (r : Reason) → Items xs ≡ Fails s n r → ⊥
items_fails xs s n r e = cc

pub one_section : OneSection
one_section versions order abbreviations bytes xs ys h g =
    items_value xs ys
    (sym (section_take versions order abbreviations xs bytes h)
    ∙ section_take versions order abbreviations ys bytes g)

pub one_fault : OneFault
one_fault versions order abbreviations bytes s z m n r q h g =
    fails_value s z m n r q
    (sym (section_fault versions order abbreviations bytes s m r h)
    ∙ section_fault versions order abbreviations bytes z n q g)

pub not_both : NotBoth
not_both versions order abbreviations bytes xs s n r h g =
    items_fails xs s n r
    (sym (section_take versions order abbreviations xs bytes h)
    ∙ section_fault versions order abbreviations bytes s n r g)

some_by : (versions : Versions) (order : Order) (abbreviations bytes : List ℕ) (a : SectionAnswer)
    → SectionSays versions order abbreviations bytes a
    → ((xs : List Item) × SectionIs versions order abbreviations xs bytes)
    ⊎ ((s : SectionId) × (n : ℕ) × (r : Reason) × SectionFails versions order abbreviations bytes s n r)
some_by versions order abbreviations bytes (Items xs) h = inl (xs, h)
some_by versions order abbreviations bytes (Fails s n r) h = inr (s, n, r, h)

pub some_answer : SomeAnswer
some_answer versions order abbreviations bytes fit_s fit =
    some_by versions order abbreviations bytes (read_section versions order abbreviations bytes)
    (section_says versions order abbreviations bytes fit_s fit)

pub faults_stay : FaultsStay
faults_stay versions order abbreviations bytes tail s n r ne h = record {
  before = h.before;
  rest = h.rest ++ tail;
  fit = h.fit;
  tables = h.tables;
  split = ap (λ (b : List ℕ). b ++ tail) h.split ∙ append_assoc (items_bytes h.before) h.rest tail;
  some = omega (arith, h.some, length-append h.rest tail);
  fails = item_stays versions order abbreviations (0 + length (items_bytes h.before)) h.rest tail s n r ne h.fails;
}

pub written_is_read : WrittenIsRead
written_is_read abbreviations s fits tables =
    let there : SectionIs s.versions s.order abbreviations s.items (section_bytes s) =
    record { fit = fits; tables = tables; spelled = refl } in
    record {
      there = there;
      only = λ others h. one_section s.versions s.order abbreviations (section_bytes s) others s.items h there;
      no_fault = λ z n r h. not_both s.versions s.order abbreviations (section_bytes s) s.items z n r there h;
    }

pub read_is_written : ReadIsWritten
read_is_written versions order abbreviations items bytes h = (h.fit, h.spelled)
