-- One more item of a section, and why a unit is refused; a unit that is not refused fits there.
use Rattle.std.specs.Prelude.{◌≡◌, ◌+◌, ◌^◌, Bool, true, false, [], ◌∷◌, ◌++◌, length, Option, Some, None, nat_lt}
use Rattle.std.proofs.Common.{refl, subst, arith}
use Rattle.std.proofs.lemmas.Bool.{ltb-true}
use Rattle.std.proofs.lemmas.List.{length-append}
use Rattle.dw_leb.specs.declared.order.Order.{Order}
use Rattle.dw_leb.specs.declared.order.Order.TheVariants.{Little, Big}
use Rattle.dw_header.specs.declared.kind.Kind.{Kind}
use Rattle.dw_header.specs.declared.kind.Kind.TheVariants.{Compile, Partial, TypeUnit, Skeleton, Four}
use Rattle.dw_header.specs.declared.versions.Versions.{Versions}
use Rattle.dw_header.specs.declared.versions.Versions.TheVariants.{Five, FourAndFive}
use Rattle.dw_header.specs.Header.{Accepts}
use Rattle.dw_leb.specs.Number.{length_field, initial_length}
use Rattle.dw_leb.specs.DecideNumber.{initial-size}
use Rattle.dw_unit.specs.Unit.{WholeUnit, UnitFits, body_bytes, bytes_of}
use Rattle.dw_section.specs.declared.refusal.SectionRefusal.{SectionRefusal}
use Rattle.dw_section.specs.declared.refusal.SectionRefusal.TheVariants.{WrongOrder, WrongVersion, TooLong, NoMemory}
use Rattle.dw_section.specs.Item.{Item, KnownFits}
use Rattle.dw_section.specs.ItemPlace.{fits_at}
use Rattle.dw_section.specs.Section.{WholeSection, section_bytes}

-- one more item behind the others
abbrev pub with_item : WholeSection → Item → WholeSection
with_item s x = record { order = s.order; versions = s.versions; items = s.items ++ x ∷ [] }

abbrev pub same_order : Order → Order → Bool
same_order Little Little = true
same_order Little Big = false
same_order Big Little = false
same_order Big Big = true

-- a unit of this kind is of a version that is accepted
abbrev pub accepts : Versions → Kind → Bool
accepts FourAndFive kind = true
accepts Five Compile = true
accepts Five Partial = true
accepts Five (TypeUnit signature offset) = true
accepts Five (Skeleton id) = true
accepts Five Four = false

abbrev pub refused_unless : Bool → SectionRefusal → Option SectionRefusal → Option SectionRefusal
refused_unless true why later = later
refused_unless false why later = Some why

-- why a unit isn't added, in this order
abbrev pub push_refusal : WholeSection → WholeUnit → Option SectionRefusal
push_refusal s u =
    refused_unless (same_order u.header.order s.order) WrongOrder
    (refused_unless (accepts s.versions u.header.kind) WrongVersion
    (refused_unless (nat_lt (length (section_bytes s) + length (bytes_of u)) (2 ^ 63)) TooLong None))

-- a call that nothing else refuses is refused for want of memory
abbrev pub or_memory : Option SectionRefusal → SectionRefusal
or_memory None = NoMemory
or_memory (Some why) = why

-- ---- a unit that is not refused

unless : (b : Bool) (why : SectionRefusal) (later : Option SectionRefusal) → refused_unless b why later ≡ None
    → (b ≡ true) × (later ≡ None)
unless true why later e = (refl, e)
unless false why later e = absurd cc

order_is : (one other : Order) → same_order one other ≡ true → one ≡ other
order_is Little Little e = refl
order_is Little Big e = absurd cc
order_is Big Little e = absurd cc
order_is Big Big e = refl

accepted : (versions : Versions) (kind : Kind) → accepts versions kind ≡ true → Accepts versions kind
accepted FourAndFive kind e = tt
accepted Five Compile e = tt
accepted Five Partial e = tt
accepted Five (TypeUnit signature offset) e = tt
accepted Five (Skeleton id) e = tt
accepted Five Four e = absurd cc

pub allowed_fits : (s : WholeSection) (u : WholeUnit) → push_refusal s u ≡ None → UnitFits u
    → KnownFits s.versions s.order (length (section_bytes s)) u
allowed_fits s u allowed fits =
    let one = unless (same_order u.header.order s.order) WrongOrder _ allowed in
    let two = unless (accepts s.versions u.header.kind) WrongVersion _ one.1 in
    let three = unless (nat_lt (length (section_bytes s) + length (bytes_of u)) (2 ^ 63)) TooLong None two.1 in
    let below = ltb-true (length (section_bytes s) + length (bytes_of u)) (2 ^ 63) three.0 in
    let n = length (body_bytes u) in
    let same = order_is u.header.order s.order one.0 in
    let near =
    fits_at u.header.order (length (section_bytes s)) u.header.format n fits.length_fits
    (omega (
      arith,
      below,
      length-append ((length_field u.header.order).spell (u.header.format, n)) (body_bytes u),
      initial-size u.header.order 0 u.header.format n,
    )) in
    record {
      order_is = same;
      accepted = accepted s.versions u.header.kind two.0;
      fits = fits;
      length_fits = subst (λ (o : Order). (initial_length o (length (section_bytes s))).Fits (u.header.format, n))
          same near;
    }
