-- What a section that C opened is, and how a fault is told to C.
use Rattle.std.specs.Prelude.{◌≡◌, ℕ, List, Bool, true, false}
use Rattle.dw_leb.specs.declared.errors.Fault.{Fault}
use Rattle.dw_leb.specs.declared.order.Order.{Order}
use Rattle.dw_leb.specs.declared.order.Order.TheVariants.{Little, Big}
use Rattle.dw_header.specs.declared.versions.Versions.{Versions}
use Rattle.dw_header.specs.declared.versions.Versions.TheVariants.{Five, FourAndFive}
use Rattle.dw_section.specs.Section.{WholeSection, SectionIs, SectionFails}
use Rattle.rothelduf_c.specs.declared.structs.CFault.{CFault}
use Rattle.rothelduf_c.specs.Numbers.{section_number, reason_number}

abbrev pub order_of : Bool → Order
order_of true = Big
order_of false = Little

abbrev pub versions_of : Bool → Versions
versions_of true = FourAndFive
versions_of false = Five

-- the section is all of these bytes, over this section of tables
pub record IsOpened (versions : Versions) (order : Order) (abbreviations info : List ℕ) (s : WholeSection)
    : Type 0 where
  pub order_is : s.order ≡ order
  pub versions_is : s.versions ≡ versions
  pub is : SectionIs versions order abbreviations s.items info

-- the first fault of these bytes, as C is told of it
pub record IsFaultOf (versions : Versions) (order : Order) (abbreviations info : List ℕ) (c : CFault) : Type 0 where
  pub fault : Fault
  pub fails : SectionFails versions order abbreviations info fault.section fault.offset fault.reason
  pub section : c.section ≡ section_number fault.section
  pub offset : c.offset ≡ fault.offset
  pub reason : c.reason ≡ reason_number fault.reason
