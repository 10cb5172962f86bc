-- What the files have:
-- - Item: items: their one spelling, what shows their kind, which fit at a start, their breaks
-- - Section: sections: their one spelling, the first fault; the program's sections
-- - ItemPlace: from a unit at the front to an item, from bytes of no known kind to one; which bytes show the kind
-- - ReadSection, DecideItem, DecideSection: the plain reader of items and sections, and that it decides them
-- - Streamed: what a loop keeps that reads item by item, and its steps, without the plain reader
-- - FedItems: what feeds say of the bytes that they took, as such steps
-- - Reads: what a read of a section, or of an item, answers and takes; an item of which some bytes were taken
-- - Reference, Lookup: what a value under a form names; items by number, their starts, the item that holds an offset
-- - Found: where an entry begins in its section, and that each is found there
-- - EntryOffsets: what the bits of offsets say of a unit
-- - StringBase: the base of a unit's strings
-- - Push: one more item, and why a unit is refused
-- - SetNumber, Sibling: a section in which one number is another, and why a number isn't put; the one right value of a
--   DW_AT_sibling
-- - Texts: the names of faults and refusals, as they are printed
-- - ItemView, SectionView: the program's items as those of the definitions; what a section keeps besides them
-- - Laws, SectionLaws, ReferenceLaws: the statements of the laws; their proofs
--
-- proofs/SectionRows.antt, proofs/ReferenceRows.antt and proofs/SetRows.antt are computed rows: sections by the plain
-- reader, what the attributes of their entries name, and numbers that are put in them.

pub mod Item
pub mod ItemPlace
pub mod Section
pub mod ReadSection
pub mod DecideItem
pub mod DecideSection
pub mod Laws
pub mod SectionLaws
pub mod Streamed
pub mod Reference
pub mod EntryOffsets
pub mod Lookup
pub mod StringBase
pub mod ItemView
pub mod Push
pub mod SectionView
pub mod FedItems
pub mod Reads
pub mod Found
pub mod ReferenceLaws
pub mod Sibling
pub mod SetNumber
pub mod Texts
