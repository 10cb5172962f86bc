-- specs/Text says what a text form names, specs/TextView sees the program's sections and answers as those of the
-- definitions, specs/FaultText has the names of faults. specs/LastZero has what is so of texts before the last zero
-- byte of a section and behind it, specs/SamePlaces that where a text begins is told by the string offsets alone.
-- proofs/TextRows.antt is computed rows.

pub mod FaultText
pub mod LastZero
pub mod SamePlaces
pub mod Text
pub mod TextView
