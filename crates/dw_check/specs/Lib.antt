-- specs/Findings says what is found, specs/Kinds the numbers and the names of the kinds, specs/Repeats what
-- declarations tell of repeated names and of attributes that aren't looked at, specs/Wrong the findings of what is
-- wrong with an attribute, specs/Ends where texts end, specs/Place sees the program's unit in its section as that of
-- the definitions. specs/Laws states the laws, which proofs/Ordered and proofs/Listed prove. proofs/FindingRows.antt is
-- computed rows.

pub mod Ends
pub mod Findings
pub mod Kinds
pub mod Repeats
pub mod Place
pub mod Wrong
pub mod Laws
