-- specs/Types says what the text of a type is, specs/Texts the names of errors, specs/Names how entries are written by
-- their tags, specs/Visits how many visits a text needs, specs/View sees the program's section and texts as those of
-- the definitions. specs/InOrder says the same text as what stands before the declarator, the declarator, and what
-- stands behind it, for code that appends; said_in_order (proofs/InOrder.antt) proves it equal. specs/Append says what
-- a call leaves that appends a text (Puts), specs/Answer what is answered for an entry. specs/Parts says what is kept
-- of an entry (ArePartsOf); kept_visits, kept_texts and kept_dimensions (proofs/Gathered.antt) prove that it says as
-- much as all of the entry's children do. What isn't kept, where memory was refused or there are few children and
-- visits, is looked up at each visit. specs/Chain says what is so of a chain (IsChain): its text is whole, nothing
-- stands behind its declarator, and it needs few visits; and what a call leaves that appends a text, or nothing where
-- it is none of a chain (Tried). specs/SameTexts says when the same can be read in sections of texts; said_same
-- (proofs/SameNames.antt) proves that the texts of types are the same then. proofs/TypeRows.antt and
-- proofs/KindRows.antt are computed rows.

pub mod Answer
pub mod Append
pub mod Chain
pub mod SameTexts
pub mod InOrder
pub mod Names
pub mod Parts
pub mod Texts
pub mod Types
pub mod View
pub mod Visits
