-- What the files have:
-- - Constants: the numbers of tags, attributes and forms by the names of the standard
-- - Part, Repeat: what a part of the grammar is, and the combinators
-- - Number: numbers, texts, contents, initial lengths
-- - Reader, ReadNumber: the plain reader: its combinators, and numbers
-- - Decide, DecideNumber, DecideRepeat, Digits: that the plain reader decides each part
-- - PartLaws, Laws: the laws that follow for each part; the laws of numbers and lengths
-- - Moments, NumberMoments: after how many bytes of a field its outcome first stands: the combinators; numbers, texts,
--   lengths
-- - ByteLists: lists of bytes; that numbers and lengths are spelled in bytes
-- - Field: from the plain reader's result to the clauses of a call that reads one field
-- - ItemSteps: the plain reader of items, step by step, for loops
-- - Scan: how the code finds a number, as functions
-- - Outcomes: the result of a call that reads a part, as an outcome of the plain reader
-- - View: uleb_of, sleb_of: numbers of the program as numbers of the grammar
-- - ErrorText: the texts of reasons and faults
-- - Watch, Transfers, PartlyWritten: faults that are kept; known bytes over several reads and writes; bytes of which
--   some are written
-- - Devices: what Stepped does at each call

pub mod Constants
pub mod Part
pub mod Number
pub mod Repeat
pub mod Reader
pub mod ReadNumber
pub mod Decide
pub mod PartLaws
pub mod Digits
pub mod DecideNumber
pub mod DecideRepeat
pub mod Scan
pub mod Field
pub mod ErrorText
pub mod Watch
pub mod Transfers
pub mod Devices
pub mod Laws
pub mod View
pub mod ItemSteps
pub mod PartlyWritten
pub mod Outcomes
pub mod Moments
pub mod NumberMoments
pub mod ByteLists
