-- What the files have:
-- - Header, FieldsView, FittingHeaders: headers and their fields; the program's fields; headers that fit
-- - HeaderPlace: where a header with its initial length is, its one spelling and size, its breaks
-- - ReadHeader, DecideHeader: the plain reader of headers, and that it decides them
-- - HeaderFound: that a header which the plain reader reads is at the front; the room that it takes
-- - Laws: the laws of headers, their statements and proofs
-- - HeaderMoments: the moment of a header with its initial length; that its spelling is a list of bytes

pub mod Header
pub mod HeaderPlace
pub mod ReadHeader
pub mod FieldsView
pub mod FittingHeaders
pub mod DecideHeader
pub mod HeaderFound
pub mod Laws
pub mod HeaderMoments
