-- What the files have:
-- - Form: forms, shapes, values, the spelling of a value
-- - ReadForm, DecideForm: the plain reader of values, and that it decides them
-- - FormMoments: the moments of values
-- - FormSize: the forms whose values have a size that the form tells; that the form table says the same
-- - Lent, StoredView: borrowed and stored values as values of the grammar
-- - Pieces: a spelling in three pieces, for the writer and for sizes
-- - ValueErrors: what an error of reading a value says
-- - NamedForms: that what has a spelling names a form of the table
-- - Fit: which values have a spelling under a form, as a test
-- - Head, HeadLent, BareFits: heads of values, read by a function; that a head gives the value for which it was made;
--   that the form tells which values have no bytes
-- - HeadFront, HeadSize: that a head begins with the front of the value's spelling; how long heads are
-- - Renumber, Renumbered: another number in the place of a value's own; that the value then has a spelling of the same
--   size

pub mod Form
pub mod ReadForm
pub mod DecideForm
pub mod Lent
pub mod StoredView
pub mod ValueErrors
pub mod Pieces
pub mod NamedForms
pub mod Fit
pub mod Head
pub mod BareFits
pub mod HeadLent
pub mod HeadFront
pub mod HeadSize
pub mod FormSize
pub mod FormMoments
pub mod Renumber
pub mod Renumbered
