-- What the files have:
-- - Feed: what a read of a unit returns and takes
-- - Taking: what is taken of a reader, step by step
-- - Cut: that bytes which hold a whole unit are never cut off; whole length fields
-- - NeverTruncated, UnitNeverTruncated: that bytes which reach the unit's end never break as Truncated, for each part
-- - Laws: the statements of the laws
-- - HeadFeed, BodyFeed, PlaceBytes, HeldCounts: feeds, which take bytes in pieces: their values, the bytes that they
--   took, what each call and the end of the input say, what is held
-- - BodyView, FieldSteps: the state of a pushed unit as that of the definitions; one step in the field at the place, as
--   the functions say it
-- - HeadFeedView, HeaderCut: the program's feeds of headers as those of the definitions; which headers are cut off
-- - CodeMoments: the moments of codes and nulls
-- - Room: whether a chain of entries has room for one
-- - FieldPlace, BreaksBehind, PlaceBreaks: a place where the next field begins, with all before it spelled; that the
--   unit's entries break where the next field breaks
-- - NextPlace, FieldFound: that each field which is found leads to such a place again
-- - NextField, FieldReader, FieldOutcomes: the next field by the plain reader, with the place behind it; what it gives,
--   by what stands at the front
-- - UnitAtPlace: where a unit breaks, by the place; when it is whole
-- - FeedInvariant, FeedAnswers, FeedSteps: what a feed of a body keeps; from there to its answers, one step at a time
-- - PlainFeed, EveryCut, PlainHeadFeed: plain feeds, and that each of their calls says what it has to, however the
--   bytes are cut
-- - PartialValues, PartialSteps: what was taken of a text or block that isn't whole: that it wants more, and what ends
--   it; a feed in the middle of one
-- - ContentSteps: a step in a text or block: it takes more of the content, ends with the last of it, or reaches the
--   unit's end
-- - NamedValues: a value by the form in effect, behind the form that an indirect value names
-- - LengthFields, Openings: what is kept of a value before its content, and a text or block that begins
-- - PlaceRows: a draft's size by its place
-- - HeldBounds, HeldView, SamePart, SameHeld: bounds on what a feed holds; what a feed says that it holds; that the
--   bytes of a value tell what is kept of it; that two feeds which took the same bytes hold the same
-- - FaultFirst: that a code which is refused is told before memory is wanted for it
-- - BodyFeedView, EmptyPiece: the program's feeds of units as those of the definitions; that an empty piece changes
--   nothing
-- - ValueSteps, EntrySteps: one step in a value; several fields that stand whole in a piece
-- - FirstValues, FieldTurns: the first values of an entry whose forms tell their sizes; how many fields may still come
-- - PlainValues, PlainSizes, ValueCut: values that are no texts or blocks: where they end; what is known of a value's
--   size before it is read; that a value is cut off by the input's end
-- - FedUnit: a unit whose bytes are pushed as one piece: what follows for it over an abbreviation section
-- - FeedReads: what is taken of a reader for a header, and for the bytes behind it
--
-- proofs/BodyFeedRows.antt and proofs/HeadFeedRows.antt are computed rows: places with what was taken and is wanted
-- there, and the answers of the plain feeds to pieces.

pub mod NeverTruncated
pub mod UnitNeverTruncated
pub mod CodeMoments
pub mod Feed
pub mod Cut
pub mod Taking
pub mod Laws
pub mod HeaderCut
pub mod HeadFeed
pub mod HeadFeedView
pub mod PlaceBytes
pub mod BodyFeed
pub mod HeldCounts
pub mod Room
pub mod FieldPlace
pub mod BreaksBehind
pub mod PlaceBreaks
pub mod NextPlace
pub mod FieldFound
pub mod NextField
pub mod UnitAtPlace
pub mod FieldReader
pub mod FieldOutcomes
pub mod FeedInvariant
pub mod FeedAnswers
pub mod PlainFeed
pub mod FeedSteps
pub mod EveryCut
pub mod PlainHeadFeed
pub mod PartialValues
pub mod PartialSteps
pub mod PlaceRows
pub mod HeldBounds
pub mod HeldView
pub mod SamePart
pub mod SameHeld
pub mod FieldSteps
pub mod FaultFirst
pub mod BodyView
pub mod BodyFeedView
pub mod FedUnit
pub mod FeedReads
pub mod Openings
pub mod ValueSteps
pub mod ValueCut
pub mod EmptyPiece
pub mod ContentSteps
pub mod NamedValues
pub mod LengthFields
pub mod FieldTurns
pub mod EntrySteps
pub mod FirstValues
pub mod PlainValues
pub mod PlainSizes
