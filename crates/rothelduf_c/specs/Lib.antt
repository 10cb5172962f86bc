-- What the files have:
-- - Owned, FeedOwned: what a handle owns
-- - Status: what calls answer
-- - Numbers: the numbers of faults and refusals
-- - Seen: units, entries, attributes and findings as C sees them
-- - Opens: what a section that C opened is, and why bytes are refused
-- - Walked: the entries and attributes that one call gives
-- - Headed: a header that came
-- - Feeds: what C is told of a unit that it pushes in pieces
-- - Texts: where a text stands, as C is told
-- - Places: where the contents of texts and blocks stand in the bytes that C has

pub mod Owned
pub mod FeedOwned
pub mod Status
pub mod Numbers
pub mod Seen
pub mod Opens
pub mod Walked
pub mod Headed
pub mod Feeds
pub mod Texts
pub mod Places
