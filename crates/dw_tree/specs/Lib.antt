-- What the files have:
-- - Tree, Spelling: entries, trees, padding; the bytes of a tree by its structure alone
-- - Offset, Offsets: entries by their paths, with their offsets and ends; that two paths have two offsets
-- - Structure, RowBytes: that a tree which has a spelling is spelled by its structure alone; that its rows have its
--   bytes
-- - Paths: that an entry is handed out exactly where a path leads to it, and that its bytes are there
-- - ReadTree, DecideTree: the plain reader of trees, and that it decides them
-- - Row, Codes: trees as rows, and back; how the logic stores values that hold trees
-- - RowHeads: the heads of values and of rows; that the heads and the pool are those and no others (Account); heads at
--   a place
-- - Runs, ToldFronts: values whose form alone gives their size; those at the front of an entry
-- - WholeHeads, Grown: values without content, whose heads are their spelling; bytes that were put behind others
-- - Names: the name of the first attribute
-- - LeftPairs, FirstGiven: the pairs whose values an entry is still to be given; that an entry which begins is given
--   all of its first values, or none
-- - Sizes: how long a tree's lists are, by the bytes of its spelling
-- - Counts: how many entries and values a tree under construction has, and that a declaration asks for few
-- - Emptiness: whether a tree has no entry yet
-- - Levels: the number of the nesting's limit
-- - Next: the pair of the next value, and that a value under it fits as the next one
-- - Place, Steps, Ends: a tree with one open place, what each call makes of it, the offset of the next byte
-- - Flat, Completed, DraftInvariant: what the flat lists represent, what they become with an entry's last value, what
--   is true of them
-- - PoolBytes: the bytes of texts and blocks in the order of the entries, which the pool has and no others
-- - DraftView, TreeView: a draft's and a tree's fields as those of the definitions
-- - Lent: entries and attributes as a tree hands them out
-- - Put, Patch: a tree in which one number is another, and which edits can be made; what of the heads of an entry's
--   values becomes another
-- - Laws, Rising: the statements of the laws of entries and offsets; that offsets rise

pub mod Tree
pub mod Levels
pub mod Spelling
pub mod Offset
pub mod ReadTree
pub mod DecideTree
pub mod Offsets
pub mod Row
pub mod Codes
pub mod Place
pub mod Steps
pub mod FirstGiven
pub mod LeftPairs
pub mod Next
pub mod RowHeads
pub mod Runs
pub mod ToldFronts
pub mod WholeHeads
pub mod Grown
pub mod Flat
pub mod Completed
pub mod DraftInvariant
pub mod Counts
pub mod DraftView
pub mod TreeView
pub mod Lent
pub mod Names
pub mod Structure
pub mod Paths
pub mod Laws
pub mod Rising
pub mod Ends
pub mod Emptiness
pub mod PoolBytes
pub mod Sizes
pub mod RowBytes
pub mod Put
pub mod Patch
