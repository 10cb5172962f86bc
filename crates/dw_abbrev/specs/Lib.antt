-- What the files have:
-- - Table: pairs, declarations, tables, the place of a table, its breaks
-- - ReadTable, DecideTable: the plain reader of tables, and that it decides them
-- - Place: reading at a place of a section, under every lim past its end
-- - Spelling: the bytes of a table by its structure alone
-- - FewPairs: that no declaration has more than 1,024 pairs
-- - Runs: declarations that stand one behind the other, and tables that meet at one of them
-- - Places: codes that are numbered, where each code stands, and codes of their own
-- - Prefix, Parts: the values at the front of an entry whose sizes their forms tell; what one of them adds
-- - Build: how the calls that build a table change it, and why they refuse
-- - Laws: the statements of the laws of tables at their places
-- - PairView, TableView, TableErrors: the program's pairs, tables and errors as those of the grammar
-- - PairTaken: a pair that goes to a list behind others, with the constant that its form has

pub mod Table
pub mod ReadTable
pub mod DecideTable
pub mod FewPairs
pub mod Place
pub mod PairView
pub mod PairTaken
pub mod TableView
pub mod Places
pub mod TableErrors
pub mod Spelling
pub mod Build
pub mod Prefix
pub mod Runs
pub mod Parts
pub mod Laws
