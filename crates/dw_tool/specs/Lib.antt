-- Only what the program, the command line and tests call is public: command, failure, names, output, run, status.
--
-- specs/Names holds the names, specs/Text the texts of numbers and names, specs/Output what a call that appends a text
-- leaves of an output, specs/Show the text of a section, specs/Pieces the same text of an entry with each newline
-- before the line behind it, for code that appends (pieces_are in proofs/Pieces proves it equal), specs/Find the
-- entries of a name, specs/TypeOf the line of a type, specs/Findings those of findings, specs/Set the section in which
-- a number is set, specs/Place a unit in its section and an entry of it, specs/Run what a run reads and writes,
-- specs/Status what errors of reading and writing become, specs/Failure the line and the exit status of each failure.
-- proofs/ShowRows.antt are computed rows: the texts of sections that the plain reader reads.

pub mod Names
pub mod Text
pub mod TypeOf
pub mod Show
pub mod Pieces
pub mod Find
pub mod Findings
pub mod Place
pub mod Status
pub mod Failure
pub mod Set
pub mod Run
pub mod Output
