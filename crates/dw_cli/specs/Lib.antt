-- specs/Line says what the program takes and what a line says, in clap's own definitions, and how the program ends with
-- words that aren't taken. specs/Words says what words spell and name, and what the user is told of one that doesn't,
-- specs/Run which files are read whole and which section each is, and how a run by a line ends. proofs/Filled and
-- proofs/Subcommands show that words which the parser takes have what their subcommand wants, proofs/Helpless that they
-- don't ask for help, proofs/Numbers what the standard library's parser of digits gives in the words of the grammar.

pub mod Line
pub mod Run
pub mod Words
