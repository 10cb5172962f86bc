pub mod Filled
pub mod Helpless
pub mod Numbers
pub mod Subcommands
