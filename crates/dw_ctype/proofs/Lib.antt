pub mod Answering
pub mod Appending
pub mod Befores
pub mod Chains
pub mod Gathered
pub mod InOrder
mod KindRows
pub mod LastZero
pub mod Levels
pub mod Pieces
pub mod SameNames
pub mod Spent
pub mod TypeRows
pub mod Typing
