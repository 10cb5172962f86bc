pub mod Behind
pub mod Entries
mod FindingRows
pub mod Items
pub mod Kept
pub mod LastZero
pub mod Repeating
pub mod Stored
pub mod Ordered
pub mod Listed
