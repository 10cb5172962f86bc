pub mod Appending
mod Digits
pub mod Placed
pub mod Pieces
pub mod Finding
pub mod Named
mod Buffered
mod TwoDigits
mod ShowRows
pub mod Writing
