pub mod LowForms
pub mod Counted
pub mod ShortNumbers
pub mod PairLemmas
pub mod DeclLemmas
pub mod TableLemmas
pub mod SpellLemmas
pub mod ListLemmas
pub mod PlaceLemmas
pub mod Kept
pub mod BuildLemmas
mod BuildRows
pub mod SharedLemmas
pub mod RunLemmas
