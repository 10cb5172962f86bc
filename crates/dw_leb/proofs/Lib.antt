pub mod GroupLemmas
pub mod FixedLemmas
