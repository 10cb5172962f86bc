pub mod EntryLemmas
pub mod UnitWritten
mod Samples
mod NumberRows
mod TableRows
mod FormRows
mod ValueRows
mod HeaderRows
mod UnitRows
mod EntryRows
mod WrittenRows
pub mod DraftLemmas
pub mod EachValue
pub mod PutValues
pub mod OpenLemmas
pub mod Found
pub mod Edited
