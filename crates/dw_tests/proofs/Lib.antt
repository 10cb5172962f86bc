pub mod SampleTables
pub mod SampleSteps
pub mod Drafting
