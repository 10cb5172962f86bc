mod Begins
pub mod Numbers
pub mod Zero
mod TextRows
