pub mod Zero
pub mod Spelled
mod Found
mod PlainHead
mod NumberHead
