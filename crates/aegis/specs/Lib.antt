pub mod Help
pub mod Top
