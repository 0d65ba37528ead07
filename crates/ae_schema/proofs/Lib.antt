pub mod Places
pub mod RowLists
pub mod Texts
pub mod ToldFormats
pub mod Fine
pub mod ReadAs
pub mod Options
mod FieldsFit
mod Decided
pub mod Every
pub mod Put
