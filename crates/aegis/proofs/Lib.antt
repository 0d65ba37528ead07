mod Asked
pub mod Top
