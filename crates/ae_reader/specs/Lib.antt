pub mod Cut
pub mod Reader
