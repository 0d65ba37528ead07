pub mod Calls
pub mod FileRows
pub mod MemSites
pub mod MemStreams
pub mod Scripts
