pub mod Overlay
pub mod Beside
pub mod Live
pub mod Blamed
