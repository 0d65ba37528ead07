pub mod EveryReport
pub mod Images
pub mod Once
pub mod Stopped
pub mod Told
