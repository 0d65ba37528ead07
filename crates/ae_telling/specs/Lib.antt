pub mod Answered
pub mod Messages
pub mod Telling
pub mod Sinks
