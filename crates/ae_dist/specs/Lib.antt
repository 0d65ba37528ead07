pub mod Answers
pub mod Laws
pub mod Plan
pub mod Receiving
pub mod Sending
pub mod Steps
pub mod Telling
