pub mod ClearPaths
pub mod ChangesGiven
pub mod Sorting
pub mod VersionsApart
pub mod ReadableParts
