pub mod DiskFilesLemmas
pub mod DiskReplay
pub mod DiskPicked
pub mod DiskCalls
