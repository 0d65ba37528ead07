pub mod DiskFiles
pub mod DiskLog
pub mod DiskLaws
pub mod DiskShort
pub mod DiskPick
pub mod MemDisk
