pub mod DirLaws
pub mod Rising
