pub mod FileRowLaws
pub mod Pieces
pub mod ScriptLaws
