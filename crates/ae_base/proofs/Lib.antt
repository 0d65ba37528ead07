pub mod RowLemmas
pub mod ByteFacts
pub mod PathParts
pub mod WordTables
pub mod WordsFound
pub mod Ascii
pub mod Results
