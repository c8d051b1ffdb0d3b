pub mod Alphabet
pub mod File
pub mod Reading
pub mod Row
pub mod RowLaws
pub mod Spelling
