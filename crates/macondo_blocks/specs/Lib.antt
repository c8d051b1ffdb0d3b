pub mod Blocks
pub mod EntriesLaws
pub mod ArcsLaws
pub mod LettersLaws
