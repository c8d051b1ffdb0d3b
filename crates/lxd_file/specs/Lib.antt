pub mod CopiedLaws
pub mod File
pub mod Reading
pub mod Row
pub mod Spelling
