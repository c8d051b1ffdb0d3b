pub mod FileLaws
pub mod NodesLaws
pub mod RowLaws
pub mod RunsLaws
pub mod SpellingLaws
