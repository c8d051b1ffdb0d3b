pub mod NodeMarks
pub mod NodeMarksLaws
pub mod Stack
pub mod Search
