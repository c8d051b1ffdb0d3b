pub mod RunLaws
pub mod NumberingLaws
pub mod WritingLaws
pub mod GraphLaws
pub mod BuildLaws
