pub mod KeyNumbered
pub mod Keys
pub mod NumberingLaws
pub mod Tree
