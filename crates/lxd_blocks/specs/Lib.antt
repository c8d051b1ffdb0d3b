pub mod RunsNumbered
pub mod NumberedLaws
pub mod Placed
