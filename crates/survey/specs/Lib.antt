pub mod ByArc
pub mod RunCounted
pub mod Survey
pub mod ReachLaws
