pub mod Record
pub mod RecordLaws
pub mod Depths
pub mod DepthsLaws
