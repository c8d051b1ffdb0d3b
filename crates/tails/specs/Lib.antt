pub mod KeyLaws
pub mod Tails
pub mod TailsLaws
