pub mod Planned
pub mod Said
