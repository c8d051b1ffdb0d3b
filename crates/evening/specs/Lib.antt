pub mod History
pub mod Trusted
