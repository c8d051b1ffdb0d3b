pub mod Bytes
pub mod Putting
pub mod Puts
