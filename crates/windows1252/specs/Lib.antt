pub mod Windows1252
pub mod Encoded
