pub mod Said
pub mod BlocksHeld
