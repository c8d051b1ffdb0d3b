pub mod Said
pub mod CountWalk
