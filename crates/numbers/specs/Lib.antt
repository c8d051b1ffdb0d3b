pub mod WordNumbers
pub mod Walkable
pub mod LentLaws
pub mod RunWords
pub mod TileSearch
