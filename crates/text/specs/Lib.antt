pub mod Lines
pub mod Tiles
pub mod Said
pub mod LineLaws
pub mod TileLaws
pub mod FilledLines
