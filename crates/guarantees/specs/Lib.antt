pub mod Starred
pub mod Demand3
pub mod Pages
pub mod Evening
pub mod BuiltLexicon
pub mod BuiltRoom
