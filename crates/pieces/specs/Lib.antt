pub mod Pieces
pub mod JoinLaws
pub mod Said
