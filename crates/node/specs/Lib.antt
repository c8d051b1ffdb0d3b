pub mod Nodes
pub mod PackingLaws
pub mod PackedLaws
pub mod Said
pub mod SaidLaws
