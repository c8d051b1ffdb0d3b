pub mod Repacking
pub mod RepackingLaws
pub mod Loading
pub mod Said
