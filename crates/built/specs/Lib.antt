pub mod Branches
pub mod Built
pub mod Lexicon
pub mod Listed
pub mod Build
pub mod Claim
pub mod BranchLaws
