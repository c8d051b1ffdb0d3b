pub mod Labels
pub mod Index
pub mod Refusals
pub mod Said
pub mod LabelLaws
pub mod Matches
pub mod MatchLaws
