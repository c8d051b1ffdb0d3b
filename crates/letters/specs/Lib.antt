pub mod LetterBits
pub mod AlphaSets
pub mod TallyLaws
pub mod Refusals
pub mod Said
