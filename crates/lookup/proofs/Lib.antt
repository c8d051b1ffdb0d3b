-- What the proofs of several functions use.
mod RunSearchLaws
mod PassedLaws
mod WordIndexLaws
mod WordByIndexLaws
mod Buffer
pub mod FoundLaws
pub mod WordsBeforeLaws
