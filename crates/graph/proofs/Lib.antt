-- What the proofs of several functions use.
mod AlongNodes
pub mod CountedOnce
pub mod WordsAscend
pub mod WordsEquationLaws
pub mod CountEquationLaws
