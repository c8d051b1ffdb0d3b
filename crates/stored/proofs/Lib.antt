-- What the proofs of several functions use.
pub mod SameLaws
pub mod InputLaws
