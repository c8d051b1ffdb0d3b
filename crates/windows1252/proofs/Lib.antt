-- What the proofs of several functions use.
mod PlaceLaws
pub mod Windows1252Laws
