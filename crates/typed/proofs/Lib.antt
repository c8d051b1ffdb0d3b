-- What the proofs of several functions use.
mod BatchLaws
mod NextLaws
mod WordBuffer
