-- What the proofs of several functions use.
mod NumberLaws
mod RunLaws
