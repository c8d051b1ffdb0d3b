-- What the proofs of several functions use.
mod GrowthLaws
mod SearchLaws
mod StoredLaws
mod TableLaws
