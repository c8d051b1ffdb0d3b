-- What the proofs of several functions use.
mod Rows
mod Steps
mod WalkLaws
mod Roots
mod Results
