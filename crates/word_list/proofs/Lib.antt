-- What the proofs of several functions use.
mod PartingLaws
mod MarkLaws
mod CheckLaws
