-- What the proofs of several functions use.
mod BlockNodes
mod SectionLaws
