-- What the proofs of several functions use.
mod RunFilling
mod AlphaLaws
