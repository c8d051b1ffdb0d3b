-- What the proofs of several functions use.
mod RunLaws
mod HeldLaws
mod RunCountedLaws
mod KnownLaws
mod NumberingLaws
mod PlacedLaws
