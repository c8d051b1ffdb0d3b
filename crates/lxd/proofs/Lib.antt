-- What the proofs of several functions use.
mod CallLaws
mod HeaderLaws
mod PlannedLaws
mod WalkLaws
