-- What the proofs of several functions use.
mod NextLaws
mod ReleaseLaws
mod StackLaws
mod SearchLaws
mod RootLaws
