-- What the proofs of several functions use.
mod NextNode
mod InPlace
mod SameLayoutLaws
mod HeldLaws
mod PieceLaws
pub mod BeginLaws
pub mod StateLaws
pub mod FeedLaws
pub mod FinishLaws
