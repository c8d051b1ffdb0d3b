-- What the proofs of several functions use.
mod CutLaws
pub mod PiecesLaws
pub mod LoadsItself
