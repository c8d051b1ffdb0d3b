-- What the proofs of several functions use.
mod LabelLaws
mod PutLaws
mod HeldLaws
mod PageLaws
mod WalkingLaws
mod RowByRow
pub mod ColumnsLaws
pub mod ShowsLaws
