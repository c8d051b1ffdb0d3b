-- What the proofs of several functions use.
mod EntryLaws
mod OrderLaws
mod ReadingLaws
mod RangeLaws
mod ReadyLaws
mod SearchLaws
