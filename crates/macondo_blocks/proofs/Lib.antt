-- What the proofs of several functions use.
mod ArcCounts
mod Order
mod RankTable
mod LetterOrder
mod Runs
mod BlockNumberingLaws
