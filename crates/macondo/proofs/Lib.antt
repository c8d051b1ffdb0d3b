-- What the proofs of several functions use.
mod RankLaws
mod Rows
mod SizeLaws
mod TablesLaws
mod Tests
