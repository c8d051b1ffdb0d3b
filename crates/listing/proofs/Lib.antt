-- What the proofs of several functions use, and the theorem on what the program prints.
mod LinesLaws
mod PutLaws
mod BlocksLaws
mod WordLaws
mod OpeningLaws
mod ListedLaws
mod PrintsLaws
mod FiveNodes
