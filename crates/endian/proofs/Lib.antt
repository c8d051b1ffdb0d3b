-- What the proofs use.
pub mod BytesLaws
pub mod BigLaws
pub mod PartStores
mod BigStores
