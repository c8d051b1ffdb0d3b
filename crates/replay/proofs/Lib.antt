-- What the proofs of several functions use.
pub mod LookupLaws
pub mod TileLaws
pub mod CountLaws
pub mod FileLaws
pub mod RoomLaws
pub mod TypedLaws
pub mod BuildLaws
pub mod VerdictLaws
