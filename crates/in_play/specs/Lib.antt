pub mod InPlay
pub mod Groups
pub mod Said
pub mod RecordLaws
pub mod Changes
