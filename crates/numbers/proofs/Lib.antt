pub mod ByNumber
pub mod LentNumbers
pub mod ByWord
pub mod WordNumbersLaws
