pub mod InsertLaws
pub mod AcceptsLaws
pub mod CrossLaws
pub mod MeaningLaws
