pub mod UpFromLaws
pub mod GroupLaws
pub mod ScanLaws
pub mod PlayLaws
pub mod ChangesLaws
