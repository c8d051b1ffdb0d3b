pub mod HalvesLaws
pub mod Letters
pub mod SetNumbers
