pub mod PutLaws
pub mod CloseLaws
pub mod AdvanceLaws
pub mod WorkLaws
pub mod TurnLaws
