pub mod PlaceLaws
pub mod ExactlyLaws
pub mod CallLaws
pub mod EveningLaws
