pub mod Steps
pub mod StepsLaws
pub mod Walks
pub mod WalkedLaws
pub mod GraphLent
pub mod WordsBefore
pub mod Refusals
pub mod Said
