pub mod Numbers
pub mod Lines
pub mod LineLaws
pub mod Inputs
pub mod CountLaws
pub mod Answers
pub mod CaseTally
