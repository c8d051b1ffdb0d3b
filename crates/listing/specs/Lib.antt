pub mod Lines
pub mod Wordlist
pub mod Blocks
pub mod Printing
pub mod Said
pub mod NextLaws
