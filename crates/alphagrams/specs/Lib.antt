pub mod Alphagrams
