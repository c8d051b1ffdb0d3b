-- Demand 3, pages, evenings, built lexicons and the room for them as theorems, and the five nodes that meet their premises and those of run lookup.
pub mod StarredLaws
pub mod Demand3Laws
pub mod PagesLaws
pub mod Witness
pub mod PageWitness
pub mod SeekWitness
pub mod EveningLaws
pub mod EveningWitness
pub mod BuiltLexiconLaws
pub mod BuiltRoomLaws
pub mod BuiltWitness
