pub mod FileTables
