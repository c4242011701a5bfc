-- What stands between tokens, and what the gap rules look at.
pub mod AfterBlanks
pub mod AfterPunctuators
pub mod Entries
pub mod InLine
pub mod Indented
pub mod Marks
pub mod NoPunctuator
pub mod Spots
pub mod Starting
pub mod Written
