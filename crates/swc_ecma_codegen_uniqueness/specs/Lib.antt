pub mod ParseTrees
pub mod Parses
pub mod Parting
pub mod Words
