pub mod Faults
pub mod Prints
pub mod Words
