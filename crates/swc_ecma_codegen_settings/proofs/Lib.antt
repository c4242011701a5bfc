pub mod Begins
pub mod Finishes
