pub mod Ends
pub mod Starts
pub mod Defaults
