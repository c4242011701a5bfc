pub mod Ends
pub mod KeptLines
