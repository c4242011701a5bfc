pub mod Bytes
pub mod Folds
pub mod Kept
pub mod MapsIn
pub mod Parts
pub mod Texts
